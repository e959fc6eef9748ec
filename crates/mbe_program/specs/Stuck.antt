-- At which parts of a pattern the arrivals of a search are stuck.
use Rattle.std.specs.Prelude.{◌≡◌, ◌<◌, ◌≤◌, ℕ, Bool, List, length}
use Rattle.mbe_matcher.specs.Marks.{Note}
use Rattle.mbe_matcher.specs.Waiting.{IsSet}
use Rattle.mbe_program.specs.Moving.{AreMoves}
use Rattle.mbe_program.specs.Numbering.{part_at}
use Rattle.mbe_program.specs.Program.{Instruction}
use Rattle.mbe_program.specs.Tables.{Table}
use Rattle.mbe_program.specs.Ways.{Coming, IsAt}
use Rattle.mbe_program.specs.declared.cell.Cell.{Cell}
use Rattle.mbe_program.specs.declared.moves.Moves.TheVariants as moves

module _ (program : List Instruction) (table : Table) (left : ℕ) where
  -- the cell is inside a level and before an instruction, that many tokens are left, and no step leads on
  abbrev pub IsStuckCell : Cell → Type 0
  IsStuckCell it = (0 < it.position) × (0 < it.left) × (table.left it.position ≡ left) × AreMoves program table it moves.Nowhere

  -- an arrival is so at the part of that number
  abbrev pub HasStuck : (parts : List ℕ) → (log : List (Coming Cell Note)) → (number : ℕ) → Type 0
  HasStuck parts log number = (k : ℕ) × (it : Coming Cell Note) × IsAt Cell Note log k it × IsStuckCell it.cell × (part_at parts it.cell.left ≡ number)

  -- the flags of these numbers are set; there is a flag for each number below the count of parts
  pub record AreStuck (parts : List ℕ) (log : List (Coming Cell Note)) (flags : List Bool) : Type 0 where
    pub each : (number : ℕ) → IsSet flags number → HasStuck parts log number
    pub all : (number : ℕ) → HasStuck parts log number → number < length flags → IsSet flags number
    pub count : length flags ≡ length parts

-- no arrival has more instructions left than the program has
abbrev pub AreInside : (program : List Instruction) → (log : List (Coming Cell Note)) → Type 0
AreInside program log = (k : ℕ) → (it : Coming Cell Note) → IsAt Cell Note log k it → it.cell.left ≤ length program
