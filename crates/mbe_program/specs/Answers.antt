-- In how many ways a program runs through an input, and how far it comes.
use Rattle.std.specs.Prelude.{◌≡◌, ◌+◌, ◌≤◌, ℕ, List, [], ◌∷◌, map}
use Rattle.mbe_matcher.specs.Marks.{Note, note_of}
use Rattle.mbe_matcher.specs.Places.{left_in}
use Rattle.tt.specs.Forest.{Forest, size}
use Rattle.mbe_program.specs.Program.{Instruction}
use Rattle.mbe_program.specs.Runs.{Goes, IsRun}
use Rattle.mbe_program.specs.declared.outcome.Answer.{Answer}
use Rattle.mbe_program.specs.declared.outcome.Answer.TheVariants as answer

-- there is no run
abbrev pub HasNoRun : (program : List Instruction) → (input : Forest) → Type 0
HasNoRun program input = (notes : List Note) → IsRun program input notes → ⊥

-- there is a run with these notes, and no run with others
pub record HasOneRun (program : List Instruction) (input : Forest) (notes : List Note) : Type 0 where
  pub runs : IsRun program input notes
  pub alone : (other : List Note) → IsRun program input other → other ≡ notes

-- there are two runs with different notes
pub record HasTwoRuns (program : List Instruction) (input : Forest) : Type 0 where
  pub one : List Note
  pub other : List Note
  pub differ : one ≡ other → ⊥
  pub one_runs : IsRun program input one
  pub other_runs : IsRun program input other

-- that many tokens are left
abbrev pub HasLeft : (left : ℕ) → (place : List Instruction) → (levels : List Forest) → Type 0
HasLeft left place levels = left ≡ left_in levels

-- some steps of the program come so far into an input that this many tokens are left
abbrev pub Reaches : (program : List Instruction) → (input : Forest) → (left : ℕ) → Type 0
Reaches program input left = (steps : ℕ) × (notes : List Note) × Goes program (HasLeft left) steps program (input ∷ []) notes

-- the farthest flat place that steps of the program come to
pub record Reach (program : List Instruction) (input : Forest) (at : ℕ) : Type 0 where
  pub left : ℕ
  pub reaches : Reaches program input left
  pub least : (other : ℕ) → Reaches program input other → left ≤ other
  pub place : at + left ≡ size input

-- it is the answer to the question in how many ways the program runs
abbrev pub IsAnswer : (program : List Instruction) → (input : Forest) → Answer → Type 0
IsAnswer program input (answer.NoRun at) = HasNoRun program input × Reach program input at
IsAnswer program input (answer.OneRun marks) = HasOneRun program input (map note_of marks.items)
IsAnswer program input answer.TwoRuns = HasTwoRuns program input
