-- The program that pieces make, from the last piece to the first.
use Rattle.std.specs.Prelude.{ℕ, ◌-◌, List, [], ◌∷◌, length, reverse}
use Rattle.mbe_pattern.specs.declared.pattern.RepeatKind.{RepeatKind}
use Rattle.mbe_program.specs.Moving.{instructions_of}
use Rattle.mbe_program.specs.Pieces.{Bit, plain, begin, close}
use Rattle.mbe_program.specs.Program.{Instruction}
use Rattle.mbe_program.specs.Program as to
use Rattle.mbe_program.specs.declared.assemble.Made.{Made as Own}

-- the instructions so far, and how many follow each open repetition, the innermost first
pub record Made : Type 0 where
  pub program : List Instruction
  pub ends : List ℕ

abbrev pub made_of : Own → Made
made_of own = record { program = instructions_of (reverse own.program.items); ends = reverse own.ends.items }

-- a repetition begins, of which the first round begins with so many instructions left
abbrev pub begun_with : RepeatKind → (first : ℕ) → (ends : List ℕ) → Made → Made
begun_with op first [] made = made
begun_with op first (behind ∷ ends) made = record { program = to.begin op first behind ∷ made.program; ends = ends }

-- one more piece before what was made, in a program of that many instructions
abbrev pub made_with : (total : ℕ) → Bit → Made → Made
made_with total (plain it) made = record { program = it ∷ made.program; ends = made.ends }
made_with total (begin op first) made = begun_with op (total - first) made.ends made
made_with total (close op again) made = record { program = to.close op (total - again) ∷ made.program; ends = length made.program ∷ made.ends }

-- all these pieces before what was made
abbrev pub made_by : (total : ℕ) → List Bit → Made → Made
made_by total [] made = made
made_by total (it ∷ others) made = made_with total it (made_by total others made)

abbrev pub nothing_made : Made
nothing_made = record { program = []; ends = [] }
