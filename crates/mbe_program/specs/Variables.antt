-- The variables of instructions.
use Rattle.std.specs.Prelude.{ℕ, List, [], ◌∷◌, ◌++◌, length, reverse, drop, map}
use Rattle.mbe_matcher.specs.Grouping.{Where}
use Rattle.mbe_matcher.specs.Binders.{where_of}
use Rattle.mbe_pattern.specs.declared.pattern.Variable.{Variable}
use Rattle.mbe_program.specs.Program.{Instruction, take, pass, enter, leave, begin, close}
use Rattle.mbe_program.specs.declared.variables.Variables.{Variables}

-- a variable at that number, in these repetitions, the innermost first
abbrev pub variable_at : Variable → (number : ℕ) → (nest : List ℕ) → Where
variable_at it number nest = record { variable = it; number = number; nest = reverse nest }

-- the variables of instructions. The number of a variable is how many instructions follow it, and that of a repetition how many follow all
-- of it; `nest` has the numbers of the open repetitions, the innermost first
abbrev pub variables_in : (nest : List ℕ) → List Instruction → List Where
variables_in nest [] = []
variables_in nest (take it ∷ rest) = variable_at it (length rest) nest ∷ variables_in nest rest
variables_in nest (pass its ∷ rest) = variables_in nest rest
variables_in nest (enter kind ∷ rest) = variables_in nest rest
variables_in nest (leave ∷ rest) = variables_in nest rest
variables_in nest (begin op first behind ∷ rest) = variables_in (behind ∷ nest) rest
variables_in nest (close op again ∷ rest) = variables_in (drop 1 nest) rest

-- the variables so far, and the open repetitions, the innermost first
pub record Known : Type 0 where
  pub variables : List Where
  pub nest : List ℕ

abbrev pub known_of : Variables → Known
known_of own = record { variables = map where_of own.binders.items; nest = reverse own.nest.items }

-- one more variable, which so many instructions follow
abbrev pub with_variable : Variable → (left : ℕ) → Known → Known
with_variable it left known = record { variables = known.variables ++ variable_at it left known.nest ∷ []; nest = known.nest }

-- one more instruction, which so many follow
abbrev pub known_with : Instruction → (left : ℕ) → Known → Known
known_with (take it) left known = with_variable it left known
known_with (pass its) left known = known
known_with (enter kind) left known = known
known_with leave left known = known
known_with (begin op first behind) left known = record { variables = known.variables; nest = behind ∷ known.nest }
known_with (close op again) left known = record { variables = known.variables; nest = drop 1 known.nest }
