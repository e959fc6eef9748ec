-- A pattern as one program: a list of instructions, which are numbered from its end.
use Rattle.std.specs.Prelude.{ℕ, suc, ◌+◌, ◌-◌, List, [], ◌∷◌, length, drop}
use Rattle.mbe_matcher.specs.Marks.{pass_count, step_count}
use Rattle.mbe_pattern.specs.Patterns.{Pattern, nothing, variable, token, subtree, repetition}
use Rattle.mbe_pattern.specs.declared.pattern.RepeatKind.{RepeatKind}
use Rattle.mbe_pattern.specs.declared.pattern.Variable.{Variable}
use Rattle.tt.specs.Types.DelimiterKind.{DelimiterKind}
use Rattle.tt.specs.Types.Leaf.{Leaf}

-- an instruction: a variable takes trees; a token of these leaves is passed; a subtree of a kind is entered, and left at its end; a
-- repetition begins, and goes on to its first round or behind all rounds; and a round closes, and goes on behind it or to another round.
-- A jump is to where so many instructions are left
pub data Instruction : Type 0 where
  take : Variable → Instruction
  pass : List Leaf → Instruction
  enter : DelimiterKind → Instruction
  leave : Instruction
  begin : RepeatKind → (first behind : ℕ) → Instruction
  close : RepeatKind → (again : ℕ) → Instruction

-- the place with so many instructions left: the end of the program from there on
abbrev pub place_at : (program : List Instruction) → (left : ℕ) → List Instruction
place_at program left = drop (length program - left) program

-- the separator, if there is one, before a round
abbrev pub separator_before : (separator : List Leaf) → (round : List Instruction) → List Instruction
separator_before [] round = round
separator_before (it ∷ others) round = pass (it ∷ others) ∷ round

-- where another round begins, if each round has so many instructions, and so many follow its close: at the separator, if there is one
abbrev pub again_at : (separator : List Leaf) → (round_count behind : ℕ) → ℕ
again_at separator round_count behind = pass_count (length separator) + (round_count + suc behind)

-- the instructions of a pattern, before others. A repetition begins; its separator precedes its round, which the first round skips; the
-- round closes; and what follows the repetition comes last
abbrev pub instructions_before : Pattern → (behind : List Instruction) → List Instruction
instructions_before nothing behind = behind
instructions_before (variable it others) behind = take it ∷ instructions_before others behind
instructions_before (token its others) behind = pass its ∷ instructions_before others behind
instructions_before (subtree kind inner others) behind = enter kind ∷ instructions_before inner (leave ∷ instructions_before others behind)
instructions_before (repetition inner separator op others) behind =
    begin op (step_count inner + suc (length (instructions_before others behind))) (length (instructions_before others behind))
    ∷ separator_before separator
    (instructions_before inner
    (close op (again_at separator (step_count inner) (length (instructions_before others behind))) ∷ instructions_before others behind))

-- the program of a whole pattern; its end is the end of the input
abbrev pub program_of : Pattern → List Instruction
program_of pattern = instructions_before pattern (leave ∷ [])
