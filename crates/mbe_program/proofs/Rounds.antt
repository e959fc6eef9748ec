-- Where the instructions of a repetition are in a program.
use Rattle.std.proofs.Common.{◌≡◌, ◌+◌, suc, List, ◌∷◌, length, refl, ap, ◌∙◌}
use Rattle.mbe_matcher.specs.Marks.{pass_count, step_count}
use Rattle.mbe_pattern.specs.Patterns.{Pattern}
use Rattle.mbe_pattern.specs.declared.pattern.RepeatKind.{RepeatKind}
use Rattle.tt.specs.Types.Leaf.{Leaf}
use Rattle.mbe_program.specs.Program.{Instruction, begin, close, place_at, separator_before, again_at, instructions_before}
use Rattle.mbe_program.proofs.Placed.{IsPlace, behind_first, behind_separator, behind_pattern, jumps_to, length_is, separator_length}

module _ (inner : Pattern) (separator : List Leaf) (op : RepeatKind) (after : List Instruction) where
  -- where a round closes, where it starts, and where its repetition begins
  abbrev pub close_place : List Instruction
  close_place = close op (again_at separator (step_count inner) (length after)) ∷ after

  abbrev pub round_place : List Instruction
  round_place = instructions_before inner close_place

  abbrev pub begin_place : List Instruction
  begin_place = begin op (step_count inner + suc (length after)) (length after) ∷ separator_before separator round_place

  module _ (program : List Instruction) (is : IsPlace program begin_place) where
    -- The round and what follows the repetition are places,
    pub is_round : IsPlace program round_place
    is_round =
        behind_separator program separator round_place
        (behind_first program (begin op (step_count inner + suc (length after)) (length after)) (separator_before separator round_place) is)

    pub is_after : IsPlace program after
    is_after = behind_first program (close op (again_at separator (step_count inner) (length after))) after (behind_pattern program inner close_place is_round)

    -- and the jumps lead to the first round, to another round, and behind the repetition.
    pub to_first : place_at program (step_count inner + suc (length after)) ≡ round_place
    to_first = jumps_to program round_place (step_count inner + suc (length after)) is_round (length_is inner close_place)

    pub to_again : place_at program (again_at separator (step_count inner) (length after)) ≡ separator_before separator round_place
    to_again =
        jumps_to program (separator_before separator round_place) (again_at separator (step_count inner) (length after))
        (behind_first program (begin op (step_count inner + suc (length after)) (length after)) (separator_before separator round_place) is)
        (separator_length separator round_place ∙ ap (λ n. pass_count (length separator) + n) (length_is inner close_place))

    pub to_after : place_at program (length after) ≡ after
    to_after = jumps_to program after (length after) is_after refl
