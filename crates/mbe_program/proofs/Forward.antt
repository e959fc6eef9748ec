-- A reading of a pattern is a run of its instructions.
use Rattle.std.proofs.Common.{◌≡◌, inl, inr, ◌+◌, ℕ, suc, List, [], ◌∷◌, length, refl, ap, sym, subst, ◌∙◌}
use Rattle.mbe_matcher.specs.Fragments.{taken, left_by}
use Rattle.mbe_matcher.specs.Marks.{pass_count, step_count, Note, taken as took_by, begun, ended, notes_before, notes_of_rounds}
use Rattle.mbe_matcher.specs.Readings.{Reading, done, took, held, round, over, Separates, AreRounds, AreOtherRounds, Takes}
use Rattle.mbe_pattern.specs.Patterns.{Pattern, nothing, variable, token, subtree, repetition}
use Rattle.mbe_pattern.specs.declared.pattern.RepeatKind.{RepeatKind}
use Rattle.tt.specs.Forest.{Forest, end}
use Rattle.tt.specs.Gluing.{after_trees}
use Rattle.tt.specs.Moves.{after_tree}
use Rattle.tt.specs.Siblings.{children_of}
use Rattle.tt.specs.Types.Leaf.{Leaf}
use Rattle.mbe_program.specs.Program.{Instruction, take, pass, enter, leave, begin, close, place_at, separator_before, again_at, instructions_before}
use Rattle.mbe_program.specs.Runs.{Goes}
use Rattle.mbe_program.proofs.Placed.{IsPlace, behind_first, behind_separator, behind_pattern, jumps_to, length_is, separator_length}

module _ (program : List Instruction) (Last : (place : List Instruction) → (levels : List Forest) → Type 0) where
  -- after some number of steps
  abbrev pub GoesSome : (place : List Instruction) → (levels : List Forest) → (notes : List Note) → Type 0
  GoesSome place levels notes = (steps : ℕ) × Goes program Last steps place levels notes

  -- A separator leads to the round behind it.
  separated : (separator : List Leaf) (place : List Instruction) (input start : Forest) (outer : List Forest) (notes : List Note) → Separates separator input start
      → GoesSome place (start ∷ outer) notes → GoesSome (separator_before separator place) (input ∷ outer) notes
  separated [] place input start outer notes same goes = subst (λ trees. GoesSome place (trees ∷ outer) notes) same goes
  separated (it ∷ others) place input start outer notes (like, after) (n, goes) =
      (suc n, (like, subst (λ trees. Goes program Last n place (trees ∷ outer) notes) after goes))

  -- Rounds lead to what follows them, if one round and what follows them do.
  module _ (op : RepeatKind) (separator : List Leaf) (again number : ℕ) (round_place after : List Instruction) (outer : List Forest)
      (One : Forest → Reading → Forest → Type 0) (Behind : Forest → Reading → Type 0) (notes_one : Reading → List Note → List Note) (notes_behind : Reading → List Note)
      (is_number : length after ≡ number) (jumps : place_at program again ≡ separator_before separator round_place)
      (one : (input rest : Forest) (this : Reading) (notes : List Note) → One input this rest → GoesSome (close op again ∷ after) (rest ∷ outer) notes
      → GoesSome round_place (input ∷ outer) (notes_one this notes))
      (behind : (input : Forest) (more : Reading) → Behind input more → GoesSome after (input ∷ outer) (notes_behind more)) where
    abbrev notes_from : Reading → List Note
    notes_from = notes_of_rounds number notes_one notes_behind

    others_go : (reading : Reading) (input : Forest) → AreOtherRounds op separator One Behind input reading → GoesSome (close op again ∷ after) (input ∷ outer) (notes_from reading)
    others_go done input are = absurd are
    others_go (took trees more) input are = absurd are
    others_go (held inside more) input are = absurd are
    others_go (round this others) input (start, rest, may, separates, is, are) =
        let then = one start rest this (notes_from others) is (others_go others rest are) in
        let there = separated separator round_place input start outer (notes_one this (notes_from others)) separates then in (
          suc there.0,
          inl (
            may,
            (
              notes_one this (notes_from others),
              ap (λ n. begun n ∷ notes_one this (notes_from others)) (sym is_number),
              subst (λ place. Goes program Last there.0 place (input ∷ outer) (notes_one this (notes_from others))) (sym jumps) there.1,
            ),
          ),
        )
    others_go (over more) input is =
        let then = behind input more is in
        (suc then.0, inr (notes_behind more, ap (λ n. ended n ∷ notes_behind more) (sym is_number), then.1))

    pub rounds_go : (first : ℕ) (rest : List Instruction) (reading : Reading) (input : Forest) → place_at program first ≡ round_place → place_at program (length after) ≡ after
        → AreRounds op separator One Behind input reading → GoesSome (begin op first (length after) ∷ rest) (input ∷ outer) (notes_from reading)
    rounds_go first rest done input to_round to_after are = absurd are
    rounds_go first rest (took trees more) input to_round to_after are = absurd are
    rounds_go first rest (held inside more) input to_round to_after are = absurd are
    rounds_go first rest (round this others) input to_round to_after (left, is, are) =
        let then = one input left this (notes_from others) is (others_go others left are) in (
          suc then.0,
          inl (
            notes_one this (notes_from others),
            ap (λ n. begun n ∷ notes_one this (notes_from others)) (sym is_number),
            subst (λ place. Goes program Last then.0 place (input ∷ outer) (notes_one this (notes_from others))) (sym to_round) then.1,
          ),
        )
    rounds_go first rest (over more) input to_round to_after (may, is) =
        let then = behind input more is in (
          suc then.0,
          inr (
            may,
            (
              notes_behind more,
              ap (λ n. ended n ∷ notes_behind more) (sym is_number),
              subst (λ place. Goes program Last then.0 place (input ∷ outer) (notes_behind more)) (sym to_after) then.1,
            ),
          ),
        )

  -- A reading of a pattern leads from its instructions to what follows them.
  pub reading_goes : (pattern : Pattern) (behind : List Instruction) (number : ℕ) (outer : List Forest) (input rest : Forest) (reading : Reading) (notes : List Note)
      → length behind ≡ number → IsPlace program (instructions_before pattern behind) → Takes pattern input reading rest
      → GoesSome behind (rest ∷ outer) notes → GoesSome (instructions_before pattern behind) (input ∷ outer) (notes_before pattern number reading notes)
  reading_goes nothing behind number outer input rest reading notes count is (_, same) goes = subst (λ trees. GoesSome behind (trees ∷ outer) notes) same goes
  reading_goes (variable it others) behind number outer input rest reading notes count is (more, reading_is, takes, are) goes =
      let after = instructions_before others behind in
      let then = reading_goes others behind number outer (left_by it.fragment input) rest more notes count (behind_first program (take it) after is) are goes in
      let numbered : step_count others + number ≡ length after = ap (λ n. step_count others + n) (sym count) ∙ sym (length_is others behind) in
      subst (λ reading. GoesSome (instructions_before (variable it others) behind) (input ∷ outer) (notes_before (variable it others) number reading notes)) (sym reading_is)
      (suc then.0, (takes, (notes_before others number more notes, ap (λ n. took_by n (taken it.fragment input) ∷ notes_before others number more notes) numbered, then.1)))
  reading_goes (token its others) behind number outer input rest reading notes count is (like, are) goes =
      let then = reading_goes others behind number outer (after_trees (length its) input) rest reading notes count (behind_first program (pass its) (instructions_before others behind) is) are goes in
      (suc then.0, (like, then.1))
  reading_goes (subtree kind inner others) behind number outer input rest reading notes count is (inside, more, reading_is, node, own, are) goes =
      let after = instructions_before others behind in
      let is_inside = behind_first program (enter kind) (instructions_before inner (leave ∷ after)) is in
      let is_after = behind_first program leave after (behind_pattern program inner (leave ∷ after) is_inside) in
      let numbered : length after ≡ step_count others + number = length_is others behind ∙ ap (λ n. step_count others + n) count in
      let then = reading_goes others behind number outer (after_tree input) rest more notes count is_after are goes in
      let ends : GoesSome (leave ∷ after) (end ∷ after_tree input ∷ outer) (notes_before others number more notes) = (suc then.0, (refl, then.1)) in
      let held_goes = reading_goes inner (leave ∷ after) (suc (step_count others + number)) (after_tree input ∷ outer) (children_of input) end inside
      (notes_before others number more notes) (ap suc numbered) is_inside own ends in
      subst (λ reading. GoesSome (instructions_before (subtree kind inner others) behind) (input ∷ outer) (notes_before (subtree kind inner others) number reading notes)) (sym reading_is)
      (suc held_goes.0, (node, held_goes.1))
  reading_goes (repetition inner separator op others) behind number outer input rest reading notes count is are goes =
      let after = instructions_before others behind in
      let again = again_at separator (step_count inner) (length after) in
      let ends = close op again ∷ after in
      let place = instructions_before inner ends in
      let first = step_count inner + suc (length after) in
      let is_separated = behind_first program (begin op first (length after)) (separator_before separator place) is in
      let is_round = behind_separator program separator place is_separated in
      let is_after = behind_first program (close op again) after (behind_pattern program inner ends is_round) in
      let numbered : length after ≡ step_count others + number = length_is others behind ∙ ap (λ n. step_count others + n) count in
      rounds_go op separator again (step_count others + number) place after outer (Takes inner) (λ trees more. Takes others trees more rest)
      (notes_before inner (suc (step_count others + number))) (λ more. notes_before others number more notes) numbered
      (jumps_to program (separator_before separator place) again is_separated (separator_length separator place ∙ ap (λ n. pass_count (length separator) + n) (length_is inner ends)))
      (λ trees left this others_notes takes then. reading_goes inner ends (suc (step_count others + number)) outer trees left this others_notes (ap suc numbered) is_round takes then)
      (λ trees more takes. reading_goes others behind number outer trees rest more notes count is_after takes goes)
      first (separator_before separator place) reading input
      (jumps_to program place first is_round (length_is inner ends))
      (jumps_to program after (length after) is_after refl)
      are
