-- When the places where a run may stop are the parts that are wanted of a pattern.
use Rattle.std.specs.Prelude.{◌↔◌, ◌+◌, ℕ, suc, List, [], ◌∷◌}
use Rattle.mbe_matcher.specs.Parts.{place_count, separator_count}
use Rattle.mbe_matcher.specs.Labels.{Label}
use Rattle.mbe_matcher.specs.Labels as label
use Rattle.mbe_matcher.specs.Places.{left_in}
use Rattle.mbe_pattern.specs.Patterns.{Pattern, nothing, variable, token, subtree, repetition}
use Rattle.tt.specs.Forest.{Forest, end}
use Rattle.tt.specs.Types.Leaf.{Leaf}
use Rattle.mbe_program.specs.Program.{Instruction, take, pass, enter, leave, instructions_before}
use Rattle.mbe_program.proofs.Rounds.{begin_place, close_place, round_place}

-- `Last` says where a run may stop, and `Next` which part is wanted next
module _ (Last : (place : List Instruction) → (levels : List Forest) → Type 0) (Next : (part : ℕ) → Label → (trees : Forest) → (outside : ℕ) → Type 0) where
  -- a run may stop at a place exactly where the part is wanted
  abbrev pub FitsAt : (place : List Instruction) → (part : ℕ) → Label → Type 0
  FitsAt place part it = (trees : Forest) → (outer : List Forest) → Last place (trees ∷ outer) ↔ Next part it trees (left_in outer)

  -- where a run may stop at a place, it may stop at the other place too
  abbrev pub StopsLater : (place other : List Instruction) → Type 0
  StopsLater place other = (levels : List Forest) → Last place levels → Last other levels

  -- the separator, if there is one, is such a part
  abbrev pub FitsSeparator : (separator : List Leaf) → (part : ℕ) → (round : List Instruction) → Type 0
  FitsSeparator [] part round = Unit {0}
  FitsSeparator (it ∷ others) part round = FitsAt (pass (it ∷ others) ∷ round) part (label.same (it ∷ others))

  -- so is each part of a pattern whose first part has that number; and a run that may stop where a repetition begins or a round closes may
  -- stop at the next part too
  abbrev pub Fits : (at : ℕ) → Pattern → (behind : List Instruction) → Type 0
  Fits at nothing behind = Unit {0}
  Fits at (variable it others) behind = FitsAt (take it ∷ instructions_before others behind) at (label.take it) × Fits (suc at) others behind
  Fits at (token its others) behind = FitsAt (pass its ∷ instructions_before others behind) at (label.same its) × Fits (suc at) others behind
  Fits at (subtree kind inner others) behind =
      FitsAt (enter kind ∷ instructions_before inner (leave ∷ instructions_before others behind)) at (label.enter kind)
      × FitsAt (leave ∷ instructions_before others behind) (suc at + place_count inner) label.leave
      × Fits (suc at) inner (leave ∷ instructions_before others behind)
      × Fits (suc (suc at + place_count inner)) others behind
  Fits at (repetition inner separator op others) behind =
      StopsLater (begin_place inner separator op (instructions_before others behind)) (round_place inner separator op (instructions_before others behind))
      × StopsLater (close_place inner separator op (instructions_before others behind)) (instructions_before others behind)
      × FitsSeparator separator (at + place_count inner) (round_place inner separator op (instructions_before others behind))
      × Fits at inner (close_place inner separator op (instructions_before others behind))
      × Fits (at + place_count inner + separator_count separator) others behind

  -- so are all parts of a whole pattern, and its end; and a run that may stop after the end may stop at the end too
  pub record FitsWhole (pattern : Pattern) : Type 0 where
    pub parts : Fits 0 pattern (leave ∷ [])
    pub last : FitsAt (leave ∷ []) (place_count pattern) label.leave
    pub over : Last [] [] → Last (leave ∷ []) (end ∷ [])
