-- The steps of single instructions.
use Rattle.std.proofs.Common.{◌≡◌, inl, inr, ◌<◌, ℕ, Bool, true, false, List, [], ◌∷◌, Some, None, length, refl, ap, sym, ◌∙◌}
use Rattle.std.specs.Prelude.{◌⊎◌, min}
use Rattle.tt.specs.Forest.{end}
use Rattle.tt.specs.Types.DelimiterKind.{DelimiterKind}
use Rattle.tt.specs.Types.Leaf.{Leaf}
use Rattle.tt.specs.Types.TokenTreesView.{TokenTreesView}
use Rattle.tt.specs.Views.{trees_of}
use Rattle.mbe_matcher.specs.Fragments.{takes, reach, taken}
use Rattle.mbe_matcher.specs.Marks.{Note, taken as took_by, begun, ended}
use Rattle.mbe_matcher.specs.declared.mark.Mark.TheVariants as mark
use Rattle.mbe_pattern.specs.Units.{IsUnitLike, IsNodeOf}
use Rattle.mbe_pattern.specs.declared.pattern.Variable.{Variable}
use Rattle.mbe_pattern.specs.declared.pattern.RepeatKind.{RepeatKind}
use Rattle.mbe_pattern.specs.Patterns.{may_be_none, may_be_more}
use Rattle.mbe_program.specs.Cells.{IsCell}
use Rattle.mbe_program.specs.Moving.{AreMovesAt}
use Rattle.mbe_program.specs.Program.{Instruction, take, pass, enter, leave, begin, close}
use Rattle.mbe_program.specs.Tables.{Table, passed_to}
use Rattle.mbe_program.specs.declared.cell.Cell.{Cell}
use Rattle.mbe_program.specs.declared.moves.Moves.TheVariants as moves

-- the step to a cell
abbrev pub to_cell : (position left : ℕ) → Cell
to_cell position left = record { position = position; left = left }

is_cell : (to : Cell) (position left : ℕ) → IsCell to position left → to ≡ to_cell position left
is_cell to position left (at, count) = λ i. record { position = at i; left = count i }

module _ (program : List Instruction) (table : Table) (rest : List Instruction) (n behind : ℕ) (count : length rest ≡ behind) where
  -- A variable takes trees, or not.
  pub take_none : (which : Variable) → (0 < n → takes which.fragment (table.trees n) ≡ true → ⊥) → AreMovesAt program table (take which ∷ rest) n moves.Nowhere
  take_none which none to its (some, takes_it, at, noted) = none some takes_it

  pub take_one : (which : Variable) (view : TokenTreesView) → 0 < n → takes which.fragment (table.trees n) ≡ true → trees_of view ≡ taken which.fragment (table.trees n)
      → AreMovesAt program table (take which ∷ rest) n
      (moves.One (record { to = to_cell (passed_to table (reach which.fragment (table.trees n)) n) behind; mark = Some (mark.Took behind view) }))
  take_one which view some takes_it holds = (
    (some, takes_it, (refl, sym count), note),
    λ to its hop.
        (is_cell to (passed_to table (reach which.fragment (table.trees n)) n) behind (hop.2.0, hop.2.1 ∙ count), hop.3 ∙ sym note),
  )
    where
      note : took_by behind (trees_of view) ∷ [] ≡ took_by (length rest) (taken which.fragment (table.trees n)) ∷ []
      note = ap (λ n. took_by n (trees_of view) ∷ []) (sym count) ∙ ap (λ trees. took_by (length rest) trees ∷ []) holds

  -- So does a token,
  pub pass_none : (leaves : List Leaf) → (IsUnitLike leaves (table.trees n) → ⊥) → AreMovesAt program table (pass leaves ∷ rest) n moves.Nowhere
  pass_none leaves none to its (like, at, noted) = none like

  pub pass_one : (leaves : List Leaf) → IsUnitLike leaves (table.trees n)
      → AreMovesAt program table (pass leaves ∷ rest) n (moves.One (record { to = to_cell (passed_to table (length leaves) n) behind; mark = None }))
  pass_one leaves like = ((like, (refl, sym count), refl), λ to its hop. (is_cell to (passed_to table (length leaves) n) behind (hop.1.0, hop.1.1 ∙ count), hop.2))

  -- and the end of a subtree.
  pub leave_none : (0 < n → table.trees n ≡ end → ⊥) → AreMovesAt program table (leave ∷ rest) n moves.Nowhere
  leave_none none to its (some, over, at, noted) = none some over

  pub leave_one : 0 < n → table.trees n ≡ end → AreMovesAt program table (leave ∷ rest) n (moves.One (record { to = to_cell (table.outside n) behind; mark = None }))
  leave_one some over = ((some, over, (refl, sym count), refl), λ to its hop. (is_cell to (table.outside n) behind (hop.2.0, hop.2.1 ∙ count), hop.3))

  -- A subtree is entered, or not.
  pub enter_none : (kind : DelimiterKind) → (IsNodeOf kind (table.trees n) → ⊥) → AreMovesAt program table (enter kind ∷ rest) n moves.Nowhere
  enter_none kind none to its (node_is, at, noted) = none node_is

  pub enter_one : (kind : DelimiterKind) → IsNodeOf kind (table.trees n) → AreMovesAt program table (enter kind ∷ rest) n (moves.One (record { to = to_cell (table.inside n) behind; mark = None }))
  enter_one kind node_is = ((node_is, (refl, sym count), refl), λ to its hop. (is_cell to (table.inside n) behind (hop.1.0, hop.1.1 ∙ count), hop.2))

-- The notes of a round and of an end differ.
apart : (n m : ℕ) → begun n ∷ [] ≡ ended m ∷ [] → ⊥
apart n m same = cc same

not_both : (b : Bool) → b ≡ true → b ≡ false → ⊥
not_both b does lacks = let same : true ≡ false = sym does ∙ lacks in cc same

module _ (program : List Instruction) (table : Table) (rest : List Instruction) (n all : ℕ) (whole : length program ≡ all) (op : RepeatKind) where
  jump : (to : Cell) (target : ℕ) → IsCell to n (min target (length program)) → to ≡ to_cell n (min target all)
  jump to target at = is_cell to n (min target all) (at.0, at.1 ∙ ap (min target) whole)

  -- A repetition begins,
  pub begin_one : (first after : ℕ) → may_be_none op ≡ false → AreMovesAt program table (begin op first after ∷ rest) n (moves.One (record { to = to_cell n (min first all); mark = Some (mark.Round after) }))
  begin_one first after lacks = (inl ((refl, ap (min first) (sym whole)), refl), only)
    where
      only : (to : Cell) (its : List Note) → (IsCell to n (min first (length program)) × (its ≡ begun after ∷ [])) ⊎ ((may_be_none op ≡ true) × IsCell to n (min after (length program)) × (its ≡ ended after ∷ []))
          → (to ≡ to_cell n (min first all)) × (its ≡ begun after ∷ [])
      only to its (inl (at, noted)) = (jump to first at, noted)
      only to its (inr (may, at, noted)) = absurd (not_both (may_be_none op) may lacks)

  pub begin_two : (first after : ℕ) → may_be_none op ≡ true
      → AreMovesAt program table (begin op first after ∷ rest) n
      (moves.Two (record { to = to_cell n (min first all); mark = Some (mark.Round after) }) (record { to = to_cell n (min after all); mark = Some (mark.Over after) }))
  begin_two first after may = (inl ((refl, ap (min first) (sym whole)), refl), inr (may, (refl, ap (min after) (sym whole)), refl), apart after after, all_of)
    where
      all_of : (to : Cell) (its : List Note) → (IsCell to n (min first (length program)) × (its ≡ begun after ∷ [])) ⊎ ((may_be_none op ≡ true) × IsCell to n (min after (length program)) × (its ≡ ended after ∷ []))
          → ((to ≡ to_cell n (min first all)) × (its ≡ begun after ∷ [])) ⊎ ((to ≡ to_cell n (min after all)) × (its ≡ ended after ∷ []))
      all_of to its (inl (at, noted)) = inl (jump to first at, noted)
      all_of to its (inr (too, at, noted)) = inr (jump to after at, noted)

  -- and a round closes.
  module _ (behind : ℕ) (count : length rest ≡ behind) where
    note_begun : begun behind ∷ [] ≡ begun (length rest) ∷ []
    note_begun = ap (λ n. begun n ∷ []) (sym count)

    note_ended : ended behind ∷ [] ≡ ended (length rest) ∷ []
    note_ended = ap (λ n. ended n ∷ []) (sym count)

    pub close_one : (again : ℕ) → may_be_more op ≡ false → AreMovesAt program table (close op again ∷ rest) n (moves.One (record { to = to_cell n behind; mark = Some (mark.Over behind) }))
    close_one again lacks = (inr ((refl, sym count), note_ended), only)
      where
        only : (to : Cell) (its : List Note) → ((may_be_more op ≡ true) × IsCell to n (min again (length program)) × (its ≡ begun (length rest) ∷ [])) ⊎ (IsCell to n (length rest) × (its ≡ ended (length rest) ∷ []))
            → (to ≡ to_cell n behind) × (its ≡ ended behind ∷ [])
        only to its (inl (may, at, noted)) = absurd (not_both (may_be_more op) may lacks)
        only to its (inr (at, noted)) = (is_cell to n behind (at.0, at.1 ∙ count), noted ∙ sym note_ended)

    pub close_two : (again : ℕ) → may_be_more op ≡ true
        → AreMovesAt program table (close op again ∷ rest) n
        (moves.Two (record { to = to_cell n (min again all); mark = Some (mark.Round behind) }) (record { to = to_cell n behind; mark = Some (mark.Over behind) }))
    close_two again may = (inl (may, (refl, ap (min again) (sym whole)), note_begun), inr ((refl, sym count), note_ended), apart behind behind, all_of)
      where
        all_of : (to : Cell) (its : List Note) → ((may_be_more op ≡ true) × IsCell to n (min again (length program)) × (its ≡ begun (length rest) ∷ [])) ⊎ (IsCell to n (length rest) × (its ≡ ended (length rest) ∷ []))
            → ((to ≡ to_cell n (min again all)) × (its ≡ begun behind ∷ [])) ⊎ ((to ≡ to_cell n behind) × (its ≡ ended behind ∷ []))
        all_of to its (inl (too, at, noted)) = inl (jump to again at, noted ∙ sym note_begun)
        all_of to its (inr (at, noted)) = inr (is_cell to n behind (at.0, at.1 ∙ count), noted ∙ sym note_ended)
