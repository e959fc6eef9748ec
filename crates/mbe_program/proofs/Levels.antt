-- The levels at the positions of a table.
use Rattle.std.proofs.Common.{◌≡◌, ◌+◌, ℕ, zero, suc, List, [], ◌∷◌, refl, ap, ap₂, sym, subst, ◌∙◌, arith, cond}
use Rattle.std.specs.Prelude.{Contains}
use Rattle.mbe_matcher.specs.Places.{left_in}
use Rattle.mbe_pattern.specs.Units.{IsNodeOf}
use Rattle.tt.specs.Forest.{Forest, end, leaf, node, size}
use Rattle.tt.specs.Gluing.{after_trees}
use Rattle.tt.specs.Moves.{after_tree}
use Rattle.tt.specs.Siblings.{children_of, is_end}
use Rattle.tt.specs.Types.DelimiterKind.{DelimiterKind}
use Rattle.mbe_program.specs.Program.{Instruction, enter}
use Rattle.mbe_program.specs.Tables.{Table, IsTableOf, AreLevels, passed_to}

module _ (program : List Instruction) (input : Forest) (table : Table) (is : IsTableOf program input table) where
  -- As many tokens are left as the levels have.
  pub left_of : (n : ℕ) (levels : List Forest) → AreLevels table n levels → table.left n ≡ left_in levels
  left_of n [] none = ap table.left none ∙ is.none_left
  left_of n (trees ∷ outer) (some, within, same, are) =
      is.left_is n some within ∙ ap₂ (λ (a b : ℕ). a + b) (ap size (sym same)) (left_of (table.outside n) outer are)

  -- One tree further.
  next_level : (n : ℕ) (trees : Forest) (outer : List Forest) → AreLevels table n (trees ∷ outer)
      → AreLevels table (cond (is_end (table.trees n)) n (suc n)) (after_tree trees ∷ outer)
  next_level n trees outer (some, within, same, are) = by (table.trees n) refl
    where
      on : (table.trees n ≡ end → ⊥) → AreLevels table (suc n) (after_tree trees ∷ outer)
      on goes =
          let there = is.next n some within goes in
          (omega arith, there.0, ap after_tree same ∙ sym there.1, subst (λ number. AreLevels table number outer) (sym there.2) are)

      by : (own : Forest) → table.trees n ≡ own → AreLevels table (cond (is_end own) n (suc n)) (after_tree trees ∷ outer)
      by end here = (some, within, ap after_tree (same ∙ here) ∙ sym here, are)
      by (leaf it rest) here = on (λ none. let both : leaf it rest ≡ end = sym here ∙ none in cc both)
      by (node kind children rest) here = on (λ none. let both : node kind children rest ≡ end = sym here ∙ none in cc both)

  -- So many trees further.
  pub passed_levels : (count : ℕ) (n : ℕ) (trees : Forest) (outer : List Forest) → AreLevels table n (trees ∷ outer) → AreLevels table (passed_to table count n) (after_trees count trees ∷ outer)
  passed_levels zero n trees outer are = are
  passed_levels (suc count) n trees outer are =
      passed_levels count (cond (is_end (table.trees n)) n (suc n)) (after_tree trees) outer (next_level n trees outer are)

  -- Inside the first tree.
  pub entered_levels : (kind : DelimiterKind) (n : ℕ) (trees : Forest) (outer : List Forest) → Contains program (enter kind) → IsNodeOf kind (table.trees n) → AreLevels table n (trees ∷ outer)
      → AreLevels table (table.inside n) (children_of trees ∷ after_tree trees ∷ outer)
  entered_levels kind n trees outer enters is_node (some, within, same, are) =
      let there = is.into n some within kind enters is_node in
      let goes : table.trees n ≡ end → ⊥ = λ none. subst (IsNodeOf kind) none is_node in
      let behind = is.next n some within goes in (
        there.0,
        there.1,
        ap children_of same ∙ sym there.2,
        subst (λ number. AreLevels table number (after_tree trees ∷ outer)) (sym there.3)
            (omega arith, behind.0, ap after_tree same ∙ sym behind.1, subst (λ number. AreLevels table number outer) (sym behind.2) are),
      )

  pub whole_level : AreLevels table 1 (input ∷ [])
  whole_level = (omega arith, is.some, sym is.whole, is.outmost)
