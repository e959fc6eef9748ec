-- The length of a table, its different values, and the index of each.
use Rattle.std.proofs.Common.{◌≡◌, ℕ, zero, suc, ◌<◌, ◌≤◌, ◌^◌, Bool, true, false, cond, Some, List, [], ◌∷◌, length, nat_le, slice_get, refl, ap, sym, ◌∙◌}
use Rattle.std.proofs.lemmas.Option.{slice_get_within}
use Rattle.std.specs.Cmp.{IsEquivalence}
use Rattle.std.specs.List.{IsDistinct}
use Rattle.tt_tables.specs.TableOrder.{index_in, uses_of, IsEarlier, Before, IsTable, different, falling, table}
use Rattle.tt_tables.proofs.Cheapest.{distinct_order, not_before}
use Rattle.tt_tables.proofs.TableOrder.{length-falling}
use Rattle.tt_tables.proofs.Used.{all_at_place}
use Rattle.tt_pack.specs.Counted.{new_index, LeadsTo}
use Rattle.tt_pack.specs.TablesOf.{StandsAt, HasNewIndexAt}

-- `same` is whether two values are equal
module _ {X : Type 0} (same : X → X → Bool) where
  -- If the values are all different, each is found at its index.
  pub index_in-distinct : IsEquivalence same → (values : List X) (i : ℕ) (x : X) → IsDistinct same values → slice_get values i ≡ Some x → index_in (same x) values ≡ i
  unfolding IsDistinct
  index_in-distinct laws [] i x distinct at = absurd (cc at)
  index_in-distinct laws (y ∷ values) zero x distinct at = ap (λ t. cond t 0 (suc (index_in (same x) values))) (ap (same x) is ∙ laws.refl x)
    where
      is : y ≡ x
      is = cc at
  index_in-distinct laws (y ∷ values) (suc i) x distinct at =
      ap (λ t. cond t 0 (suc (index_in (same x) values))) (laws.symm x y ∙ all_at_place (λ z. same y z ≡ false) values i x distinct.0 at) ∙ ap suc (index_in-distinct laws values i x distinct.1 at)

  module _ (sound : (x y : X) → same x y ≡ true → x ≡ y) (laws : IsEquivalence same) where
    -- A table has as many values as there are different ones.
    pub length-table_of : (short : ℕ) (uses : List X) → length (table same short uses) ≡ length (different same uses)
    unfolding table
    length-table_of short uses = by_length (nat_le (length (different same uses)) short)
      where
        by_length : (t : Bool) → length (cond t (different same uses) (falling same (uses_of same uses) (different same uses))) ≡ length (different same uses)
        by_length true = refl
        by_length false = length-falling same sound laws.refl (uses_of same uses) (IsEarlier same uses) (different same uses)

    -- The values of a table are all different.
    distinct_table : (short : ℕ) (uses values : List X) → IsTable same short uses values → IsDistinct same values
    distinct_table short uses values is =
        distinct_order same sound laws.refl (Before same short (length values) uses) (not_before same sound laws.refl short (length values) uses) values is.in_order

    -- The new index of a value in the order of first uses is its index in the table.
    pub new_index_noted : (short : ℕ) (uses values table : List X) (new_indices : List ℕ) (i : ℕ) (x : X) → IsTable same short uses table → length values ≤ 2 ^ 32
        → ((index : ℕ) → index < length values → LeadsTo values table new_indices index) → StandsAt values i x → HasNewIndexAt same table new_indices i x
    new_index_noted short uses values table new_indices i x is few leads stands =
        let at : slice_get values i ≡ Some x = stands few in
        sym (index_in-distinct laws table (new_index new_indices i) x (distinct_table short uses table is) (leads i (slice_get_within values i x at) ∙ at))

-- Without new indices, each value stays.
pub stays_there : {X : Type 0} (values table : List X) (new_indices : List ℕ) (index : ℕ) → table ≡ values → new_indices ≡ [] → LeadsTo values table new_indices index
stays_there values table new_indices index same none = ap (λ l. slice_get table (new_index l index)) none ∙ ap (λ l. slice_get l index) same
