-- The weights of indices and the costs of orders at the limits. The numbers were worked out by hand.
use Rattle.std.proofs.Common.{◌≡◌, ℕ, List, [], ◌∷◌, ◌++◌, nat_eq, refl, lit<, not-le_of_lt}
use Rattle.std.specs.List.{range_with_len}
use Rattle.std.proofs.lemmas.Bool.{eqb-true, eq-eqb}
use Rattle.tt_tables.specs.Cost.{weight, cost, cost_from, IsCheapest}
use Rattle.tt_tables.specs.TableOrder.{table}
use Rattle.tt_tables.proofs.Cheapest.{table_cheapest}
use Rattle.tt_tables.proofs.TableOrder.{table_is_table}

weights : (weight 0 ≡ 1) × (weight 63 ≡ 1) × (weight 64 ≡ 2) × (weight 8191 ≡ 2) × (weight 8192 ≡ 4)
weights = (refl, refl, refl, refl, refl)

-- the numbers from 0 to n - 1, and the last of them once more
abbrev used : (n last : ℕ) → List ℕ
used n last = range_with_len 0 n ++ last ∷ []

-- The 65th index weighs two, and the 8,193rd four. A value with two uses costs least before them.
costs : (cost nat_eq (used 63 62) (range_with_len 0 63) ≡ 64)
    × (cost nat_eq (used 64 63) (63 ∷ range_with_len 0 63) ≡ 65)
    × (cost nat_eq (used 65 64) (64 ∷ range_with_len 0 64) ≡ 67)
    × (cost nat_eq (used 65 64) (range_with_len 0 65) ≡ 68)
    × (cost_from nat_eq 8191 (7 ∷ 8 ∷ 7 ∷ []) (7 ∷ 8 ∷ []) ≡ 8)
    × (cost_from nat_eq 8191 (7 ∷ 8 ∷ 7 ∷ []) (8 ∷ 7 ∷ []) ≡ 10)
costs = (refl, refl, refl, refl, refl, refl)

-- The table of 65 values, the last of which has two uses, is the cheapest order, and the order of first uses is not.
table_is_cheapest : IsCheapest nat_eq (used 65 64) (64 ∷ range_with_len 0 64)
unfolding table
table_is_cheapest =
    table_cheapest nat_eq eqb-true (λ x. eq-eqb x x refl) (used 65 64) (64 ∷ range_with_len 0 64)
    (table_is_table nat_eq eqb-true (λ x. eq-eqb x x refl) 63 (used 65 64))

first_use_is_not : IsCheapest nat_eq (used 65 64) (range_with_len 0 65) → ⊥
first_use_is_not h = not-le_of_lt (lit< tt) (h.1 (64 ∷ range_with_len 0 64) table_is_cheapest.0)

-- A list without one of the values costs less, and is no order.
one_missing_is_not : IsCheapest nat_eq (1 ∷ 2 ∷ []) (1 ∷ []) → ⊥
one_missing_is_not h = not-le_of_lt (lit< tt) h.0.has_all.1.0
