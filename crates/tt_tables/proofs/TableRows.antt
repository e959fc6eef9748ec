-- The tables at their two limits.
use Rattle.std.proofs.Common.{◌≡◌, ℕ, zero, suc, List, [], ◌∷◌, ◌++◌, nat_eq, refl}
use Rattle.tt_tables.specs.TableOrder.{table}

-- n numbers from i on
abbrev numbers : (n i : ℕ) → List ℕ
numbers zero i = []
numbers (suc n) i = i ∷ numbers n (suc i)

-- With 15 values, or 63, the last one has two uses and stays last. With one value more it comes first.
tables : (table nat_eq 15 (numbers 15 0 ++ 14 ∷ []) ≡ numbers 15 0)
    × (table nat_eq 15 (numbers 16 0 ++ 15 ∷ []) ≡ 15 ∷ numbers 15 0)
    × (table nat_eq 63 (numbers 63 0 ++ 62 ∷ []) ≡ numbers 63 0)
    × (table nat_eq 63 (numbers 64 0 ++ 63 ∷ []) ≡ 63 ∷ numbers 63 0)
    × (table nat_eq 63 (numbers 65 0 ++ 64 ∷ []) ≡ 64 ∷ numbers 64 0)
unfolding table
tables = (refl, refl, refl, refl, refl)
