-- The search for a point by its number. The numbers rise.
use Rattle.std.proofs.Common.{◌≡◌, ℕ, zero, suc, ◌<◌, ◌≤◌, List, [], ◌∷◌, length, get_or, Bool, true, false, cond, nat_eq, Some, None, ltb, ltb-true, ltb-false, refl, ap, sym, ◌∙◌, arith}
use Rattle.std.proofs.lemmas.Bool.{eqb-true}
use Rattle.std.specs.List.{AllByRecursion}
use Rattle.std.specs.List.Sorted.{IsNonDecreasingBy, IsPartitionPoint}
use Rattle.tt.specs.declared.builder.standing.Standing.{Standing}
use Rattle.tt.specs.BuilderFields.{kept_under, IsEarlier, AreInOrder}
use Rattle.tt.proofs.Filters.{at_place}
use Rattle.tt.proofs.Growing.{all_weaker}

-- All numbers are larger, so there is no such point.
none_over : (number : ℕ) (xs : List Standing) → AllByRecursion (λ y. number < y.number) xs → kept_under number xs ≡ None
none_over number [] all = refl
none_over number (x ∷ xs) all =
    ap (λ b. cond b (Some x) (kept_under number xs)) (other (nat_eq x.number number) refl) ∙ none_over number xs all.1
  where
    other : (b : Bool) → nat_eq x.number number ≡ b → nat_eq x.number number ≡ false
    other true e = absurd (omega (arith, eqb-true x.number number e, all.0))
    other false e = e

-- Numbers rise.
pub numbers_rise : (xs : List Standing) → AreInOrder xs → IsNonDecreasingBy (λ y. y.number) xs
numbers_rise [] order i j d le within = absurd (omega (arith, within))
numbers_rise (x ∷ xs) order zero zero d le within = omega arith
numbers_rise (x ∷ xs) order zero (suc j) d le within = omega (arith, (at_place (IsEarlier x) xs j d (omega (arith, within)) order.0).number)
numbers_rise (x ∷ xs) order (suc i) zero d le within = absurd (omega (arith, le))
numbers_rise (x ∷ xs) order (suc i) (suc j) d le within = numbers_rise xs order.1 i j d (omega (arith, le)) (omega (arith, within))

-- The first point whose number is not smaller is the one, or there is none.
found_first : (number : ℕ) (xs : List Standing) (i : ℕ) (d : Standing) → AreInOrder xs → ((k : ℕ) → k < i → (get_or xs k d).number < number) → i < length xs
    → number ≤ (get_or xs i d).number → kept_under number xs ≡ cond (nat_eq (get_or xs i d).number number) (Some (get_or xs i d)) None
found_first number [] i d order lower within first = absurd (omega (arith, within))
found_first number (x ∷ xs) zero d order lower within first =
    ap (λ others. cond (nat_eq x.number number) (Some x) others)
    (none_over number xs (all_weaker (IsEarlier x) (λ y. number < y.number) xs (λ y earlier. omega (arith, earlier.number, first)) order.0))
found_first number (x ∷ xs) (suc i) d order lower within first =
    ap (λ b. cond b (Some x) (kept_under number xs)) (other (nat_eq x.number number) refl)
    ∙ found_first number xs i d order.1 (λ k below. lower (suc k) (omega (arith, below))) (omega (arith, within)) first
  where
    other : (b : Bool) → nat_eq x.number number ≡ b → nat_eq x.number number ≡ false
    other true e = absurd (omega (arith, eqb-true x.number number e, lower 0 (omega arith)))
    other false e = e

-- All numbers are smaller, and there is none.
none_first : (number : ℕ) (xs : List Standing) (d : Standing) → ((k : ℕ) → k < length xs → (get_or xs k d).number < number) → kept_under number xs ≡ None
none_first number [] d lower = refl
none_first number (x ∷ xs) d lower =
    ap (λ b. cond b (Some x) (kept_under number xs)) (other (nat_eq x.number number) refl) ∙ none_first number xs d (λ k below. lower (suc k) (omega (arith, below)))
  where
    other : (b : Bool) → nat_eq x.number number ≡ b → nat_eq x.number number ≡ false
    other true e = absurd (omega (arith, eqb-true x.number number e, lower 0 (omega arith)))
    other false e = e

-- all numbers before a place are smaller, and none from there on is
pub record IsFirstNotLower (number : ℕ) (xs : List Standing) (place : ℕ) : Type 0 where
  pub before : (k : ℕ) (d : Standing) → k < place → (get_or xs k d).number < number
  pub behind : (k : ℕ) (d : Standing) → place ≤ k → k < length xs → number ≤ (get_or xs k d).number

-- A binary search ends at such a place.
pub at_partition_point : (number : ℕ) (xs : List Standing) (place : ℕ) → IsPartitionPoint (λ y. ltb y.number number ≡ true) (λ y. ltb y.number number ≡ false) xs place
    → IsFirstNotLower number xs place
at_partition_point number xs place point = record {
  before = λ k d below. ltb-true _ _ (point.0 k d (omega arith) below);
  behind = λ k d from within. ltb-false _ _ (point.1 k d from within);
}

-- The point at that place is the one, if it has the number.
pub kept_there : (number : ℕ) (xs : List Standing) (place : ℕ) (x : Standing) → AreInOrder xs → IsFirstNotLower number xs place → place < length xs → x ≡ get_or xs place x
    → kept_under number xs ≡ cond (nat_eq x.number number) (Some x) None
kept_there number xs place x order first within is =
    found_first number xs place x order (λ k below. first.before k x below) within (first.behind place x (omega arith) within)
    ∙ ap (λ y. cond (nat_eq y.number number) (Some y) None) (sym is)

-- If all points are before that place, there is no such point.
pub none_there : (number : ℕ) (xs : List Standing) (place : ℕ) → IsFirstNotLower number xs place → length xs ≤ place → kept_under number xs ≡ None
none_there number xs place first past = none_first number xs (record { number = 0; tokens = 0; depth = 0 }) (λ k within. first.before k _ (omega (arith, past, within)))
