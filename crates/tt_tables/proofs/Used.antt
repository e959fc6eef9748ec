-- How many times a value is used, and which values are used.
use Rattle.std.proofs.Common.{◌≡◌, ℕ, zero, suc, ◌+◌, ◌<◌, ◌⊎◌, inl, inr, Bool, true, false, not, cond, Some, List, [], ◌∷◌, ◌++◌, filter, slice_get, refl, ap, subst, ◌∙◌, arith}
use Rattle.std.proofs.lemmas.List.Sums.{sum_by-cons, sum_by-append}
use Rattle.std.specs.Cmp.{IsEquivalence}
use Rattle.std.specs.List.{AllByRecursion, IsDistinct}
use Rattle.tt_tables.specs.TableOrder.{different, uses_of, IsEarlier}
use Rattle.tt_tables.proofs.Cheapest.{distinct_order}
use Rattle.tt_tables.proofs.Members.{Member}
use Rattle.tt_tables.proofs.TableOrder.{by_first_use}

-- 1 if the test holds, otherwise 0
abbrev pub one_if : Bool → ℕ
one_if t = cond t 1 0

-- What holds for all items holds for the one at a place.
pub all_at_place : {X : Type 0} (P : X → Type 0) (xs : List X) (i : ℕ) (x : X) → AllByRecursion P xs → slice_get xs i ≡ Some x → P x
all_at_place P [] i x all at = absurd (cc at)
all_at_place P (y ∷ xs) zero x all at = subst P (is at) all.0
  where
    is : Some y ≡ Some x → y ≡ x
    is e = cc e
all_at_place P (y ∷ xs) (suc i) x all at = all_at_place P xs i x all.1 at

-- An item that passes the filter is in the list, and passes the test.
pub unfiltered : {X : Type 0} (test : X → Bool) (z : X) (xs : List X) → Member z (filter test xs) → Member z xs × (test z ≡ true)
unfiltered test z [] m = absurd m
unfiltered {X} test z (x ∷ xs) m = by_test (test x) refl m (unfiltered test z xs)
  where
    by_test : (t : Bool) → test x ≡ t → Member z (cond t (x ∷ filter test xs) (filter test xs)) → (Member z (filter test xs) → Member z xs × (test z ≡ true))
        → ((z ≡ x) ⊎ Member z xs) × (test z ≡ true)
    by_test true e (inl is) later = (inl is, ap test is ∙ e)
    by_test true e (inr m) later = let found = later m in (inr found.0, found.1)
    by_test false e m later = let found = later m in (inr found.0, found.1)

-- `same` is whether two values are equal
module _ {X : Type 0} (same : X → X → Bool) where
  -- The uses of a value in lists one after the other.
  pub uses-append : (xs ys : List X) (x : X) → uses_of same (xs ++ ys) x ≡ uses_of same xs x + uses_of same ys x
  uses-append xs ys x = sum_by-append (λ y. one_if (same x y)) xs ys

  -- The same in a list with one more item at the front.
  pub uses-cons : (y : X) (ys : List X) (x : X) → uses_of same (y ∷ ys) x ≡ one_if (same x y) + uses_of same ys x
  uses-cons y ys x = sum_by-cons (λ z. one_if (same x z)) y ys

  -- The same in a list of one item.
  pub uses-one : (y x : X) → uses_of same (y ∷ []) x ≡ one_if (same x y)
  uses-one y x = omega (arith, uses-cons y [] x, none)
    where
      none : uses_of same [] x ≡ 0
      none = refl

module _ {X : Type 0} (same : X → X → Bool) (laws : IsEquivalence same) (sound : (x y : X) → same x y ≡ true → x ≡ y) where
  -- A value with uses is used.
  pub uses_member : (uses : List X) (z : X) → 0 < uses_of same uses z → Member z uses
  uses_member [] z some = absurd (none some)
    where
      none : 0 < 0 → ⊥
      none l = omega (arith, l)
  uses_member (x ∷ uses) z some = by_test (same z x) refl (omega (arith, some, uses-cons same x uses z)) (uses_member uses z)
    where
      by_test : (t : Bool) → same z x ≡ t → 0 < one_if t + uses_of same uses z → (0 < uses_of same uses z → Member z uses) → (z ≡ x) ⊎ Member z uses
      by_test true e l later = inl (sound z x e)
      by_test false e l later = inr (later (omega (arith, l)))

  -- A used value has some uses.
  pub member_used : (uses : List X) (z : X) → Member z uses → 0 < uses_of same uses z
  member_used [] z m = absurd m
  member_used (x ∷ uses) z (inl is) = omega (arith, uses-cons same x uses z, ap one_if (ap (λ k. same k x) is ∙ laws.refl x))
  member_used (x ∷ uses) z (inr m) = omega (arith, uses-cons same x uses z, member_used uses z m)

  -- The different values are used.
  pub different_member : (z : X) (uses : List X) → Member z (different same uses) → Member z uses
  different_member z [] m = m
  different_member z (x ∷ uses) (inl is) = inl is
  different_member z (x ∷ uses) (inr m) = inr (different_member z uses (unfiltered (λ y. not (same x y)) z (different same uses) m).0)

  -- The different values are different.
  pub distinct-different : (uses : List X) → IsDistinct same (different same uses)
  distinct-different uses = distinct_order same sound (λ x. laws.refl x) (IsEarlier same uses) never (different same uses) (by_first_use same sound (λ x. laws.refl x) uses)
    where
      never : (x : X) → IsEarlier same uses x x → ⊥
      never x h = omega (arith, h)
