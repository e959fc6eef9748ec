-- How one more use changes numbers of uses.
use Rattle.std.proofs.Common.{◌≡◌, ℕ, zero, suc, ◌+◌, Bool, true, false, cond, ◌||◌, List, [], ◌∷◌, ◌++◌, Some, map, set, slice_get, refl, ap, ap₂, sym, subst, ◌∙◌, arith}
use Rattle.std.proofs.lemmas.List.{map-append}
use Rattle.std.specs.Cmp.{IsEquivalence}
use Rattle.std.specs.List.{AllByRecursion, IsDistinct, list_any}
use Rattle.tt_tables.proofs.Different.{different-snoc, any-different, not_used}
use Rattle.tt_tables.proofs.Used.{one_if, all_at_place, uses-append, uses-one}
use Rattle.tt_tables.specs.TableOrder.{different, uses_of}

-- `same` is whether two values are equal
module _ {X : Type 0} (same : X → X → Bool) (laws : IsEquivalence same) (sound : (x y : X) → same x y ≡ true → x ≡ y) where
  -- If x equals none of the values, none of them equals x.
  turned : (x : X) (values : List X) → AllByRecursion (λ v. same x v ≡ false) values → AllByRecursion (λ v. same v x ≡ false) values
  turned x [] apart = tt
  turned x (v ∷ values) apart = (laws.symm v x ∙ apart.0, turned x values apart.1)

  -- If no value equals x, x equals none of them.
  none_equal : (x : X) (values : List X) → list_any (same x) values ≡ false → AllByRecursion (λ v. same x v ≡ false) values
  none_equal x [] none = tt
  none_equal x (v ∷ values) none = by_test (same x v) refl none (none_equal x values)
    where
      by_test : (t : Bool) → same x v ≡ t → (t || list_any (same x) values) ≡ false → (list_any (same x) values ≡ false → AllByRecursion (λ v. same x v ≡ false) values)
          → (same x v ≡ false) × AllByRecursion (λ v. same x v ≡ false) values
      by_test true e absent later = absurd (cc absent)
      by_test false e absent later = (e, later absent)

  -- A search by one side of the test is a search by the other.
  pub any_turned : (values : List X) (x : X) → list_any (λ z. same z x) values ≡ list_any (same x) values
  any_turned [] x = refl
  any_turned (v ∷ values) x = ap₂ (λ a b. a || b) (laws.symm v x) (any_turned values x)

  -- A value in a list is found there.
  found_any : (values : List X) (i : ℕ) (x : X) → slice_get values i ≡ Some x → list_any (λ z. same z x) values ≡ true
  found_any [] i x at = absurd (cc at)
  found_any (v ∷ values) zero x at =
      let is : v ≡ x = cc at in
      ap (λ t. t || list_any (λ z. same z x) values) (ap (λ z. same z x) is ∙ laws.refl x)
  found_any (v ∷ values) (suc i) x at = by_test (same v x) (found_any values i x at)
    where
      by_test : (t : Bool) → list_any (λ z. same z x) values ≡ true → (t || list_any (λ z. same z x) values) ≡ true
      by_test true e = refl
      by_test false e = e

  -- A use of another value changes no number.
  uses_same : (uses values : List X) (x : X) → AllByRecursion (λ v. same v x ≡ false) values → map (uses_of same (uses ++ x ∷ [])) values ≡ map (uses_of same uses) values
  uses_same uses [] x apart = refl
  uses_same uses (v ∷ values) x apart =
      let none : one_if (same v x) ≡ 0 = ap one_if apart.0 in
      let more : uses_of same (uses ++ x ∷ []) v ≡ uses_of same uses v = omega (arith, uses-append same uses (x ∷ []) v, uses-one same x v, none) in
      ap₂ ◌∷◌ more (uses_same uses values x apart.1)

  -- The value at a place has one use more.
  counted_step : (uses values : List X) (i n : ℕ) (x : X) → IsDistinct same values → slice_get values i ≡ Some x → slice_get (map (uses_of same uses) values) i ≡ Some n
      → set (map (uses_of same uses) values) i (n + 1) ≡ map (uses_of same (uses ++ x ∷ [])) values
  unfolding IsDistinct
  counted_step uses [] i n x distinct at number = absurd (cc at)
  counted_step uses (v ∷ values) zero n x distinct at number =
      let is : v ≡ x = cc at in
      let count : uses_of same uses v ≡ n = cc number in
      let one : one_if (same v x) ≡ 1 = ap one_if (ap (λ k. same k x) is ∙ laws.refl x) in
      let more : n + 1 ≡ uses_of same (uses ++ x ∷ []) v = omega (arith, uses-append same uses (x ∷ []) v, uses-one same x v, one, count) in
      ap₂ ◌∷◌ more (sym (uses_same uses values x (turned x values (subst (λ k. AllByRecursion (λ z. same k z ≡ false) values) is distinct.0))))
  counted_step uses (v ∷ values) (suc i) n x distinct at number =
      let apart : same v x ≡ false = all_at_place (λ z. same v z ≡ false) values i x distinct.0 at in
      let none : one_if (same v x) ≡ 0 = ap one_if apart in
      let stays : uses_of same uses v ≡ uses_of same (uses ++ x ∷ []) v = omega (arith, uses-append same uses (x ∷ []) v, uses-one same x v, none) in
      ap₂ ◌∷◌ stays (counted_step uses values i n x distinct.1 at number)

  pub counted_at : (uses values : List X) (numbers : List ℕ) (i n : ℕ) (x : X) → IsDistinct same values → slice_get values i ≡ Some x → numbers ≡ map (uses_of same uses) values
      → slice_get numbers i ≡ Some n → set numbers i (n + 1) ≡ map (uses_of same (uses ++ x ∷ [])) values
  counted_at uses values numbers i n x distinct at are number =
      ap (λ l. set l i (n + 1)) are ∙ counted_step uses values i n x distinct at (ap (λ l. slice_get l i) (sym are) ∙ number)

  -- A value that had no use has one use.
  pub counted_new : (uses values : List X) (x : X) → list_any (same x) values ≡ false → values ≡ different same uses
      → map (uses_of same uses) values ++ 1 ∷ [] ≡ map (uses_of same (uses ++ x ∷ [])) (values ++ x ∷ [])
  counted_new uses values x none order =
      ap (λ l. l ++ 1 ∷ []) (sym (uses_same uses values x (turned x values (none_equal x values none))))
      ∙ ap (λ m. map (uses_of same (uses ++ x ∷ [])) values ++ m ∷ []) first
      ∙ sym (map-append (uses_of same (uses ++ x ∷ [])) values (x ∷ []))
    where
      unused : uses_of same uses x ≡ 0
      unused = not_used same laws uses x (sym (any-different same laws uses x) ∙ ap (list_any (λ z. same z x)) (sym order) ∙ any_turned values x ∙ none)

      one : one_if (same x x) ≡ 1
      one = ap one_if (laws.refl x)

      first : 1 ≡ uses_of same (uses ++ x ∷ []) x
      first = omega (arith, uses-append same uses (x ∷ []) x, uses-one same x x, one, unused)

  -- A value that had uses keeps its place.
  pub order_same : (uses values : List X) (i : ℕ) (x : X) → slice_get values i ≡ Some x → values ≡ different same uses → values ≡ different same (uses ++ x ∷ [])
  order_same uses values i x at order =
      order
      ∙ sym (different-snoc same laws uses x ∙ ap (λ t. cond t (different same uses) (different same uses ++ x ∷ []))
      (ap (list_any (λ z. same z x)) (sym order) ∙ found_any values i x at))

  -- A value that had no use comes last.
  pub order_new : (uses values : List X) (x : X) → list_any (same x) values ≡ false → values ≡ different same uses → values ++ x ∷ [] ≡ different same (uses ++ x ∷ [])
  order_new uses values x none order =
      ap (λ l. l ++ x ∷ []) order
      ∙ sym (different-snoc same laws uses x ∙ ap (λ t. cond t (different same uses) (different same uses ++ x ∷ []))
      (ap (list_any (λ z. same z x)) (sym order) ∙ any_turned values x ∙ none))

  -- Values at two places are not equal.
  pub apart_at : (values : List X) (i j : ℕ) (x y : X) → IsDistinct same values → slice_get values i ≡ Some x → slice_get values j ≡ Some y → (i ≡ j → ⊥) → same x y ≡ false
  unfolding IsDistinct
  apart_at [] i j x y distinct at_x at_y other = absurd (cc at_x)
  apart_at (v ∷ values) zero zero x y distinct at_x at_y other = absurd (other refl)
  apart_at (v ∷ values) zero (suc j) x y distinct at_x at_y other =
      let is : v ≡ x = cc at_x in
      ap (λ k. same k y) (sym is) ∙ all_at_place (λ z. same v z ≡ false) values j y distinct.0 at_y
  apart_at (v ∷ values) (suc i) zero x y distinct at_x at_y other =
      let is : v ≡ y = cc at_y in
      laws.symm x y ∙ ap (λ k. same k x) (sym is) ∙ all_at_place (λ z. same v z ≡ false) values i x distinct.0 at_x
  apart_at (v ∷ values) (suc i) (suc j) x y distinct at_x at_y other = apart_at values i j x y distinct.1 at_x at_y (λ e. other (ap suc e))
