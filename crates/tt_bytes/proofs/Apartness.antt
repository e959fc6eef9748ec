-- Different values, one by one.
use Rattle.std.proofs.Common.{◌≡◌, ◌==◌, ℕ, Bool, true, false, ◌||◌, bytes_eq, List, [], ◌∷◌, length, map, refl, ap, ap₂, ◌∙◌, arith}
use Rattle.std.proofs.lemmas.Bool.Decides.{Decides-eqb}
use Rattle.std.proofs.lemmas.Slice.Eq.{bytes_eq-Decides}
use Rattle.std.specs.List.{AllByRecursion, IsDistinct, list_any}

-- `same` is whether two values are equal
module _ {X : Type 0} (same : X → X → Bool) where
  none_equals : ((x y : X) → same x y ≡ same y x) → (first : X) (rest : List X) → list_any (λ y. same y first) rest ≡ false → AllByRecursion (λ y. same first y ≡ false) rest
  none_equals turns first [] none = tt
  none_equals turns first (y ∷ rest) none = by_test (same y first) refl none (none_equals turns first rest)
    where
      by_test : (t : Bool) → same y first ≡ t → (t || list_any (λ y. same y first) rest) ≡ false
          → (list_any (λ y. same y first) rest ≡ false → AllByRecursion (λ y. same first y ≡ false) rest) → (same first y ≡ false) × AllByRecursion (λ y. same first y ≡ false) rest
      by_test true e absent later = absurd (cc absent)
      by_test false e absent later = (turns first y ∙ e, later absent)

  -- A value before others, if they are all different and it equals none of them.
  pub one_apart : ((x y : X) → same x y ≡ same y x) → (first : X) (rest : List X) → list_any (λ y. same y first) rest ≡ false → IsDistinct same rest → IsDistinct same (first ∷ rest)
  unfolding IsDistinct
  one_apart turns first rest none differ = (none_equals turns first rest none, differ)

  none_equal : ((x y : X) → same x y ≡ same y x) → (first : X) (rest : List X) → AllByRecursion (λ y. same first y ≡ false) rest → list_any (λ y. same y first) rest ≡ false
  none_equal turns first [] apart = refl
  none_equal turns first (y ∷ rest) apart = ap₂ (λ a b. a || b) (turns y first ∙ apart.0) (none_equal turns first rest apart.1)

  -- If a value and others are all different, it equals none of the others.
  pub apart_one : ((x y : X) → same x y ≡ same y x) → (first : X) (rest : List X) → IsDistinct same (first ∷ rest) → (list_any (λ y. same y first) rest ≡ false) × IsDistinct same rest
  unfolding IsDistinct
  apart_one turns first rest differ = (none_equal turns first rest differ.0, differ.1)

  -- A list of no values has only different ones.
  pub none_apart : (values : List X) → length values ≡ 0 → IsDistinct same values
  unfolding IsDistinct
  none_apart [] none = tt
  none_apart (x ∷ values) none = absurd (omega (arith, none))

-- A text is not among texts that have other digests.
text_apart : (number : List ℕ → ℕ) (text : List ℕ) (rest : List (List ℕ)) → AllByRecursion (λ n. (number text == n) ≡ false) (map number rest)
    → AllByRecursion (λ other. bytes_eq text other ≡ false) rest
text_apart number text [] apart = tt
text_apart number text (other ∷ rest) apart = (by_test (bytes_eq text other) refl, text_apart number text rest apart.1)
  where
    by_test : (t : Bool) → bytes_eq text other ≡ t → t ≡ false
    by_test true e =
        let alike : (number text == number other) ≡ true = (Decides-eqb (number text) (number other)).1 (ap number ((bytes_eq-Decides text other).0 e)) in
        absurd (cc (alike, apart.0))
    by_test false e = refl

-- Texts with different digests are different.
pub texts_apart : (number : List ℕ → ℕ) (texts : List (List ℕ)) → IsDistinct ◌==◌ (map number texts) → IsDistinct bytes_eq texts
unfolding IsDistinct
texts_apart number [] differ = tt
texts_apart number (text ∷ texts) differ = (text_apart number text texts differ.0, texts_apart number texts differ.1)
