-- Lists that are compared item by item.
use Rattle.std.proofs.Common.{◌≡◌, Bool, true, List, [], ◌∷◌, refl, ap₂, subst}
use Rattle.std.proofs.lemmas.Bool.{and_parts, and_from}
use Rattle.std.specs.Cmp.Lexicographic.{pointwise}

-- `same` is whether two items are equal
module _ {X : Type 0} (same : X → X → Bool) where
  -- Lists for which the test is true are equal.
  pub pointwise_sound : ((x y : X) → same x y ≡ true → x ≡ y) → (a b : List X) → pointwise same a b ≡ true → a ≡ b
  pointwise_sound sound [] [] e = refl
  pointwise_sound sound [] (y ∷ b) e = cc e
  pointwise_sound sound (x ∷ a) [] e = cc e
  pointwise_sound sound (x ∷ a) (y ∷ b) e =
      let (first, others) = and_parts (same x y) (pointwise same a b) e in
      ap₂ ◌∷◌ (sound x y first) (pointwise_sound sound a b others)

  -- The test is true for equal lists.
  pub pointwise_complete : ((x : X) → same x x ≡ true) → (a b : List X) → a ≡ b → pointwise same a b ≡ true
  pointwise_complete complete a b e = subst (λ l. pointwise same a l ≡ true) e (itself a)
    where
      itself : (a : List X) → pointwise same a a ≡ true
      itself [] = refl
      itself (x ∷ a) = and_from (same x x) (pointwise same a a) (complete x) (itself a)
