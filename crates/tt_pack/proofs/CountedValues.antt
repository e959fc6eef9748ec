-- The values that a list of tokens uses, beside their numbers.
use Rattle.std.proofs.Common.{◌≡◌, ℕ, Bool, true, List, [], ◌∷◌, ◌++◌, map, refl, ap, subst, ◌∙◌}
use Rattle.std.specs.Map.{keys_of, values_of}
use Rattle.std.specs.Cmp.{IsEquivalence}
use Rattle.tt_tables.specs.TableOrder.{different, uses_of}
use Rattle.tt_pack.specs.Counted.{count_use, counted}
use Rattle.tt_pack.proofs.Counting.{counted_grows}
use Rattle.tt_pack.specs.TablesOf.{StandsAt}

-- Counts have these values as keys.
pub beside_keys : {X : Type 0} (f : X → ℕ) (xs : List X) → keys_of (map (λ x. (x, f x)) xs) ≡ xs
beside_keys f [] = refl
beside_keys f (x ∷ xs) = ap (λ l. x ∷ l) (beside_keys f xs)

pub beside_numbers : {X : Type 0} (f : X → ℕ) (xs : List X) → values_of (map (λ x. (x, f x)) xs) ≡ map f xs
beside_numbers f [] = refl
beside_numbers f (x ∷ xs) = ap (λ l. f x ∷ l) (beside_numbers f xs)

-- The counted values are the different ones.
pub counted_values : {X : Type 0} (same : X → X → Bool) (uses : List X) → keys_of (counted same uses) ≡ different same uses
counted_values same uses = beside_keys (uses_of same uses) (different same uses)

-- The counts of some uses become the counts of one more use.
pub meets_counted : {X : Type 0} (same : X → X → Bool) → IsEquivalence same → ((x y : X) → same x y ≡ true → x ≡ y) → (uses : List X) (old new : List (X × ℕ)) (x : X) (index : ℕ)
    → old ≡ counted same uses → new ≡ count_use same old x → StandsAt (keys_of new) index x
    → (new ≡ counted same (uses ++ x ∷ [])) × StandsAt (different same (uses ++ x ∷ [])) index x
meets_counted same laws sound uses old new x index is more at =
    let now : new ≡ counted same (uses ++ x ∷ []) = more ∙ ap (λ counts. count_use same counts x) is ∙ counted_grows same laws sound uses x in
    (now, subst (λ values. StandsAt values index x) (ap keys_of now ∙ counted_values same (uses ++ x ∷ [])) at)
