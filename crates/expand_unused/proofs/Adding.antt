-- A set of places gets one more.
use Rattle.std.proofs.Common.{◌≡◌, ◌++◌, ℕ, Bool, true, false, List, [], ◌∷◌, refl, ap, sym, ◌∙◌, cond}
use Rattle.std.specs.List.{list_any}
use Rattle.std.specs.Prelude.{◌||◌, nat_eq}
use Rattle.std.proofs.lemmas.List.Folds.{list_any-append}
use Rattle.expand_unused.specs.Places.{HasPlaces}

pub one_more : (places : List ℕ) (place : ℕ) (old new : ℕ → Bool) → HasPlaces places old → ((other : ℕ) → new other ≡ cond (nat_eq place other) true (old other))
    → HasPlaces (places ++ place ∷ []) new
one_more places place old new has adds other =
    adds other ∙ ap (cond (nat_eq place other) true) (has other) ∙ by (nat_eq place other) (list_any (λ it. nat_eq it other) places)
    ∙ sym (list_any-append (λ it. nat_eq it other) places (place ∷ []))
  where
    by : (same there : Bool) → cond same true there ≡ there || (same || false)
    by true true = refl
    by true false = refl
    by false true = refl
    by false false = refl
