-- The first value that passes a test, in a list and in its image under a map.
use Rattle.std.proofs.Common.{◌≡◌, ◌+◌, Bool, List, [], ◌∷◌, map, Some, None, refl, ap, ap₂, nat_lt, cond}
use Rattle.std.proofs.lemmas.List.{length-map}
use Rattle.std.specs.List.{position, prefix_len}

module _ {A B : Type 0} (f : A → B) where
  prefix_made : (test : B → Bool) (its : List A) → prefix_len test (map f its) ≡ prefix_len (λ it. test (f it)) its
  prefix_made test [] = refl
  prefix_made test (it ∷ others) = ap (λ n. cond (test (f it)) (1 + n) 0) (prefix_made test others)

  pub position_made : (test : B → Bool) (its : List A) → position test (map f its) ≡ position (λ it. test (f it)) its
  position_made test its = ap₂ (λ n m. cond (nat_lt n m) (Some n) None) (prefix_made _ its) (length-map its f)
