-- Worked last places of names. Each holds by computation.
use Rattle.std.proofs.Common.{◌≡◌, ℕ, List, [], ◌∷◌, None, Some, codes, refl}
use Rattle.expand_text.specs.LastPlaces.{last_place, links_of}

-- three macros, two of one name
abbrev names : List (List ℕ)
names = codes "a" ∷ codes "b" ∷ codes "a" ∷ []

-- The last of a name is found, and each name is linked to the last before it.
twice : last_place names (codes "a") ≡ Some 2
twice = refl

once : last_place names (codes "b") ≡ Some 1
once = refl

never : last_place names (codes "c") ≡ None
never = refl

linked : links_of names ≡ None ∷ None ∷ Some 0 ∷ []
linked = refl
