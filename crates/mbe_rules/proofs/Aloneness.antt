-- Leaves whose last one is alone.
use Rattle.std.proofs.Common.{◌≡◌, List, [], ◌∷◌, ◌++◌, refl, ap}
use Rattle.tt.specs.Building.{leaf_alone}
use Rattle.tt.specs.Types.Leaf.{Leaf}
use Rattle.mbe_rules.specs.Spelling.{last_alone}

-- The last becomes alone.
pub last_made : (its : List Leaf) (it : Leaf) → its ++ leaf_alone it ∷ [] ≡ last_alone (its ++ it ∷ [])
last_made [] it = refl
last_made (first ∷ []) it = refl
last_made (first ∷ next ∷ its) it = ap (λ l. first ∷ l) (last_made (next ∷ its) it)
