-- Positions that are laid level by level.
use Rattle.std.specs.Prelude.{◌≡◌, ◌+◌, ◌<◌, ℕ, zero, suc, List, [], ◌∷◌, map, length, Contains, slice_index_or}
use Rattle.tt.specs.Forest.{Forest, end, leaf, node, size}
use Rattle.tt.specs.Moves.{after_tree}
use Rattle.tt.specs.Siblings.{children_of}
use Rattle.tt.specs.Types.DelimiterKind.{DelimiterKind}
use Rattle.tt.specs.Views.{trees_of}
use Rattle.mbe_pattern.specs.Units.{IsNodeOf}
use Rattle.mbe_program.specs.Program.{Instruction, enter}
use Rattle.mbe_program.specs.declared.positions.Position.{Position}
use Rattle.mbe_program.specs.declared.positions.Positions.{Positions}

-- a position as a definition
pub record Spot : Type 0 where
  pub trees : Forest
  pub outside : ℕ
  pub left : ℕ

abbrev pub spot_of : Position → Spot
spot_of it = record { trees = trees_of it.trees; outside = it.outside; left = it.left }

abbrev pub spots_of : Positions → List Spot
spots_of its = map spot_of its.all.items

-- a position before these trees, and that many tokens after the level
abbrev pub spot : (outside behind : ℕ) → Forest → Spot
spot outside behind trees = record { trees = trees; outside = outside; left = size trees + behind }

-- the positions of a level
abbrev pub level_spots : (outside behind : ℕ) → Forest → List Spot
level_spots outside behind end = spot outside behind end ∷ []
level_spots outside behind (leaf it rest) = spot outside behind (leaf it rest) ∷ level_spots outside behind rest
level_spots outside behind (node delimiter children rest) = spot outside behind (node delimiter children rest) ∷ level_spots outside behind rest

-- how many positions a level has, with those inside its trees
abbrev pub places_in : Forest → ℕ
places_in end = 1
places_in (leaf it rest) = suc (places_in rest)
places_in (node delimiter children rest) = suc (places_in children + places_in rest)

-- how many positions are inside the first tree, and inside the first trees of spots
abbrev pub places_inside : Forest → ℕ
places_inside end = 0
places_inside (leaf it rest) = 0
places_inside (node delimiter children rest) = places_in children

abbrev pub pending : List Spot → ℕ
pending [] = 0
pending (it ∷ others) = places_inside it.trees + pending others

-- the spot of that number
abbrev pub IsSpot : List Spot → (n : ℕ) → Spot → Type 0
IsSpot [] n it = ⊥
IsSpot (other ∷ others) zero it = it ≡ other
IsSpot (other ∷ others) (suc n) it = IsSpot others n it

-- positions of an input, of which those before a number know what is inside their first trees, if the program enters subtrees of that kind
pub record AreLaid (program : List Instruction) (input : Forest) (spots : List Spot) (insides : List ℕ) : Type 0 where
  pub nowhere : (it : Spot) × IsSpot spots 0 it × (it.trees ≡ end) × (it.left ≡ 0)
  pub first : (it : Spot) × IsSpot spots 1 it × (it.trees ≡ input) × (it.outside ≡ 0)
  pub next : (n : ℕ) (it : Spot) → 0 < n → IsSpot spots n it → (it.trees ≡ end → ⊥) → (other : Spot) × IsSpot spots (suc n) other × (other.trees ≡ after_tree it.trees) × (other.outside ≡ it.outside)
  pub out : (n : ℕ) (it : Spot) → IsSpot spots n it → (other : Spot) × IsSpot spots it.outside other × (0 < n → it.left ≡ size it.trees + other.left)
  pub into : (n : ℕ) (it : Spot) → 0 < n → n < length insides → IsSpot spots n it → (kind : DelimiterKind) → Contains program (enter kind)
      → IsNodeOf kind it.trees
      → (0 < slice_index_or insides n 0) × ((other : Spot) × IsSpot spots (slice_index_or insides n 0) other × (other.trees ≡ children_of it.trees) × (other.outside ≡ suc n))
