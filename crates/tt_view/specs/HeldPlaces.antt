-- Places in the bytes of a stored tree, and the trees there.
use Rattle.std.specs.Prelude.{◌≡◌, ℕ, List, [], ◌∷◌}
use Rattle.std.specs.Coded.{×_prop}
use Rattle.std.proofs.Props.{props}
use mathlib.Core.HLevel.{Σ_prop_path}
use Rattle.tt_base.specs.Forest.{Forest, Root}
use Rattle.tt_tables.specs.Meaning.{HasAhead, IsAhead}
use Rattle.tt_tables.proofs.StoredAlike.{HasAhead-prop}
use Rattle.tt_pack.specs.StoredIn.{bytes_for, tables_stored}
use Rattle.tt_view.specs.Cuts.{HoldsTrees, HoldsTrees-prop}
use Rattle.tt_view.specs.declared.tree_walk.Place.{Place}

-- these trees are ahead of an offset in the bytes of a tree
abbrev pub IsAheadIn : Root → (offset : ℕ) → Forest → Type 0
IsAheadIn root offset trees = IsAhead (tables_stored root) (bytes_for root) offset trees

abbrev pub HasAheadIn : Root → (offset : ℕ) → Type 0
HasAheadIn root offset = HasAhead (tables_stored root) (bytes_for root) offset

-- trees are ahead of the offset of the place, and the first `len` tokens of them are whole trees
abbrev pub IsHeld : Root → Place → Type 0
IsHeld root place = (ahead : HasAheadIn root place.offset) × HoldsTrees ahead.0 place.len

-- the trees of those tokens
abbrev pub trees_at : (root : Root) (place : Place) → IsHeld root place → Forest
trees_at root place held = held.1.0.0

-- the same for each of the places
abbrev pub AreHeld : Root → List Place → Type 0
AreHeld root [] = Unit {0}
AreHeld root (place ∷ others) = IsHeld root place × AreHeld root others

abbrev pub all_trees : (root : Root) (places : List Place) → AreHeld root places → List Forest
all_trees root [] held = []
all_trees root (place ∷ others) held = trees_at root place held.0 ∷ all_trees root others held.1

-- these are the trees at the place, or at the places
abbrev pub HasTrees : Root → Place → Forest → Type 0
HasTrees root place trees = (held : IsHeld root place) × (trees_at root place held ≡ trees)

abbrev pub HaveTrees : Root → List Place → List Forest → Type 0
HaveTrees root places lists = (held : AreHeld root places) × (all_trees root places held ≡ lists)

-- There is only one such list of trees at a place, so that is a proposition, as a ghost field must be.
pub IsHeld-prop : (root : Root) (place : Place) → IsProp (IsHeld root place)
IsHeld-prop root place a b =
    Σ_prop_path (λ ahead. HoldsTrees-prop ahead.0 place.len) (HasAhead-prop (tables_stored root) (bytes_for root) place.offset a.0 b.0)

pub AreHeld-prop : (root : Root) (places : List Place) → IsProp (AreHeld root places)
AreHeld-prop root [] = Prim.hlevel props
AreHeld-prop root (place ∷ others) = ×_prop (IsHeld-prop root place) (AreHeld-prop root others)
