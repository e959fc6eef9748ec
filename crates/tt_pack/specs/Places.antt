-- The parts that interned tokens use, by their places.
use Rattle.std.specs.Prelude.{◌≡◌, ℕ, ◌<◌, Option, None, Some, List, [], ◌∷◌, flat_map, slice_get}
use Rattle.std.specs.List.{AllByRecursion}
use Rattle.tt_codec.specs.declared.entry.LeafEntry.{LeafEntry}
use Rattle.tt_codec.specs.declared.entry.LeafEntry.TheVariants.{Punct as punct, Ident as ident, Literal as literal}
use Rattle.tt_tables.specs.declared.token.InternedToken.{InternedToken}
use Rattle.tt_tables.specs.declared.token.InternedToken.TheVariants as interned

-- the place of a leaf's part
abbrev pub leaf_place : LeafEntry → ℕ
leaf_place (punct char spacing numbers) = numbers.part
leaf_place (ident symbol raw numbers) = numbers.part
leaf_place (literal symbol kind suffix_len numbers) = numbers.part

-- the places of a token's parts: for a header its open part, then its close part
abbrev pub token_places : InternedToken → List ℕ
token_places (interned.Leaf entry) = leaf_place entry ∷ []
token_places (interned.Open kind opening) = opening.part ∷ []
token_places (interned.Header entry) = entry.opening.part ∷ entry.closing.part ∷ []

-- one place, or two
abbrev pub places_from : ℕ → Option ℕ → List ℕ
places_from first None = first ∷ []
places_from first (Some second) = first ∷ second ∷ []

-- the places of the parts that tokens use
abbrev pub part_places : List InternedToken → List ℕ
part_places tokens = flat_map token_places tokens

-- all places of the token's parts are less than this number
abbrev pub IsWithin : (parts : ℕ) → InternedToken → Type 0
IsWithin parts it = AllByRecursion (λ place. place < parts) (token_places it)

-- each place in the order has its rank
abbrev pub AreRanked : (order ranks : List ℕ) → Type 0
AreRanked order ranks = (rank place : ℕ) → slice_get order rank ≡ Some place → slice_get ranks place ≡ Some rank

-- the value is at the place
abbrev pub IsAt : {X : Type 0} → List X → (place : ℕ) → X → Type 0
IsAt values place x = slice_get values place ≡ Some x

-- one of the places is not at the index that equals it
pub record HasOutOfTurn (places : List ℕ) : Type 0 where
  pub index : ℕ
  pub place : ℕ
  pub at : slice_get places index ≡ Some place
  pub other : place ≡ index → ⊥
