-- The places of the definitions in a text. A place is the number of tokens from there to the end of the text.
use Rattle.std.specs.Prelude.{◌≡◌, ℕ, Bool, List, nat_eq}
use Rattle.std.specs.List.{list_any}
use Rattle.indexmap.specs.IndexSet.{IndexSet, contains}
use Rattle.tt.specs.Forest.{Forest}
use Rattle.expand_items.specs.MacroRulesItems.{ArePlaces}

-- the place is in a set
abbrev pub defined_in : {S : Type 0} → IndexSet ℕ S → (place : ℕ) → Bool
defined_in set place = contains nat_eq set place

-- a definition is at these places, and at no others
abbrev pub HasPlaces : (places : List ℕ) → (defined : ℕ → Bool) → Type 0
HasPlaces places defined = (place : ℕ) → defined place ≡ list_any (λ it. nat_eq it place) places

-- a definition is there if Rust's grammar has one there
abbrev pub AreDefined : Forest → (defined : ℕ → Bool) → Type 0
AreDefined trees defined = (places : List ℕ) × ArePlaces trees places × HasPlaces places defined
