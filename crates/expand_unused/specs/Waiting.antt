-- Macros that are not known to be needed, and what is known while the search goes on.
use Rattle.std.specs.Prelude.{◌≡◌, ◌⊎◌, ℕ, Vec, Bool, List, [], ◌∷◌, Option, None, Some, option_map, bytes_eq, is_some}
use Rattle.indexmap.specs.IndexMap.{IndexMap, get}
use Rattle.expand_unused.specs.Needing.{IsAmong, Needed}
use Rattle.expand_unused.specs.Parts.{Part, word, rules, Rules}

-- the words that wait under a name in a map, and whether any wait there
abbrev pub waiting_in : {Y S : Type 0} → IndexMap (List ℕ) (Vec (List ℕ) Y) S → (name : List ℕ) → Option (List (List ℕ))
waiting_in map name = option_map (λ words. words.items) (get bytes_eq map name)

abbrev pub waits_in : {Y S : Type 0} → IndexMap (List ℕ) (Vec (List ℕ) Y) S → (name : List ℕ) → Bool
waits_in map name = is_some (get bytes_eq map name)

-- the words that wait, if any do
abbrev pub words_of : Option (List (List ℕ)) → List (List ℕ)
words_of None = []
words_of (Some it) = it

-- the words outside of the definitions that may go
abbrev pub words_outside : List Part → List (List ℕ)
words_outside [] = []
words_outside (word it ∷ more) = it ∷ words_outside more
words_outside (rules it ∷ more) = words_outside more

-- under each name of a definition the words wait that are in the arms of definitions of that name
pub record IsWaiting (parts : List Part) (waiting : List ℕ → Option (List (List ℕ))) : Type 0 where
  pub there : (it : Rules) → IsAmong (rules it) parts → waiting it.name ≡ None → ⊥
  pub all : (it : Rules) (text : List ℕ) → IsAmong (rules it) parts → IsAmong text it.inside → IsAmong text (words_of (waiting it.name))
  pub others : (name text : List ℕ) → IsAmong text (words_of (waiting name)) → (it : Rules) × IsAmong (rules it) parts × (it.name ≡ name) × IsAmong text it.inside

-- some names are needed, and what they need is being searched for; those that wait are not known to be needed, and all others are
pub record IsBetween (parts : List Part) (waiting : List ℕ → Option (List (List ℕ))) (needed : List (List ℕ)) : Type 0 where
  pub sound : (name : List ℕ) → IsAmong name needed → Needed parts name
  pub gone : (it : Rules) → IsAmong (rules it) parts → waiting it.name ≡ None → Needed parts it.name
  pub outside : (name : List ℕ) → IsAmong (word name) parts → IsAmong name needed ⊎ (waiting name ≡ None)
  pub inside : (it : Rules) (name : List ℕ) → IsAmong (rules it) parts → waiting it.name ≡ None → IsAmong name it.inside → IsAmong name needed ⊎ (waiting name ≡ None)
  pub all : (it : Rules) (text : List ℕ) → IsAmong (rules it) parts → IsAmong text it.inside → (waiting it.name ≡ None) ⊎ IsAmong text (words_of (waiting it.name))
  pub others : (name text : List ℕ) → IsAmong text (words_of (waiting name)) → (it : Rules) × IsAmong (rules it) parts × (it.name ≡ name) × IsAmong text it.inside

-- whatever may be known before is known after
abbrev pub GoesOn : (old new : List ℕ → Option (List (List ℕ))) → (before after : List (List ℕ)) → Type 0
GoesOn old new before after = (parts : List Part) → IsBetween parts old before → IsBetween parts new after
