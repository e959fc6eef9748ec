-- What a text needs of the macros that it defines.
use Rattle.std.specs.Prelude.{◌≡◌, ◌⊎◌, ℕ, Bool, true, false, List, [], ◌∷◌}
use Rattle.expand_unused.specs.Parts.{Part, word, rules, Rules}

-- it is one of these
abbrev pub IsAmong : {A : Type 0} → A → List A → Type 0
IsAmong it [] = ⊥
IsAmong it (first ∷ more) = (first ≡ it) ⊎ IsAmong it more

-- A name is needed if it occurs outside of the definitions that may go, or in the arms of one whose name is needed; no other name is.
pub data Needed (parts : List Part) : (name : List ℕ) → Type 0 where
  outside : {name : List ℕ} → IsAmong (word name) parts → Needed parts name
  inside : {name : List ℕ} (it : Rules) → IsAmong (rules it) parts → Needed parts it.name → IsAmong name it.inside → Needed parts name

-- a definition goes if its name is not needed, and stays if it is
abbrev pub IsRight : (goes : Bool) → (needed : Type 0) → Type 0
IsRight true needed = needed → ⊥
IsRight false needed = needed

-- for each definition that may go, it is known whether it goes
abbrev pub AreRight : (goes : List ℕ → Bool) → List Part → Type 0
AreRight goes parts = (it : Rules) → IsAmong (rules it) parts → IsRight (goes it.name) (Needed parts it.name)
