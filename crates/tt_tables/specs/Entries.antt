-- Values at places, each with its number of uses.
use Rattle.std.specs.Prelude.{◌≡◌, ℕ, suc, ◌<◌, Bool, if◌then◌else◌, List, [], ◌∷◌, ◌++◌, Some, slice_get, take, drop}
use Rattle.std.specs.List.{AllByRecursion, list_any}
use Rattle.std.specs.Map.{keys_of, values_of}

-- the entries with one for the value: the one that is there, or a new one with no uses
abbrev pub with_entry : {X : Type 0} → (same : X → X → Bool) → List (X × ℕ) → X → List (X × ℕ)
with_entry same entries x = if list_any (same x) (keys_of entries) then entries else entries ++ (x, 0) ∷ []

-- the new entries are the old ones up to the last that has uses
pub record IsCut {X : Type 0} (old new : List (X × ℕ)) : Type 0 where
  pub len : ℕ
  pub front : new ≡ take len old
  pub unused : AllByRecursion (λ number. number ≡ 0) (drop len (values_of old))
  pub ends_used : (k : ℕ) → len ≡ suc k → (number : ℕ) × (slice_get (values_of old) k ≡ Some number) × (0 < number)
