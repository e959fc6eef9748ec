-- One more value among entries, each of which is beside its number.
use Rattle.std.specs.Prelude.{ℕ, Bool, List, [], ◌∷◌, if◌then◌else◌}

-- the entries after a value: a new one comes last with the number `new`, and `again` changes the number of one that is there
abbrev pub entered : {X : Type 0} → (same : X → X → Bool) (new : ℕ) (again : ℕ → ℕ) → List (X × ℕ) → X → List (X × ℕ)
entered same new again [] x = (x, new) ∷ []
entered same new again (entry ∷ entries) x = if same x entry.0 then (entry.0, again entry.1) ∷ entries else entry ∷ entered same new again entries x
