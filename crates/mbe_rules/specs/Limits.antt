-- A limit of tokens, or none.
use Rattle.std.specs.Prelude.{◌<◌, ◌≤◌, ℕ, Option, None, Some}

-- so many tokens exceed it
abbrev pub IsOver : Option ℕ → (count : ℕ) → Type 0
IsOver None count = ⊥
IsOver (Some most) count = most < count

-- so many tokens do not exceed it
abbrev pub IsWithin : Option ℕ → (count : ℕ) → Type 0
IsWithin None count = Unit {0}
IsWithin (Some most) count = count ≤ most
