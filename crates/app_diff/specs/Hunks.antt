-- What the hunks of two texts are.
use Rattle.std.specs.Prelude.{◌≡◌, ◌+◌, ◌<◌, ◌≤◌, ℕ, List, [], ◌∷◌, take, drop}
use Rattle.app_diff.specs.declared.hunk.Hunk.{Hunk}
use Rattle.app_diff.specs.declared.occurrences.Places.{Places}

-- before the first lines
abbrev pub start : Places
start = record { old = 0; new = 0 }

-- behind the lines of a hunk
abbrev pub behind : Hunk → Places
behind it = record { old = it.old_start + it.old_len; new = it.new_start + it.new_len }

-- the hunks make the new lines, from those places on, of the old ones: before each hunk some lines are the same
abbrev pub AreHunks : Places → (old new : List (List ℕ)) → List Hunk → Type 0
AreHunks at old new [] = old ≡ new
AreHunks at old new (it ∷ others) =
    (kept : ℕ) × (it.old_start ≡ at.old + kept) × (it.new_start ≡ at.new + kept) × (take kept old ≡ take kept new)
    × AreHunks (behind it) (drop (kept + it.old_len) old) (drop (kept + it.new_len) new) others

-- these places are behind others, in texts of so many lines
pub record IsBehind (old_at new_at old_len new_len : ℕ) (it : Places) : Type 0 where
  pub old : old_at ≤ it.old
  pub new : new_at ≤ it.new
  pub old_within : it.old ≤ old_len
  pub new_within : it.new ≤ new_len
  pub some : old_at + new_at < it.old + it.new
