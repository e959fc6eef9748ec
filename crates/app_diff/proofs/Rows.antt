-- Texts and their hunks.
use Rattle.std.proofs.Common.{◌≡◌, List, [], ◌∷◌, ℕ, refl, arith}
use Rattle.app_diff.specs.Hunks.{AreHunks, start}
use Rattle.app_diff.specs.declared.hunk.Hunk.{Hunk}

-- lines of one character
abbrev a : List ℕ
a = 97 ∷ []

abbrev b : List ℕ
b = 98 ∷ []

abbrev c : List ℕ
c = 99 ∷ []

abbrev hunk : (old_start old_len new_start new_len : ℕ) → Hunk
hunk old_start old_len new_start new_len = record { old_start = old_start; old_len = old_len; new_start = new_start; new_len = new_len }

-- equal texts have none
equal : AreHunks start (a ∷ b ∷ []) (a ∷ b ∷ []) []
equal = refl

-- one line is another one
changed : AreHunks start (a ∷ b ∷ c ∷ []) (a ∷ a ∷ c ∷ []) (hunk 1 1 1 1 ∷ [])
changed = (1, refl, refl, refl, refl)

-- a line comes, and later one goes
added_and_removed : AreHunks start (a ∷ b ∷ c ∷ []) (b ∷ a ∷ b ∷ []) (hunk 0 0 0 1 ∷ hunk 2 1 3 0 ∷ [])
added_and_removed = (0, refl, refl, refl, (2, refl, refl, refl, refl))

-- what differs needs a hunk
none_left_out : AreHunks start (a ∷ b ∷ []) (a ∷ c ∷ []) [] → ⊥
none_left_out e =
    let line : b ≡ c = cc in
    let letter : ◌≡◌ {A = ℕ} 98 99 = cc in
    absurd (omega (arith, letter))
