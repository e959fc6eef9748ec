-- A text in two parts.
use Rattle.std.specs.Prelude.{ℕ, ◌==◌, List, length, nat_lt, Option, Some, None, if◌then◌else◌}
use Rattle.std.specs.List.{after_first, before_first, position_or_len}

-- the text before the first byte of this value, and the text behind it; none, if the text has no such byte
abbrev pub cut_at : (byte : ℕ) → (text : List ℕ) → Option (List ℕ × List ℕ)
cut_at byte text =
    if nat_lt (position_or_len (λ b. b == byte) text) (length text)
    then Some (before_first (λ b. b == byte) text, after_first (λ b. b == byte) text)
    else None
