-- The digest of a text: equal texts have the same one.
use Rattle.std.specs.Int.{w64, from_le_bytes}
use Rattle.std.specs.List.{fold}
use Rattle.std.specs.Prelude.{ℕ, ◌+◌, ◌-◌, ◌*◌, ◌^◌, ◌%◌, List, length, take, drop, nat_le, if◌then◌else◌}

-- a number from two
abbrev pub joined : (one other : ℕ) → ℕ
joined one other = ((one * 31) % 2 ^ 64 + other) % 2 ^ 64

-- the digest of a text with few bytes
abbrev pub short_digest : List ℕ → ℕ
short_digest text = fold joined 0 text

-- the digest of a text: of its first eight bytes and its last eight, if it has at least eight
abbrev pub digest_of : List ℕ → ℕ
digest_of text =
    if nat_le 8 (length text)
    then joined (from_le_bytes w64 (take 8 text)) (from_le_bytes w64 (drop (length text - 8) text))
    else short_digest text
