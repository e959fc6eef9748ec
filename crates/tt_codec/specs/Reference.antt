-- A reference: a symbol's index in a table with one tag bit, in one, two or four bytes.
use Rattle.std.specs.Borrow.{Bor}
use Rattle.std.specs.Int.{w16, to_le_bytes}
use Rattle.std.specs.Prelude.{ℕ, ◌+◌, ◌*◌, ◌/◌, ◌%◌, ◌^◌, nat_lt, if◌then◌else◌, List, [], ◌∷◌, ◌==◌, ◌≡◌, Option, Some, ◌<◌, ◌++◌, IsSomeAnd}
use Rattle.tt_codec.specs.Read.{Read, ◌>>=◌, byte_at, half_at}
use Rattle.tt_codec.specs.declared.reference.Reference.{Reference}

-- the bytes of an index and a tag: the first byte has 6 bits of the index, the second 7, the other two 16
unfoldable pub reference_bytes : (index tag : ℕ) → List ℕ
reference_bytes index tag =
    if nat_lt index 64 then (index * 4 + tag) ∷ []
    else if nat_lt index 8192 then (index % 64 * 4 + 2 + tag) ∷ (index / 64 * 2) ∷ []
    else (index % 64 * 4 + 2 + tag) ∷ (index / 64 % 128 * 2 + 1) ∷ to_le_bytes w16 (index / 2 ^ 13)

-- ---- reading

-- a reference, after two bytes are read
abbrev pub after_two_bytes : (first second : ℕ) → List ℕ → Read Reference
after_two_bytes first second rest =
    if second % 2 == 0 then Some (record { index = first / 4 + second / 2 * 64; tag = first % 2 }, rest)
    else (half_at rest >>= λ half. Some (record { index = first / 4 + second / 2 * 64 + half.0 * 2 ^ 13; tag = first % 2 }, half.1))

-- a reference, after one byte is read
abbrev pub after_one_byte : (first : ℕ) → List ℕ → Read Reference
after_one_byte first rest =
    if first / 2 % 2 == 0 then Some (record { index = first / 4; tag = first % 2 }, rest)
    else (byte_at rest >>= λ second. after_two_bytes first second.0 second.1)

-- a reference
unfoldable pub reference_at : List ℕ → Read Reference
reference_at bytes = byte_at bytes >>= λ first. after_one_byte first.0 first.1

-- if the bytes begin with a written reference, the result is that reference and the bytes after it
abbrev pub ReferencesAgain : List ℕ → Option (Reference × Bor (List ℕ)) → Type 0
ReferencesAgain bytes result =
    (index tag : ℕ) (rest : List ℕ) → index < 2 ^ 29 → tag < 2
    → bytes ≡ reference_bytes index tag ++ rest
    → IsSomeAnd result (λ found. (found.0 ≡ record { index = index; tag = tag }) × (found.1.now ≡ rest))
