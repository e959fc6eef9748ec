-- Reads a value at the front of bytes, and the bytes after it. Numbers are read back from their bytes.
use Rattle.std.specs.Borrow.{Bor}
use Rattle.std.specs.Char.{IsScalar}
use Rattle.std.specs.Int.{w16, w32, to_le_bytes, from_le_bytes}
use Rattle.std.specs.Prelude.{ℕ, ◌<◌, ◌^◌, List, [], ◌∷◌, ◌≡◌, Option, Some, None, MatchOption, slice_index, refl}
use Rattle.std.proofs.lemmas.Nat.{from_le_bytes-to_le_bytes_2, from_le_bytes-to_le_bytes_4}
use Rattle.std.proofs.Math.Utf8.{scalar_fits}

-- a value and the bytes after it, or none if the bytes do not begin with such a value
abbrev pub Read : Type 0 → Type 0
Read X = Option (X × List ℕ)

infixl 10 ◌>>=◌
-- goes on with what was read, if something was
abbrev pub ◌>>=◌ : {X Y : Type 0} → Option X → (X → Option Y) → Option Y
None >>= f = None
(Some x) >>= f = f x

-- the visitor after a read: as `makes` says if a value was read, otherwise unchanged
abbrev pub IsMade : {X Self : Type 0} → (makes : Self → X → List ℕ → Self → Type 0) → (old : Self) → Read X → (new : Self) → Type 0
IsMade makes old None new = new ≡ old
IsMade makes old (Some found) new = makes old found.0 found.1 new

-- one byte
abbrev pub byte_at : List ℕ → Read ℕ
byte_at [] = None
byte_at (a ∷ rest) = Some (a, rest)

-- a number of two bytes
abbrev pub half_at : List ℕ → Read ℕ
half_at (a ∷ b ∷ rest) = Some (from_le_bytes w16 (a ∷ b ∷ []), rest)
half_at _ = None

-- a number of four bytes
abbrev pub word_at : List ℕ → Read ℕ
word_at (a ∷ b ∷ c ∷ d ∷ rest) = Some (from_le_bytes w32 (a ∷ b ∷ c ∷ d ∷ []), rest)
word_at _ = None

-- the code read the same value, and the same bytes after it
abbrev pub IsRead : {X : Type 0} → Read X → Option (X × Bor (List ℕ)) → Type 0
IsRead read result = MatchOption result (read ≡ None) (λ found. read ≡ Some (found.0, found.1.now))

-- One byte is read back as its number.
pub byte_again : (n : ℕ) → n < 2 ^ 8 → slice_index (n ∷ []) 0 ≡ n
byte_again n h = refl

-- Two bytes are read back as their number.
pub half_again : (n : ℕ) → n < 2 ^ 16 → from_le_bytes w16 (to_le_bytes w16 n) ≡ n
half_again n h = from_le_bytes-to_le_bytes_2 n h

-- Four bytes are read back as their number.
pub word_again : (n : ℕ) → n < 2 ^ 32 → from_le_bytes w32 (to_le_bytes w32 n) ≡ n
word_again n h = from_le_bytes-to_le_bytes_4 n h

-- The four bytes of a character are read back as its number.
pub char_again : (n : ℕ) → IsScalar n → from_le_bytes w32 (to_le_bytes w32 n) ≡ n
char_again n h = from_le_bytes-to_le_bytes_4 n (scalar_fits n h)
