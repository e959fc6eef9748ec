-- What comes after a value at the front of some bytes.
use Rattle.std.specs.Borrow.{Bor}
use Rattle.std.specs.Prelude.{◌≡◌, ◌≢◌, ◌<◌, ◌^◌, ℕ, List, [], ◌++◌, length, Option, MatchOption}
use Rattle.tt_base.specs.Forest.{Root}
use Rattle.tt_bytes.specs.Format.{mark, number_bytes, parts_bytes, symbols_bytes, piece, PieceFits}
use Rattle.tt_bytes.specs.Front.{Held}
use Rattle.tt_tables.specs.Stored.{Stored, packed}

-- the bytes after those of a value, if it fits and they begin with its bytes; otherwise none
abbrev pub IsBehind : (Fits : Type 0) → (value from : List ℕ) → Option (Bor (List ℕ)) → Type 0
IsBehind Fits value from result = MatchOption result (Fits → (rest : List ℕ) → from ≢ value ++ rest) (λ rest. Fits × (from ≡ value ++ rest.now))

-- the bytes of three counts
abbrev pub counts_bytes : (parts symbols below : ℕ) → List ℕ
counts_bytes parts symbols below = number_bytes parts ++ number_bytes symbols ++ number_bytes below

-- each of the three counts fits in four bytes
pub record CountsFit (parts symbols below : ℕ) : Type 0 where
  pub part_count : parts < 2 ^ 32
  pub symbol_count : symbols < 2 ^ 32
  pub byte_count : below < 2 ^ 32

-- the bytes of a piece before its packed bytes
abbrev pub front_bytes : Stored → List ℕ
front_bytes it = mark ++ counts_bytes (length it.parts) (length it.symbols) (length it.bytes) ++ parts_bytes it.parts ++ symbols_bytes it.symbols

-- each number of the piece fits in four bytes
abbrev pub StoredFits : Stored → Type 0
StoredFits it = PieceFits it.parts it.symbols it.bytes

-- the bytes are the piece with these parts, and the bytes after its end
pub record IsMadeOf (it : Held) (bytes : List ℕ) : Type 0 where
  pub fits : PieceFits it.parts it.symbols it.packed
  pub is : bytes ≡ piece it.parts it.symbols it.packed ++ it.behind

-- the piece holds what is stored for the tree, and no bytes follow its end
pub record IsStoredIn (root : Root) (it : Held) : Type 0 where
  pub parts : it.parts ≡ (packed root).parts
  pub symbols : it.symbols ≡ (packed root).symbols
  pub below : it.packed ≡ (packed root).bytes
  pub none : it.behind ≡ []
