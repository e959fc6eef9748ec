-- Tokens written from the last to the first.
use Rattle.std.specs.Prelude.{◌≡◌, ℕ, ◌-◌, ◌<◌, ◌≤◌, List, [], ◌∷◌, ◌++◌, length, drop, slice_index_or}
use Rattle.std.specs.List.{AllByRecursion}
use Rattle.tt_base.specs.declared.token_tree.TokenTree.{TokenTree}
use Rattle.tt_base.specs.declared.token_tree.TokenTree.TheVariants as token
use Rattle.tt_base.specs.Fits.{TokenInRange}
use Rattle.tt_codec.specs.declared.entry.Entry.{Entry}
use Rattle.tt_tables.specs.Searches.{IsNamed}
use Rattle.tt_tables.specs.Stored.{most_bytes, bytes}
use Rattle.tt_tables.specs.Tables.{Tables}
use Rattle.tt_base.specs.Unflat.{unflat}

-- the number of bytes of the tokens of a whole list
abbrev pub byte_count : Tables → List TokenTree → ℕ
byte_count tables tokens = length (bytes tables (unflat tokens))

-- the number of bytes of the tokens below a token, if the others follow it
abbrev pub child_bytes : Tables → TokenTree → List TokenTree → ℕ
child_bytes tables (token.Leaf it) others = 0
child_bytes tables (token.Subtree it) others = byte_count tables others - byte_count tables (drop it.len others)

-- the number of bytes of the tokens below the first token
abbrev pub first_child_bytes : Tables → List TokenTree → ℕ
first_child_bytes tables [] = 0
first_child_bytes tables (it ∷ others) = child_bytes tables it others

-- the number of bytes of the last n tokens, for each n, the smallest first
abbrev pub byte_sums : Tables → List TokenTree → List ℕ
byte_sums tables [] = 0 ∷ []
byte_sums tables (it ∷ others) = byte_sums tables others ++ byte_count tables (it ∷ others) ∷ []

-- the number of bytes of the `len` tokens that were written last, by these counts
abbrev pub held_bytes : (counts : List ℕ) (len : ℕ) → ℕ
held_bytes counts len = slice_index_or counts (length counts - 1) 0 - slice_index_or counts (length counts - 1 - len) 0

-- at least `len` tokens are written
abbrev pub CanHold : (counts : List ℕ) (len : ℕ) → Type 0
CanHold counts len = (len < length counts) × (slice_index_or counts (length counts - 1 - len) 0 ≤ slice_index_or counts (length counts - 1) 0)

-- the token at an index is that entry, if all tokens below it are written
pub record IsEntryAt (tables : Tables) (tokens : List TokenTree) (index : ℕ) (entry : Entry) : Type 0 where
  pub it : TokenTree
  pub read : it ≡ slice_index_or tokens index it
  pub named : IsNamed tables it (first_child_bytes tables (drop index tokens)) entry

-- the bytes are those of the tokens, and these are the numbers of bytes of the last n tokens, for each n
pub record IsWritten (tables : Tables) (tokens : List TokenTree) (written counts : List ℕ) : Type 0 where
  pub bytes : written ≡ bytes tables (unflat tokens)
  pub sums : counts ≡ byte_sums tables tokens
  pub range : AllByRecursion TokenInRange tokens
  pub few : length written ≤ most_bytes
