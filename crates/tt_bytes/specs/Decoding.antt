-- The tokens of packed bytes, which need not be those of a tree.
use Rattle.std.specs.Prelude.{◌≡◌, ◌+◌, ◌<◌, ℕ, List, [], ◌∷◌, ◌++◌, drop, length, Option, Some}
use Rattle.tt_base.specs.declared.token_tree.TokenTree.{TokenTree}
use Rattle.tt_base.specs.Fits.{TokenInRange}
use Rattle.tt_bytes.specs.declared.fault.BytesFault.{BytesFault}
use Rattle.tt_bytes.specs.declared.fault.BytesFault.TheVariants.{Memory, NoTree}
use Rattle.tt_codec.specs.declared.entry.Entry.{Entry}
use Rattle.tt_codec.specs.declared.entry.Entry.TheVariants.{Leaf as of_leaf, Header as of_header}
use Rattle.tt_codec.specs.Entry.{entry_at}
use Rattle.tt_tables.specs.Searches.{IsLeaf, IsSubtree, GivesLeaf, GivesSubtree}
use Rattle.tt_tables.specs.Tables.{Tables}

-- the numbers name the token
abbrev pub Names : Tables → Entry → TokenTree → Type 0
Names tables (of_leaf entry) it = IsLeaf tables entry it
Names tables (of_header entry) it = IsSubtree tables entry it

-- the result is the token in range that the numbers name, if they name one
abbrev pub GivesToken : Tables → Entry → Option TokenTree → Type 0
GivesToken tables (of_leaf entry) result = GivesLeaf tables entry result
GivesToken tables (of_header entry) result = GivesSubtree tables entry result

-- the numbers of the token begin at an offset, are in range, and end at the offset of the next token
pub record Stands (tables : Tables) (packed : List ℕ) (offset : ℕ) (it : TokenTree) (next : ℕ) : Type 0 where
  pub entry : Entry
  pub rest : List ℕ
  pub read : entry_at (drop offset packed) ≡ Some (entry, rest)
  pub named : Names tables entry it
  pub range : TokenInRange it
  pub ends : next + length rest ≡ length packed
  pub some : offset < next

-- these tokens follow one another from the first byte up to an offset
pub data Stand (tables : Tables) (packed : List ℕ) : List TokenTree → (offset : ℕ) → Type 0 where
  none : Stand tables packed [] 0
  more : {tokens : List TokenTree} {offset next : ℕ} {it : TokenTree}
      → Stand tables packed tokens offset → Stands tables packed offset it next → Stand tables packed (tokens ++ it ∷ []) next

-- no token is at an offset
abbrev pub StandsNone : Tables → (packed : List ℕ) → (offset : ℕ) → Type 0
StandsNone tables packed offset = (it : TokenTree) (next : ℕ) → Stands tables packed offset it next → ⊥

-- tokens follow one another up to an offset before the end, and no token is at that offset
pub record StopsAt (tables : Tables) (packed : List ℕ) (offset : ℕ) : Type 0 where
  pub tokens : List TokenTree
  pub stand : Stand tables packed tokens offset
  pub inside : offset < length packed
  pub none : StandsNone tables packed offset

-- why not all packed bytes are read: no token is at that byte of the piece, which has `before` bytes before them; or memory runs out
abbrev pub IsStop : Tables → (packed : List ℕ) → (before : ℕ) → BytesFault → Type 0
IsStop tables packed before (NoTree at) = (offset : ℕ) × (at ≡ before + offset) × StopsAt tables packed offset
IsStop tables packed before fault = fault ≡ Memory
