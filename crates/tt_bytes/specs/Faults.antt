-- Why bytes are those of no tree, and the first byte that shows it.
use Rattle.std.specs.Prelude.{◌≡◌, ◌≢◌, ◌⊎◌, ◌+◌, ◌==◌, ℕ, suc, List, [], ◌∷◌, length, if◌then◌else◌, Ok, Err}
use Rattle.tt_base.specs.declared.token_tree.TokenTree.{TokenTree}
use Rattle.tt_base.specs.Forest.{Root, flat_root}
use Rattle.tt_bytes.specs.declared.fault.BytesFault.{BytesFault}
use Rattle.tt_bytes.specs.declared.fault.BytesFault.TheVariants.{Memory, NoTree, StoredOtherwise}
use Rattle.tt_bytes.specs.Decoding.{Stand, StopsAt}
use Rattle.tt_bytes.specs.Format.{tree_bytes, AreBytesOfNone, HasBytes}
use Rattle.tt_bytes.specs.Front.{Held, held}
use Rattle.tt_tables.specs.Searches.{first_entries}
use Rattle.tt_tables.specs.Tables.{Tables}

-- the tables by which packed bytes are read
abbrev pub tables_in : Held → Tables
tables_in it = first_entries it.parts it.symbols

-- how many first items the two lists have in common
abbrev pub common_length : (one other : List ℕ) → ℕ
common_length [] other = 0
common_length (a ∷ one) [] = 0
common_length (a ∷ one) (b ∷ other) = if a == b then suc (common_length one other) else 0

-- no tree that has bytes has these tokens
abbrev pub AreOfNone : List TokenTree → Type 0
AreOfNone tokens = (root : Root) → tokens ≡ flat_root root → HasBytes root → ⊥

-- why the bytes hold no tree: no token is at an offset before the end, or the tokens up to the end are those of no tree
abbrev pub HasNoTree : (it : Held) → (offset : ℕ) → Type 0
HasNoTree it offset =
    StopsAt (tables_in it) it.packed offset
    ⊎ ((tokens : List TokenTree) × Stand (tables_in it) it.packed tokens offset × (offset ≡ length it.packed) × AreOfNone tokens)

-- the bytes hold no tree, which the packed bytes show at an offset
pub record IsNoTree (all : ℕ) (it : Held) (at : ℕ) : Type 0 where
  pub offset : ℕ
  pub why : HasNoTree it offset
  pub place : at + (length it.packed + length it.behind) ≡ all + offset

-- the tokens are those of a tree, but its bytes differ from the given ones, first at that byte
pub record IsStoredOtherwise (bytes : List ℕ) (it : Held) (at : ℕ) : Type 0 where
  pub root : Root
  pub stand : Stand (tables_in it) it.packed (flat_root root) (length it.packed)
  pub has : HasBytes root
  pub place : at ≡ common_length bytes (tree_bytes root)
  pub other : bytes ≢ tree_bytes root

-- why the tokens of the bytes make no tree with these bytes
abbrev pub IsTreeFault : (bytes : List ℕ) → Held → BytesFault → Type 0
IsTreeFault bytes it (NoTree at) = IsNoTree (length bytes) it at
IsTreeFault bytes it (StoredOtherwise at) = IsStoredOtherwise bytes it at
IsTreeFault bytes it _ = ⊥

-- why the bytes are those of no tree: their front has a fault, or their tokens do; memory may run out for any bytes
abbrev pub IsFaultOf : List ℕ → BytesFault → Type 0
IsFaultOf bytes fault = (fault ≡ Memory) ⊎ ((held bytes ≡ Err fault) ⊎ ((it : Held) × (held bytes ≡ Ok it) × IsTreeFault bytes it fault))

-- the bytes are those of no tree for that reason, or memory ran out
abbrev pub IsRefused : List ℕ → BytesFault → Type 0
IsRefused bytes fault = IsFaultOf bytes fault × ((fault ≡ Memory) ⊎ AreBytesOfNone bytes)
