-- The token that is read at an offset, and the trees ahead of the offset.
use Rattle.std.specs.Prelude.{◌≡◌, ℕ, ◌+◌, ◌<◌, ◌≤◌, List, length, Some, None}
use Rattle.tt_base.specs.declared.delimiter.Delimiter.{Delimiter}
use Rattle.tt_base.specs.declared.leaf.Leaf.{Leaf}
use Rattle.tt_tables.specs.Searches.{FindsLeaf, FindsSubtree}
use Rattle.tt_codec.specs.declared.entry.Entry.{Entry}
use Rattle.tt_codec.specs.declared.entry.Entry.TheVariants.{Leaf as of_leaf, Header as of_header}
use Rattle.tt_base.specs.Forest.{Forest, end, leaf, node, size, join}
use Rattle.tt_codec.specs.declared.entry.HeaderEntry.{HeaderEntry}
use Rattle.tt_codec.specs.declared.entry.LeafEntry.{LeafEntry}
use Rattle.tt_tables.specs.Meaning.{IsAhead}
use Rattle.tt_codec.specs.Read.{Read}
use Rattle.tt_tables.specs.Tables.{Tables}

-- a leaf is ahead, and the bytes `rest` follow it
pub record LeafAhead (tables : Tables) (all : List ℕ) (offset : ℕ) (trees : Forest) (entry : LeafEntry) (rest : List ℕ) : Type 0 where
  pub it : Leaf
  pub behind : Forest
  pub is : trees ≡ leaf it behind
  pub finds : FindsLeaf tables entry it
  pub passed : offset + length rest < length all
  pub after : (next : ℕ) → next + length rest ≡ length all → IsAhead tables all next behind

-- a node is ahead, and the bytes `rest` follow its header, its children's first
pub record NodeAhead (tables : Tables) (all : List ℕ) (offset : ℕ) (trees : Forest) (entry : HeaderEntry) (rest : List ℕ) : Type 0 where
  pub delimiter : Delimiter
  pub children : Forest
  pub behind : Forest
  pub is : trees ≡ node delimiter children behind
  pub finds : FindsSubtree tables entry (record { delimiter = delimiter; len = size children })
  pub passed : offset + length rest < length all
  pub room : entry.child_bytes ≤ length rest
  pub inside : (next : ℕ) → next + length rest ≡ length all → IsAhead tables all next (join children behind)
  pub after : (next : ℕ) → next + length rest ≡ length all + entry.child_bytes → IsAhead tables all next behind

-- no token is read if no tree is ahead; otherwise the first one is
abbrev pub TokenAhead : Tables → (all : List ℕ) → (offset : ℕ) → Forest → Read Entry → Type 0
TokenAhead tables all offset trees None = (trees ≡ end) × (length all ≤ offset)
TokenAhead tables all offset trees (Some (of_leaf entry, rest)) = LeafAhead tables all offset trees entry rest
TokenAhead tables all offset trees (Some (of_header entry, rest)) = NodeAhead tables all offset trees entry rest
