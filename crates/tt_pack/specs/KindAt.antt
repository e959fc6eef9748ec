-- The kind of the token at an offset of a stored tree.
use Rattle.std.specs.Prelude.{◌≡◌, ℕ, List, length, Some, MatchOption}
use Rattle.tt_base.specs.declared.delimiter.Subtree.{Subtree}
use Rattle.tt_base.specs.declared.leaf.Leaf.{Leaf}
use Rattle.tt_base.specs.declared.token_tree.TokenTree.{TokenTree}
use Rattle.tt_base.specs.declared.token_tree.TokenTree.TheVariants as token
use Rattle.tt_base.specs.Forest.{Forest, end}
use Rattle.tt_codec.specs.declared.entry.Entry.{Entry}
use Rattle.tt_codec.specs.declared.entry.Entry.TheVariants as stored
use Rattle.tt_tables.specs.Meaning.{IsAhead}
use Rattle.tt_tables.specs.Searches.{FindsLeaf, FindsSubtree}
use Rattle.tt_tables.specs.Tables.{Tables}
use Rattle.tt_pack.specs.StoredIn.{bytes_for, tables_stored}
use Rattle.tt_pack.specs.TokenAt.{IsFirst}
use Rattle.tt_pack.specs.TokenKinds.{IsKindOf, GivesKind}
use Rattle.tt_pack.specs.declared.kind_reader.KindReader.{KindReader}
use Rattle.tt_pack.specs.declared.token_kind.TokenKind.{TokenKind}

-- the kind of the token that the numbers name by the tree's tables, the number of bytes after it, and the number of bytes of the tokens
-- below it
abbrev pub MakesKind : KindReader → Entry → List ℕ → KindReader → Type 0
MakesKind old (stored.Leaf entry) rest new =
    ((it : Leaf) → FindsLeaf (tables_stored old.tree.now) entry it → GivesKind (Some (token.Leaf it)) new.kind)
    × (new.left ≡ length rest) × (new.child_bytes ≡ 0)
MakesKind old (stored.Header entry) rest new =
    ((it : Subtree) → FindsSubtree (tables_stored old.tree.now) entry it → GivesKind (Some (token.Subtree it)) new.kind)
    × (new.left ≡ length rest) × (new.child_bytes ≡ entry.child_bytes)

-- the kind of the first token of these trees, with the same numbers as for the token
pub record IsKindAt (tables : Tables) (all : List ℕ) (offset : ℕ) (trees : Forest) (left child_bytes : ℕ) (found : TokenKind) : Type 0 where
  pub it : TokenTree
  pub first : IsFirst tables all offset trees left child_bytes it
  pub kind : IsKindOf it found

-- that kind, or none if no token is ahead
abbrev pub DecodesKindAt : KindReader → (offset : ℕ) → KindReader → Type 0
DecodesKindAt old offset new =
    (trees : Forest) → IsAhead (tables_stored old.tree.now) (bytes_for old.tree.now) offset trees
    → MatchOption new.kind (trees ≡ end)
    (IsKindAt (tables_stored old.tree.now) (bytes_for old.tree.now) offset trees new.left new.child_bytes)
