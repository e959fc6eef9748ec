-- The token at an offset of a stored tree.
use Rattle.std.specs.Prelude.{◌≡◌, ℕ, ◌+◌, ◌-◌, ◌<◌, List, length, Some, None, MatchOption}
use Rattle.tt_base.specs.declared.token_tree.TokenTree.{TokenTree}
use Rattle.tt_base.specs.Forest.{Forest, end}
use Rattle.tt_base.specs.Moves.{first_token, after_token, after_tree}
use Rattle.tt_codec.specs.declared.entry.Entry.{Entry}
use Rattle.tt_codec.specs.declared.entry.Entry.TheVariants as stored
use Rattle.tt_tables.specs.Searches.{GivesLeaf, GivesSubtree}
use Rattle.tt_tables.specs.Meaning.{IsAhead}
use Rattle.tt_tables.specs.Tables.{Tables}
use Rattle.tt_pack.specs.StoredIn.{bytes_for, tables_stored}
use Rattle.tt_pack.specs.declared.token_reader.TokenReader.{TokenReader}

-- the first token by the tree's tables, the number of bytes after it, and the number of bytes of the tokens below it
abbrev pub MakesToken : TokenReader → Entry → List ℕ → TokenReader → Type 0
MakesToken old (stored.Leaf entry) rest new =
    (old.token ≡ None → GivesLeaf (tables_stored old.tree.now) entry new.token) × (new.left ≡ length rest) × (new.child_bytes ≡ 0)
MakesToken old (stored.Header entry) rest new =
    (old.token ≡ None → GivesSubtree (tables_stored old.tree.now) entry new.token) × (new.left ≡ length rest) × (new.child_bytes ≡ entry.child_bytes)

-- the first token of these trees; the tokens after it are ahead when `left` bytes are left, and those after its tree `child_bytes` bytes
-- later
pub record IsFirst (tables : Tables) (all : List ℕ) (offset : ℕ) (trees : Forest) (left child_bytes : ℕ) (it : TokenTree) : Type 0 where
  pub token : first_token trees ≡ Some it
  pub passed : offset + left < length all
  pub inside : IsAhead tables all (length all - left) (after_token trees)
  pub after : IsAhead tables all (length all - left + child_bytes) (after_tree trees)

-- that token, or none if no token is ahead
abbrev pub DecodesAt : TokenReader → (offset : ℕ) → TokenReader → Type 0
DecodesAt old offset new =
    (trees : Forest) → IsAhead (tables_stored old.tree.now) (bytes_for old.tree.now) offset trees
    → MatchOption new.token (trees ≡ end)
    (IsFirst (tables_stored old.tree.now) (bytes_for old.tree.now) offset trees new.left new.child_bytes)
