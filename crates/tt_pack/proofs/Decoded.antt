-- The token that is decoded at an offset is the first one ahead of it.
use Rattle.std.specs.Borrow.{Bor}
use Rattle.std.proofs.Common.{◌≡◌, ℕ, ◌+◌, ◌-◌, List, length, drop, Option, Some, None, MatchOption, refl, ap, sym, ◌∙◌, subst, arith}
use Rattle.tt_base.specs.declared.token_tree.TokenTree.{TokenTree}
use Rattle.tt_base.specs.declared.token_tree.TokenTree.TheVariants as token
use Rattle.tt_base.specs.Forest.{Forest, Root, end, header, size}
use Rattle.tt_base.specs.Moves.{first_token, after_token, after_tree}
use Rattle.tt_codec.specs.declared.entry.Entry.{Entry}
use Rattle.tt_codec.specs.declared.entry.Entry.TheVariants as stored
use Rattle.tt_codec.specs.declared.entry.HeaderEntry.{HeaderEntry}
use Rattle.tt_codec.specs.declared.entry.LeafEntry.{LeafEntry}
use Rattle.tt_codec.specs.Entry.{entry_at}
use Rattle.tt_codec.specs.Read.{Read, IsMade}
use Rattle.tt_tables.specs.Searches.{GivesLeaf, GivesSubtree}
use Rattle.tt_tables.specs.Meaning.{IsAhead}
use Rattle.tt_tables.specs.NextToken.{LeafAhead, NodeAhead}
use Rattle.tt_tables.specs.Tables.{Tables}
use Rattle.tt_tables.proofs.Ahead.{leaf_is_ahead, node_is_ahead, none_read, none_ahead}
use Rattle.tt_pack.specs.StoredIn.{bytes_for, tables_stored, bytes_in, tables_in}
use Rattle.tt_pack.specs.ReaderOf.{ahead_of, tables_of, bytes_of, offset_of}
use Rattle.tt_pack.specs.declared.reader.Reader.{Reader}
use Rattle.tt_pack.specs.TokenAt.{MakesToken, IsFirst, DecodesAt}
use Rattle.tt_pack.specs.declared.token_reader.TokenReader.{TokenReader}
use Rattle.tt_pack.proofs.Moves.{leaf_in_range_ahead, node_in_range_ahead}

-- the token that was found is the first one, and that many bytes are left after it
abbrev IsFound : Tables → (all : List ℕ) → (offset : ℕ) → Forest → (left child_bytes : ℕ) → Option TokenTree → Type 0
IsFound tables all offset trees left child_bytes result =
    MatchOption result (trees ≡ end) (IsFirst tables all offset trees left child_bytes)

module _ (tables : Tables) (all : List ℕ) (offset : ℕ) (trees : Forest) where
  -- A leaf that is ahead is the first token.
  pub leaf_is_first : (entry : LeafEntry) (rest : List ℕ) (l : LeafAhead tables all offset trees entry rest)
      → IsFirst tables all offset trees (length rest) 0 (token.Leaf l.it)
  leaf_is_first entry rest l =
      record {
        token = ap first_token l.is;
        passed = l.passed;
        inside = subst (IsAhead tables all (length all - length rest)) (sym (ap after_token l.is)) (l.after _ (omega (arith, l.passed)));
        after = subst (IsAhead tables all (length all - length rest + 0)) (sym (ap after_tree l.is)) (l.after _ (omega (arith, l.passed)));
      }

  -- The header of a node that is ahead is the first token.
  pub header_is_first : (entry : HeaderEntry) (rest : List ℕ) (n : NodeAhead tables all offset trees entry rest)
      → IsFirst tables all offset trees (length rest) entry.child_bytes (header n.delimiter (size n.children))
  header_is_first entry rest n =
      record {
        token = ap first_token n.is;
        passed = n.passed;
        inside = subst (IsAhead tables all (length all - length rest)) (sym (ap after_token n.is)) (n.inside _ (omega (arith, n.passed)));
        after =
            subst (IsAhead tables all (length all - length rest + entry.child_bytes)) (sym (ap after_tree n.is))
            (n.after _ (omega (arith, n.passed)));
      }

module _ (tables : Tables) (all : List ℕ) (offset : ℕ) (trees : Forest) (ahead : IsAhead tables all offset trees) where
  leaf_first : (entry : LeafEntry) (rest : List ℕ) (result : Option TokenTree) → LeafAhead tables all offset trees entry rest
      → GivesLeaf tables entry result → IsFound tables all offset trees (length rest) 0 result
  leaf_first entry rest result l gives =
      let range = (leaf_in_range_ahead tables all offset l.it l.behind (subst (IsAhead tables all offset) l.is ahead)).0 in
      subst (IsFound tables all offset trees (length rest) 0) (sym (gives l.it l.finds range)) (leaf_is_first tables all offset trees entry rest l)

  header_first : (entry : HeaderEntry) (rest : List ℕ) (result : Option TokenTree) → NodeAhead tables all offset trees entry rest
      → GivesSubtree tables entry result → IsFound tables all offset trees (length rest) entry.child_bytes result
  header_first entry rest result n gives =
      let range = (node_in_range_ahead tables all offset n.delimiter n.children n.behind (subst (IsAhead tables all offset) n.is ahead)).0 in
      subst (IsFound tables all offset trees (length rest) entry.child_bytes) (sym (gives _ n.finds range))
      (header_is_first tables all offset trees entry rest n)

-- The token made from the numbers at an offset is the first one ahead of it.
pub decoded_at : (old : TokenReader) (offset : ℕ) (new : TokenReader) (rest : List ℕ) → old.token ≡ None → rest ≡ drop offset (bytes_for old.tree.now)
    → IsMade MakesToken old (entry_at rest) new → DecodesAt old offset new
decoded_at old offset new rest empty here made trees ahead =
    found (entry_at (drop offset all)) refl (subst (λ bytes. IsMade MakesToken old (entry_at bytes) new) here made)
  where
    all : List ℕ
    all = bytes_for old.tree.now

    tables : Tables
    tables = tables_stored old.tree.now

    found : (read : Read Entry) → entry_at (drop offset all) ≡ read → IsMade MakesToken old read new
        → IsFound tables all offset trees new.left new.child_bytes new.token
    found None e none =
        subst (IsFound tables all offset trees new.left new.child_bytes) (sym (ap (λ reader. reader.token) none ∙ empty))
        (none_read tables all offset trees ahead e).0
    found (Some (stored.Leaf entry, behind)) e token =
        subst (λ left. IsFound tables all offset trees left new.child_bytes new.token) (sym token.1)
        (subst (λ child_bytes. IsFound tables all offset trees (length behind) child_bytes new.token) (sym token.2)
        (leaf_first tables all offset trees ahead entry behind new.token (leaf_is_ahead tables all offset trees entry behind ahead e) (token.0 empty)))
    found (Some (stored.Header entry, behind)) e token =
        subst (λ left. IsFound tables all offset trees left new.child_bytes new.token) (sym token.1)
        (subst (λ child_bytes. IsFound tables all offset trees (length behind) child_bytes new.token) (sym token.2)
        (header_first tables all offset trees ahead entry behind new.token (node_is_ahead tables all offset trees entry behind ahead e) (token.0 empty)))

-- the result is the first token ahead of a reader, or none if no token is ahead
abbrev pub IsFirstOf : Reader → Option TokenTree → (left child_bytes : ℕ) → Type 0
IsFirstOf reader result left child_bytes =
    IsFound (tables_of reader) (bytes_of reader) (offset_of reader) (ahead_of reader) left child_bytes result

-- What is found at a reader's offset by the tables and the bytes of its tree is found by those of the reader.
pub found_by : (Found : Tables → List ℕ → Type 0) (reader : Reader) (tree : Bor Root) (root : Root) → reader.tree ≡ Some tree → root ≡ tree.now
    → (IsAhead (tables_stored root) (bytes_for root) (offset_of reader) (ahead_of reader) → Found (tables_stored root) (bytes_for root))
    → Found (tables_of reader) (bytes_of reader)
found_by Found reader tree root is same finds =
    subst (λ tables. Finds tables (bytes_of reader)) (sym same_tables)
    (subst (λ all. Finds (tables_stored root) all) (sym same_bytes) finds)
    reader.ahead.1
  where
    Finds : Tables → List ℕ → Type 0
    Finds tables all = IsAhead tables all (offset_of reader) (ahead_of reader) → Found tables all

    same_tables : tables_of reader ≡ tables_stored root
    same_tables = ap tables_in is ∙ ap tables_stored (sym same)

    same_bytes : bytes_of reader ≡ bytes_for root
    same_bytes = ap bytes_in is ∙ ap bytes_for (sym same)

-- The token that is decoded at a reader's offset in its tree is the first one ahead of it.
pub decoded_ahead : (reader : Reader) (tree : Bor Root) (old new : TokenReader) → reader.tree ≡ Some tree → old.tree.now ≡ tree.now
    → DecodesAt old (offset_of reader) new → IsFirstOf reader new.token new.left new.child_bytes
decoded_ahead reader tree old new is same decodes =
    found_by (λ tables all. IsFound tables all (offset_of reader) (ahead_of reader) new.left new.child_bytes new.token) reader tree old.tree.now is same
    (decodes (ahead_of reader))

-- A token that was found is the first one.
pub some_is_first : (reader : Reader) (result : Option TokenTree) (left child_bytes : ℕ) → IsFirstOf reader result left child_bytes
    → (result ≡ None → ⊥)
    → (it : TokenTree) × (result ≡ Some it) × IsFirst (tables_of reader) (bytes_of reader) (offset_of reader) (ahead_of reader) left child_bytes it
some_is_first reader None left child_bytes found some = absurd (some refl)
some_is_first reader (Some it) left child_bytes found some = (it, refl, found)

-- If no token was found, none is ahead.
pub none_is_ahead : (reader : Reader) (result : Option TokenTree) (left child_bytes : ℕ) → IsFirstOf reader result left child_bytes
    → result ≡ None → ahead_of reader ≡ end
none_is_ahead reader None left child_bytes found none = found
none_is_ahead reader (Some it) left child_bytes found none = cc none

-- If there is no tree, no token is ahead.
pub no_tree : (reader : Reader) → reader.tree ≡ None → ahead_of reader ≡ end
no_tree reader none =
    none_ahead (tables_of reader) (bytes_of reader) (offset_of reader) (ahead_of reader) reader.ahead.1 (omega (arith, ap (λ tree. length (bytes_in tree)) none))
