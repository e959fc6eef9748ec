-- The kind that is decoded at an offset is that of the first token ahead of it.
use Rattle.std.specs.Borrow.{Bor}
use Rattle.std.proofs.Common.{◌≡◌, ℕ, List, length, drop, Option, Some, None, MatchOption, refl, ap, sym, ◌∙◌, subst}
use Rattle.std.specs.List.{slice_get}
use Rattle.tt_base.specs.declared.ident.IdentIsRaw.{IdentIsRaw}
use Rattle.tt_base.specs.declared.leaf.Leaf.{Leaf}
use Rattle.tt_base.specs.declared.leaf.Leaf.TheVariants as leaf
use Rattle.tt_base.specs.declared.literal.LitKind.{LitKind}
use Rattle.tt_base.specs.declared.punct.Spacing.{Spacing}
use Rattle.tt_base.specs.declared.token_tree.TokenTree.{TokenTree}
use Rattle.tt_base.specs.declared.token_tree.TokenTree.TheVariants as token
use Rattle.tt_base.specs.Forest.{Forest, Root, end, header, size}
use Rattle.tt_base.specs.Moves.{first_token}
use Rattle.tt_codec.specs.declared.entry.Entry.{Entry}
use Rattle.tt_codec.specs.declared.entry.Entry.TheVariants as stored
use Rattle.tt_codec.specs.declared.entry.LeafEntry.TheVariants as entry
use Rattle.tt_codec.specs.declared.span.SpanNumbers.{SpanNumbers}
use Rattle.tt_codec.specs.Entry.{entry_at}
use Rattle.tt_codec.specs.Read.{Read, IsMade}
use Rattle.tt_tables.specs.Searches.{FindsLeaf}
use Rattle.tt_tables.specs.Tables.{Tables}
use Rattle.tt_tables.proofs.Ahead.{leaf_is_ahead, node_is_ahead, none_read}
use Rattle.tt_pack.specs.KindAt.{MakesKind, IsKindAt, DecodesKindAt}
use Rattle.tt_pack.specs.ReaderOf.{ahead_of, tables_of, bytes_of, offset_of}
use Rattle.tt_pack.specs.StoredIn.{bytes_for, tables_stored}
use Rattle.tt_pack.specs.TokenAt.{IsFirst}
use Rattle.tt_pack.specs.TokenKinds.{GivesKind}
use Rattle.tt_pack.specs.declared.kind_reader.KindReader.{KindReader}
use Rattle.tt_pack.specs.declared.reader.Reader.{Reader}
use Rattle.tt_pack.specs.declared.token_kind.TokenKind.{TokenKind}
use Rattle.tt_pack.specs.declared.token_kind.TokenKind.TheVariants as kind
use Rattle.tt_pack.proofs.Decoded.{leaf_is_first, header_is_first, found_by}

-- An ident that the numbers name has the text of their symbol.
pub ident_given : (tables : Tables) (symbol : ℕ) (is_raw : IdentIsRaw) (numbers : SpanNumbers) (text : Bor (List ℕ)) (it : Leaf)
    → slice_get tables.symbols symbol ≡ Some text.now → FindsLeaf tables (entry.Ident symbol is_raw numbers) it
    → GivesKind (Some (token.Leaf it)) (Some (kind.Ident text is_raw))
ident_given tables symbol is_raw numbers text (leaf.Ident it) at found =
    let both : Some text.now ≡ Some it.sym = sym at ∙ found.1 in
    (cc both, found.2)
ident_given tables symbol is_raw numbers text (leaf.Punct it) at found = absurd found
ident_given tables symbol is_raw numbers text (leaf.Literal it) at found = absurd found

-- Numbers with no symbol name no ident.
pub no_ident : (tables : Tables) (symbol : ℕ) (is_raw : IdentIsRaw) (numbers : SpanNumbers) (it : Leaf)
    → slice_get tables.symbols symbol ≡ None → FindsLeaf tables (entry.Ident symbol is_raw numbers) it → ⊥
no_ident tables symbol is_raw numbers (leaf.Ident it) at found = let both : None ≡ Some it.sym = sym at ∙ found.1 in cc both
no_ident tables symbol is_raw numbers (leaf.Punct it) at found = found
no_ident tables symbol is_raw numbers (leaf.Literal it) at found = found

-- A punct that the numbers name has their character and spacing.
pub punct_given : (tables : Tables) (char : ℕ) (spacing : Spacing) (numbers : SpanNumbers) (it : Leaf)
    → FindsLeaf tables (entry.Punct char spacing numbers) it → GivesKind (Some (token.Leaf it)) (Some (kind.Punct char spacing))
punct_given tables char spacing numbers (leaf.Ident it) found = absurd found
punct_given tables char spacing numbers (leaf.Punct it) found = (found.1, found.2)
punct_given tables char spacing numbers (leaf.Literal it) found = absurd found

-- A literal that the numbers name has their kind.
pub literal_given : (tables : Tables) (symbol : ℕ) (sort : LitKind) (suffix_len : ℕ) (numbers : SpanNumbers) (it : Leaf)
    → FindsLeaf tables (entry.Literal symbol sort suffix_len numbers) it → GivesKind (Some (token.Leaf it)) (Some (kind.Literal sort))
literal_given tables symbol sort suffix_len numbers (leaf.Ident it) found = absurd found
literal_given tables symbol sort suffix_len numbers (leaf.Punct it) found = absurd found
literal_given tables symbol sort suffix_len numbers (leaf.Literal it) found = found.2

-- the kind that was found is that of the first token, and that many bytes are left after it
abbrev IsKindFound : Tables → (all : List ℕ) → (offset : ℕ) → Forest → (left child_bytes : ℕ) → Option TokenKind → Type 0
IsKindFound tables all offset trees left child_bytes result =
    MatchOption result (trees ≡ end) (IsKindAt tables all offset trees left child_bytes)

kind_found : (tables : Tables) (all : List ℕ) (offset : ℕ) (trees : Forest) (left child_bytes : ℕ) (it : TokenTree) (result : Option TokenKind)
    → IsFirst tables all offset trees left child_bytes it → GivesKind (Some it) result → IsKindFound tables all offset trees left child_bytes result
kind_found tables all offset trees left child_bytes it None first gives = absurd gives
kind_found tables all offset trees left child_bytes it (Some found) first gives = record { it = it; first = first; kind = gives }

-- The kind made from the numbers at an offset is that of the first token ahead of it.
pub kind_decoded_at : (old : KindReader) (offset : ℕ) (new : KindReader) (rest : List ℕ) → old.kind ≡ None → rest ≡ drop offset (bytes_for old.tree.now)
    → IsMade MakesKind old (entry_at rest) new → DecodesKindAt old offset new
kind_decoded_at old offset new rest empty here made trees ahead =
    found (entry_at (drop offset all)) refl (subst (λ bytes. IsMade MakesKind old (entry_at bytes) new) here made)
  where
    all : List ℕ
    all = bytes_for old.tree.now

    tables : Tables
    tables = tables_stored old.tree.now

    found : (read : Read Entry) → entry_at (drop offset all) ≡ read → IsMade MakesKind old read new
        → IsKindFound tables all offset trees new.left new.child_bytes new.kind
    found None e none =
        subst (IsKindFound tables all offset trees new.left new.child_bytes) (sym (ap (λ reader. reader.kind) none ∙ empty))
        (none_read tables all offset trees ahead e).0
    found (Some (stored.Leaf entry, behind)) e made =
        let l = leaf_is_ahead tables all offset trees entry behind ahead e in
        subst (λ left. IsKindFound tables all offset trees left new.child_bytes new.kind) (sym made.1)
        (subst (λ child_bytes. IsKindFound tables all offset trees (length behind) child_bytes new.kind) (sym made.2)
        (kind_found tables all offset trees (length behind) 0 (token.Leaf l.it) new.kind (leaf_is_first tables all offset trees entry behind l) (made.0 l.it l.finds)))
    found (Some (stored.Header entry, behind)) e made =
        let n = node_is_ahead tables all offset trees entry behind ahead e in
        subst (λ left. IsKindFound tables all offset trees left new.child_bytes new.kind) (sym made.1)
        (subst (λ child_bytes. IsKindFound tables all offset trees (length behind) child_bytes new.kind) (sym made.2)
        (kind_found tables all offset trees (length behind) entry.child_bytes (header n.delimiter (size n.children)) new.kind
        (header_is_first tables all offset trees entry behind n) (made.0 _ n.finds)))

-- the result is the kind of the first token ahead of a reader, or none if no token is ahead
abbrev pub IsKindAhead : Reader → Option TokenKind → (left child_bytes : ℕ) → Type 0
IsKindAhead reader result left child_bytes =
    IsKindFound (tables_of reader) (bytes_of reader) (offset_of reader) (ahead_of reader) left child_bytes result

-- The kind that is decoded at a reader's offset in its tree is that of the first token ahead of it.
pub kind_ahead : (reader : Reader) (tree : Bor Root) (old new : KindReader) → reader.tree ≡ Some tree → old.tree.now ≡ tree.now
    → DecodesKindAt old (offset_of reader) new → IsKindAhead reader new.kind new.left new.child_bytes
kind_ahead reader tree old new is same decodes =
    found_by (λ tables all. IsKindFound tables all (offset_of reader) (ahead_of reader) new.left new.child_bytes new.kind) reader tree old.tree.now is same
    (decodes (ahead_of reader))

-- A kind that was found is that of the first token.
pub kind_is_at : (reader : Reader) (result : Option TokenKind) (left child_bytes : ℕ) (found : TokenKind) → IsKindAhead reader result left child_bytes
    → result ≡ Some found → IsKindAt (tables_of reader) (bytes_of reader) (offset_of reader) (ahead_of reader) left child_bytes found
kind_is_at reader None left child_bytes found ahead is = cc is
kind_is_at reader (Some other) left child_bytes found ahead is =
    let same : other ≡ found = cc is in
    subst (IsKindAt (tables_of reader) (bytes_of reader) (offset_of reader) (ahead_of reader) left child_bytes) same ahead

-- It is what the first token gives.
pub first_gives : (tables : Tables) (all : List ℕ) (offset : ℕ) (trees : Forest) (left child_bytes : ℕ) (found : TokenKind)
    → IsKindAt tables all offset trees left child_bytes found → GivesKind (first_token trees) (Some found)
first_gives tables all offset trees left child_bytes found at =
    subst (λ first. GivesKind first (Some found)) (sym at.first.token) at.kind

-- If no kind was found, no token is ahead.
pub no_kind_ahead : (reader : Reader) (result : Option TokenKind) (left child_bytes : ℕ) → IsKindAhead reader result left child_bytes
    → result ≡ None → ahead_of reader ≡ end
no_kind_ahead reader None left child_bytes found none = found
no_kind_ahead reader (Some it) left child_bytes found none = cc none
