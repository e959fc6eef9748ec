-- Searches in given tables: the index of a part or of a symbol, the numbers of a token, and the token that numbers name.
use Rattle.tt_tables.specs.Tables.{Tables, tables_from, numbers_of_span, index_of_symbol, Knows, leaf_entry, header_entry, entry_of}
use Rattle.std.specs.Prelude.{◌≡◌, ℕ, ◌<◌, Bool, List, length, take, ◌^◌, Option, MatchOption, bytes_eq, ◌-◌, Some, slice_get}
use Rattle.tt_base.specs.declared.span.Span.{Span}
use Rattle.tt_base.specs.declared.span.SpanPart.{SpanPart}
use Rattle.tt_base.specs.Fits.{SpanInRange, LeafInRange, TokenInRange}
use Rattle.tt_base.specs.Span.{part_of, start_of, end_of}
use Rattle.tt_codec.specs.SpanNumbers.{SpanFits}
use Rattle.tt_tables.specs.TableOrder.{index_in, IsIn}
use Rattle.tt_tables.specs.Uses.{same_part}
use Rattle.tt_codec.specs.declared.span.SpanNumbers.{SpanNumbers}
use Rattle.tt_base.specs.declared.leaf.Leaf.{Leaf}
use Rattle.tt_base.specs.declared.delimiter.Subtree.{Subtree}
use Rattle.tt_base.specs.declared.token_tree.TokenTree.{TokenTree}
use Rattle.tt_codec.specs.Entry.{EntryFits}
use Rattle.tt_codec.specs.Header.{HeaderFits}
use Rattle.tt_codec.specs.Leaf.{LeafEntryFits}
use Rattle.tt_codec.specs.declared.entry.Entry.{Entry}
use Rattle.tt_codec.specs.declared.entry.HeaderEntry.{HeaderEntry}
use Rattle.tt_codec.specs.declared.entry.LeafEntry.{LeafEntry}
use Rattle.tt_base.specs.Literal.{symbol_of, span_of, kind_of, suffix_len_of}
use Rattle.tt_codec.specs.declared.entry.LeafEntry.TheVariants.{Punct as punct, Ident as ident, Literal as literal}
use Rattle.tt_base.specs.declared.token_tree.TokenTree.TheVariants as token
use Rattle.tt_base.specs.declared.leaf.Leaf.TheVariants as leaf

-- the index of the first that passes the test, or none if none does
abbrev pub IsIndex : {X : Type 0} → (X → Bool) → List X → Option ℕ → Type 0
IsIndex test xs found =
    MatchOption found (index_in test xs < length xs → ⊥) (λ index. (index ≡ index_in test xs) × (index < length xs))

-- the numbers of a span whose part is in the tables
pub record IsNumbered (tables : Tables) (span : Span) (numbers : SpanNumbers) : Type 0 where
  pub known : IsIn same_part tables.parts (part_of span)
  pub is : numbers ≡ numbers_of_span tables span
  pub fits : SpanFits numbers
  pub range : SpanInRange span

-- these numbers, or none if the part is not in the tables
abbrev pub NumbersSpan : Tables → Span → Option SpanNumbers → Type 0
NumbersSpan tables span found = MatchOption found (IsIn same_part tables.parts (part_of span) → ⊥) (IsNumbered tables span)

-- the index of a symbol, or none if it is not in the tables
abbrev pub IndexesSymbol : Tables → List ℕ → Option ℕ → Type 0
IndexesSymbol tables text found =
    MatchOption found (IsIn bytes_eq tables.symbols text → ⊥)
    (λ index. IsIn bytes_eq tables.symbols text × (index ≡ index_of_symbol tables text) × (index < 2 ^ 29))

-- the tables with as many entries as an index can name
abbrev pub first_entries : List SpanPart → List (List ℕ) → Tables
first_entries parts symbols = tables_from (take (2 ^ 28) parts) (take (2 ^ 29) symbols)

-- the numbers of a leaf whose values are in the tables
pub record IsNamedLeaf (tables : Tables) (leaf : Leaf) (entry : LeafEntry) : Type 0 where
  pub known : Knows tables (token.Leaf leaf)
  pub is : entry ≡ leaf_entry tables leaf
  pub fits : LeafEntryFits entry
  pub range : LeafInRange leaf

-- the numbers of a leaf, or none if a value of it is not in the tables
abbrev pub NamesLeaf : Tables → Leaf → Option LeafEntry → Type 0
NamesLeaf tables leaf found = MatchOption found (Knows tables (token.Leaf leaf) → ⊥) (IsNamedLeaf tables leaf)

-- the numbers of a header whose parts are in the tables; the tokens below it take `child_bytes` bytes
pub record IsNamedHeader (tables : Tables) (subtree : Subtree) (child_bytes : ℕ) (entry : HeaderEntry) : Type 0 where
  pub known : Knows tables (token.Subtree subtree)
  pub is : entry ≡ header_entry tables subtree child_bytes
  pub fits : HeaderFits entry
  pub range : TokenInRange (token.Subtree subtree)

-- the numbers of a header, or none if a part of it is not in the tables
abbrev pub NamesHeader : Tables → Subtree → ℕ → Option HeaderEntry → Type 0
NamesHeader tables subtree child_bytes found =
    MatchOption found (Knows tables (token.Subtree subtree) → ⊥) (IsNamedHeader tables subtree child_bytes)

-- the numbers of a token whose values are in the tables
pub record IsNamed (tables : Tables) (it : TokenTree) (child_bytes : ℕ) (entry : Entry) : Type 0 where
  pub known : Knows tables it
  pub is : entry ≡ entry_of tables it child_bytes
  pub fits : EntryFits entry
  pub range : TokenInRange it

-- the numbers of a token, or none if a value of it is not in the tables
abbrev pub NamesToken : Tables → TokenTree → ℕ → Option Entry → Type 0
NamesToken tables it child_bytes found = MatchOption found (Knows tables it → ⊥) (IsNamed tables it child_bytes)

-- the numbers name the span: its part is at the index, and it has that start and that length
pub record FindsSpan (tables : Tables) (numbers : SpanNumbers) (span : Span) : Type 0 where
  pub part : slice_get tables.parts numbers.part ≡ Some (part_of span)
  pub start : numbers.start ≡ start_of span.range
  pub length : numbers.length ≡ end_of span.range - start_of span.range

-- the numbers name the leaf: its span, its symbol and the rest of it
abbrev pub FindsLeaf : Tables → LeafEntry → Leaf → Type 0
FindsLeaf tables (punct char spacing numbers) (leaf.Punct it) = FindsSpan tables numbers it.span × (char ≡ it.char) × (spacing ≡ it.spacing)
FindsLeaf tables (ident symbol raw numbers) (leaf.Ident it) =
    FindsSpan tables numbers it.span × (slice_get tables.symbols symbol ≡ Some it.sym) × (raw ≡ it.is_raw)
FindsLeaf tables (literal symbol kind suffix_len numbers) (leaf.Literal it) =
    FindsSpan tables numbers (span_of it) × (slice_get tables.symbols symbol ≡ Some (symbol_of it)) × (kind ≡ kind_of it) × (suffix_len ≡ suffix_len_of it)
FindsLeaf tables entry it = ⊥

-- the numbers name the header
pub record FindsSubtree (tables : Tables) (entry : HeaderEntry) (it : Subtree) : Type 0 where
  pub opening : FindsSpan tables entry.opening it.delimiter.open_span
  pub closing : FindsSpan tables entry.closing it.delimiter.close
  pub kind : entry.kind ≡ it.delimiter.kind
  pub len : entry.len ≡ it.len

-- the result is the span in range that the numbers name, if they name one
abbrev pub GivesSpan : Tables → SpanNumbers → Option Span → Type 0
GivesSpan tables numbers result = (span : Span) → FindsSpan tables numbers span → SpanInRange span → result ≡ Some span

-- a leaf that the numbers name
abbrev pub IsLeaf : Tables → LeafEntry → TokenTree → Type 0
IsLeaf tables entry (token.Leaf it) = FindsLeaf tables entry it
IsLeaf tables entry (token.Subtree it) = ⊥

-- a header that the numbers name
abbrev pub IsSubtree : Tables → HeaderEntry → TokenTree → Type 0
IsSubtree tables entry (token.Leaf it) = ⊥
IsSubtree tables entry (token.Subtree it) = FindsSubtree tables entry it

-- the result is the leaf in range that the numbers name, if they name one
abbrev pub GivesLeaf : Tables → LeafEntry → Option TokenTree → Type 0
GivesLeaf tables entry result = (it : Leaf) → FindsLeaf tables entry it → LeafInRange it → result ≡ Some (token.Leaf it)

-- the result is the header in range that the numbers name, if they name one
abbrev pub GivesSubtree : Tables → HeaderEntry → Option TokenTree → Type 0
GivesSubtree tables entry result =
    (it : Subtree) → FindsSubtree tables entry it → TokenInRange (token.Subtree it) → result ≡ Some (token.Subtree it)
