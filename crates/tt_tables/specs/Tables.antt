-- The two tables of a flat list, and tokens in numbers under given tables.
use Rattle.std.specs.Prelude.{ℕ, ◌-◌, bytes_eq, List}
use Rattle.std.specs.List.{AllByRecursion}
use Rattle.tt_base.specs.declared.delimiter.Subtree.{Subtree}
use Rattle.tt_base.specs.declared.leaf.Leaf.{Leaf}
use Rattle.tt_base.specs.declared.leaf.Leaf.TheVariants as leaf
use Rattle.tt_base.specs.declared.span.Span.{Span}
use Rattle.tt_base.specs.declared.span.SpanPart.{SpanPart}
use Rattle.tt_base.specs.declared.token_tree.TokenTree.{TokenTree}
use Rattle.tt_base.specs.declared.token_tree.TokenTree.TheVariants as token
use Rattle.tt_codec.specs.declared.entry.Entry.{Entry}
use Rattle.tt_codec.specs.declared.entry.Entry.TheVariants.{Leaf as of_leaf, Header as of_header}
use Rattle.tt_codec.specs.Entry.{entry_bytes}
use Rattle.tt_codec.specs.declared.entry.HeaderEntry.{HeaderEntry}
use Rattle.tt_codec.specs.declared.entry.LeafEntry.{LeafEntry}
use Rattle.tt_codec.specs.declared.entry.LeafEntry.TheVariants.{Punct as punct, Ident as ident, Literal as literal}
use Rattle.tt_base.specs.Literal.{symbol_of, span_of, kind_of, suffix_len_of}
use Rattle.tt_base.specs.Span.{start_of, end_of, part_of}
use Rattle.tt_codec.specs.declared.span.SpanNumbers.{SpanNumbers}
use Rattle.tt_tables.specs.TableOrder.{index_in, table, IsIn}
use Rattle.tt_tables.specs.Uses.{same_part, token_parts, token_symbols, part_uses, symbol_uses}

-- the largest number of parts that are ordered by first use: an index of them has four bits
abbrev pub short_parts : ℕ
short_parts = 15

-- the largest number of symbols that are ordered by first use: a reference to one of them takes one byte
abbrev pub short_symbols : ℕ
short_symbols = 63

-- the table of the parts that tokens use
abbrev pub part_table : List TokenTree → List SpanPart
part_table tokens = table same_part short_parts (part_uses tokens)

-- the table of the symbols that tokens use
abbrev pub symbol_table : List TokenTree → List (List ℕ)
symbol_table tokens = table bytes_eq short_symbols (symbol_uses tokens)

-- the parts and the symbols that the indices of tokens name
pub record Tables : Type 0 where
  pub parts : List SpanPart
  pub symbols : List (List ℕ)

-- the tables with these entries
abbrev pub tables_from : List SpanPart → List (List ℕ) → Tables
tables_from parts symbols = record { parts = parts; symbols = symbols }

-- the two tables of tokens
abbrev pub tables_for : List TokenTree → Tables
tables_for tokens = tables_from (part_table tokens) (symbol_table tokens)

-- the numbers of a span: the index of the first entry with its part, its start, and its length
abbrev pub numbers_of_span : Tables → Span → SpanNumbers
numbers_of_span tables span =
    record {
      part = index_in (same_part (part_of span)) tables.parts;
      start = start_of span.range;
      length = end_of span.range - start_of span.range;
    }

-- the index of the first entry with that text
abbrev pub index_of_symbol : Tables → List ℕ → ℕ
index_of_symbol tables text = index_in (bytes_eq text) tables.symbols

-- a leaf in numbers
abbrev pub leaf_entry : Tables → Leaf → LeafEntry
leaf_entry tables (leaf.Literal it) =
    literal (index_of_symbol tables (symbol_of it)) (kind_of it) (suffix_len_of it) (numbers_of_span tables (span_of it))
leaf_entry tables (leaf.Punct it) = punct it.char it.spacing (numbers_of_span tables it.span)
leaf_entry tables (leaf.Ident it) = ident (index_of_symbol tables it.sym) it.is_raw (numbers_of_span tables it.span)

-- a header in numbers; the tokens below it take `child_bytes` bytes
abbrev pub header_entry : Tables → Subtree → (child_bytes : ℕ) → HeaderEntry
header_entry tables it child_bytes =
    record {
      opening = numbers_of_span tables it.delimiter.open_span;
      closing = numbers_of_span tables it.delimiter.close;
      kind = it.delimiter.kind;
      len = it.len;
      child_bytes = child_bytes;
    }

-- a token in numbers
abbrev pub entry_of : Tables → TokenTree → (child_bytes : ℕ) → Entry
entry_of tables (token.Leaf it) child_bytes = of_leaf (leaf_entry tables it)
entry_of tables (token.Subtree it) child_bytes = of_header (header_entry tables it child_bytes)

-- the bytes of a token below the top
abbrev pub token_bytes : Tables → TokenTree → (child_bytes : ℕ) → List ℕ
token_bytes tables it child_bytes = entry_bytes (entry_of tables it child_bytes)

-- the tables have each part and each symbol that the token uses
pub record Knows (tables : Tables) (it : TokenTree) : Type 0 where
  pub parts : AllByRecursion (IsIn same_part tables.parts) (token_parts it)
  pub symbols : AllByRecursion (IsIn bytes_eq tables.symbols) (token_symbols it)
