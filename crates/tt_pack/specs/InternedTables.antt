-- The tables of interned tokens: the new index of each value, and a token with the new indices.
use Rattle.std.specs.Prelude.{ℕ, List, bytes_eq}
use Rattle.tt_codec.specs.declared.entry.HeaderEntry.{HeaderEntry}
use Rattle.tt_codec.specs.declared.entry.LeafEntry.{LeafEntry}
use Rattle.tt_codec.specs.declared.entry.LeafEntry.TheVariants.{Punct as punct, Ident as ident, Literal as literal}
use Rattle.tt_codec.specs.declared.span.SpanNumbers.{SpanNumbers}
use Rattle.tt_base.specs.declared.token_tree.TokenTree.{TokenTree}
use Rattle.tt_tables.specs.ListOf.{list_of, parts_of, symbols_of}
use Rattle.tt_tables.specs.Tables.{Tables, tables_from}
use Rattle.tt_pack.specs.declared.interned.InternedTables.{InternedTables}
use Rattle.tt_pack.specs.Counted.{new_index}
use Rattle.tt_pack.specs.Leading.{LeadsByPlace}
use Rattle.tt_pack.specs.TablesOf.{StandsAt, HasNewIndexAt}

-- the tables of parts and of symbols
abbrev pub tables_in : InternedTables → Tables
tables_in tables = tables_from tables.parts.items tables.symbols.values.items

-- the flat list that the tokens mean
abbrev pub list_in : InternedTables → List TokenTree
list_in tables = list_of tables.below

-- the new indices of parts and symbols are their indices in the tables
pub record LeadsFrom (tables : InternedTables) : Type 0 where
  pub parts : LeadsByPlace (parts_of tables.below) tables.parts.items tables.part_indices.items
  pub symbols : (place : ℕ) (x : List ℕ) → StandsAt (symbols_of tables.below) place x → HasNewIndexAt bytes_eq tables.symbols.values.items tables.symbols.new_indices.items place x

-- the numbers of a span, with the new index of its part
abbrev pub new_span : (part_indices : List ℕ) → SpanNumbers → SpanNumbers
new_span part_indices numbers = record { part = new_index part_indices numbers.part; start = numbers.start; length = numbers.length }

-- a leaf with the new indices
abbrev pub new_leaf : (part_indices symbol_indices : List ℕ) → LeafEntry → LeafEntry
new_leaf part_indices symbol_indices (punct char spacing numbers) = punct char spacing (new_span part_indices numbers)
new_leaf part_indices symbol_indices (ident symbol raw numbers) = ident (new_index symbol_indices symbol) raw (new_span part_indices numbers)
new_leaf part_indices symbol_indices (literal symbol kind suffix_len numbers) =
    literal (new_index symbol_indices symbol) kind suffix_len (new_span part_indices numbers)

-- a header with the new indices; the tokens below it take `child_bytes` bytes
abbrev pub new_header : (part_indices : List ℕ) → HeaderEntry → (child_bytes : ℕ) → HeaderEntry
new_header part_indices entry child_bytes =
    record {
      opening = new_span part_indices entry.opening;
      closing = new_span part_indices entry.closing;
      kind = entry.kind;
      len = entry.len;
      child_bytes = child_bytes;
    }
