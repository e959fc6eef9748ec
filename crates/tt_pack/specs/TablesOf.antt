-- What the tables of the code mean.
use Rattle.std.specs.Prelude.{◌≡◌, ℕ, ◌≤◌, ◌^◌, Bool, Some, List, slice_get, length, bytes_eq}
use Rattle.tt_base.specs.declared.span.SpanPart.{SpanPart}
use Rattle.tt_base.specs.declared.token_tree.TokenTree.{TokenTree}
use Rattle.tt_base.specs.Literal.{symbol_of, span_of}
use Rattle.tt_base.specs.Span.{part_of}
use Rattle.tt_tables.specs.TableOrder.{index_in, different, IsTable}
use Rattle.tt_pack.specs.declared.uses.TokenUses.{TokenUses}
use Rattle.tt_pack.specs.declared.table.Table.{Table}
use Rattle.tt_pack.specs.Packed.{HasFewParts, HasFewSymbols}
use Rattle.tt_pack.specs.Room.{HasRoomForAll}
use Rattle.std.specs.List.{AllZip}
use Rattle.tt_tables.specs.Tables.{Tables, tables_from, tables_for, short_parts, short_symbols}
use Rattle.tt_tables.specs.Uses.{same_part, part_uses, symbol_uses}
use Rattle.tt_base.specs.Forest.{IsWhole}
use Rattle.tt_pack.specs.Counted.{new_index}
use Rattle.tt_pack.specs.declared.tables.ListTables.{ListTables}
use Rattle.tt_base.specs.declared.leaf.Leaf.TheVariants as leaf
use Rattle.tt_base.specs.declared.token_tree.TokenTree.TheVariants as token

-- the value is at the index, if all indices fit in four bytes
abbrev pub StandsAt : {X : Type 0} → List X → ℕ → X → Type 0
StandsAt values index x = length values ≤ 2 ^ 32 → slice_get values index ≡ Some x

-- the new index of an index is the value's index in the table
abbrev pub HasNewIndexAt : {X : Type 0} → (same : X → X → Bool) (table : List X) (new_indices : List ℕ) → ℕ → X → Type 0
HasNewIndexAt same table new_indices index x = new_index new_indices index ≡ index_in (same x) table

-- the values that the token uses are at its indices; `IsPart` and `IsSymbol` say which parts and symbols are at which index
module _ (IsPart : ℕ → SpanPart → Type 0) (IsSymbol : ℕ → List ℕ → Type 0) where
  abbrev pub AreUses : TokenTree → TokenUses → Type 0
  AreUses (token.Leaf (leaf.Literal it)) uses = IsPart uses.part (part_of (span_of it)) × IsSymbol uses.other (symbol_of it)
  AreUses (token.Leaf (leaf.Punct it)) uses = IsPart uses.part (part_of it.span)
  AreUses (token.Leaf (leaf.Ident it)) uses = IsPart uses.part (part_of it.span) × IsSymbol uses.other it.sym
  AreUses (token.Subtree it) uses = IsPart uses.part (part_of it.delimiter.open_span) × IsPart uses.other (part_of it.delimiter.close)

-- the values are the table of these uses, and the new index of each different value is its index in the table
pub record IsTableFor {X : Type 0} (same : X → X → Bool) (short : ℕ) (uses : List X) (table : Table X) : Type 0 where
  pub is : IsTable same short uses table.values.items
  pub leads : (i : ℕ) (x : X) → StandsAt (different same uses) i x → HasNewIndexAt same table.values.items table.new_indices.items i x

-- the two tables of the tokens, whose indices can be written
pub record AreTables (tokens : List TokenTree) (parts : Table SpanPart) (symbols : Table (List ℕ)) : Type 0 where
  pub all_parts : IsTableFor same_part short_parts (part_uses tokens) parts
  pub few_parts : HasFewParts tokens
  pub all_symbols : IsTableFor bytes_eq short_symbols (symbol_uses tokens) symbols
  pub few_symbols : HasFewSymbols tokens

-- the tables of parts and of symbols
abbrev pub tables_of : ListTables → Tables
tables_of tables = tables_from tables.parts.values.items tables.symbols.values.items

-- the new indices of the token's uses are the indices of its values in the tables
abbrev pub HasUses : ListTables → TokenTree → TokenUses → Type 0
HasUses tables =
    AreUses (HasNewIndexAt same_part tables.parts.values.items tables.parts.new_indices.items)
    (HasNewIndexAt bytes_eq tables.symbols.values.items tables.symbols.new_indices.items)

-- the tables of a whole list of tokens, whose indices can be written
pub record AreTablesOf (tokens : List TokenTree) (tables : Tables) : Type 0 where
  pub whole : IsWhole tokens
  pub are : tables ≡ tables_for tokens
  pub few_parts : HasFewParts tokens
  pub few_symbols : HasFewSymbols tokens

-- the tokens
abbrev pub tokens_in : ListTables → List TokenTree
tokens_in tables = tables.tokens.now

-- each token has the indices of its uses, and there is room for all tokens
pub record LeadsList (tables : ListTables) : Type 0 where
  pub uses : AllZip (HasUses tables) (tokens_in tables) tables.uses.items
  pub room : HasRoomForAll (tokens_in tables) tables.room

-- the numbers are of these tokens, have their two tables, and know the new index of each value
pub record AreNumbers {N : Type 0} (list : N → List TokenTree) (tables : N → Tables) (leads : N → Type 0) (tokens : List TokenTree) (numbers : N) : Type 0 where
  pub same : list numbers ≡ tokens
  pub are : AreTablesOf (list numbers) (tables numbers)
  pub led : leads numbers
