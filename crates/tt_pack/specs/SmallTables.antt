-- The tables of tokens in little memory.
use Rattle.std.specs.Prelude.{◌≡◌, ℕ, ◌∷◌, [], List, bytes_eq}
use Rattle.tt_base.specs.declared.span.SpanPart.{SpanPart}
use Rattle.tt_base.specs.declared.token_tree.TokenTree.{TokenTree}
use Rattle.tt_tables.specs.OnePart.{HasOnePart}
use Rattle.tt_tables.specs.TableOrder.{different}
use Rattle.tt_tables.specs.Tables.{Tables, tables_from}
use Rattle.tt_tables.specs.Uses.{symbol_uses}
use Rattle.tt_pack.specs.declared.small.SmallTables.{SmallTables}
use Rattle.tt_pack.specs.TablesOf.{StandsAt, HasNewIndexAt}

-- the tokens
abbrev pub list_within : SmallTables → List TokenTree
list_within tables = tables.below

-- the tables of parts and of symbols
abbrev pub tables_within : SmallTables → Tables
tables_within tables = tables_from tables.parts.items tables.symbols.values.items

-- the tokens have one part, and the new indices of symbols are their indices in the table
pub record LeadsSmall (tables : SmallTables) : Type 0 where
  pub part : SpanPart
  pub one : HasOnePart part (list_within tables)
  pub parts : tables.parts.items ≡ part ∷ []
  pub symbols : (place : ℕ) (x : List ℕ) → StandsAt (different bytes_eq (symbol_uses (list_within tables))) place x → HasNewIndexAt bytes_eq tables.symbols.values.items tables.symbols.new_indices.items place x
