-- The two tables of tokens are in order, and no other lists are such tables.
use Rattle.std.proofs.Common.{◌≡◌, ℕ, true, bytes_eq, List, refl, rules}
use Rattle.std.proofs.lemmas.Slice.Eq.{bytes_eq-Decides}
use Rattle.tt_base.specs.contracts.span.SpanPartEq.TheImpl.Laws as part_eq
use Rattle.tt_base.specs.declared.span.SpanPart.{SpanPart}
use Rattle.tt_base.specs.declared.token_tree.TokenTree.{TokenTree}
use Rattle.tt_tables.specs.TableOrder.{IsTable}
use Rattle.tt_tables.specs.Tables.{part_table, symbol_table, short_parts, short_symbols}
use Rattle.tt_tables.specs.Uses.{same_part, part_uses, symbol_uses}
use Rattle.tt_tables.proofs.TableOrder.{table_is_table}
use Rattle.tt_tables.proofs.TableUnique.{table_unique}

pub part_sound : (a b : SpanPart) → same_part a b ≡ true → a ≡ b
part_sound a b h = search rules

pub part_complete : (a : SpanPart) → same_part a a ≡ true
part_complete a = part_eq.lawful.laws.refl a

pub text_sound : (a b : List ℕ) → bytes_eq a b ≡ true → a ≡ b
text_sound a b = (bytes_eq-Decides a b).0

pub text_complete : (a : List ℕ) → bytes_eq a a ≡ true
text_complete a = (bytes_eq-Decides a a).1 refl

-- The computed table of parts is a table of them.
pub part_table_is : (tokens : List TokenTree) → IsTable same_part short_parts (part_uses tokens) (part_table tokens)
part_table_is tokens = table_is_table same_part part_sound part_complete short_parts (part_uses tokens)

-- It is the only one.
pub part_table_only : (tokens : List TokenTree) (other : List SpanPart) → IsTable same_part short_parts (part_uses tokens) other → other ≡ part_table tokens
part_table_only tokens other = table_unique same_part part_sound part_complete short_parts (part_uses tokens) other

-- The computed table of symbols is a table of them.
pub symbol_table_is : (tokens : List TokenTree) → IsTable bytes_eq short_symbols (symbol_uses tokens) (symbol_table tokens)
symbol_table_is tokens = table_is_table bytes_eq text_sound text_complete short_symbols (symbol_uses tokens)

-- It is the only one.
pub symbol_table_only : (tokens : List TokenTree) (other : List (List ℕ)) → IsTable bytes_eq short_symbols (symbol_uses tokens) other → other ≡ symbol_table tokens
symbol_table_only tokens other = table_unique bytes_eq text_sound text_complete short_symbols (symbol_uses tokens) other
