-- The flat list that interned tokens mean, and the numbers of uses of its values.
use Rattle.std.specs.Prelude.{◌≡◌, ℕ, List, map, bytes_eq}
use Rattle.std.specs.List.{IsDistinct}
use Rattle.tt_base.specs.declared.span.SpanPart.{SpanPart}
use Rattle.tt_base.specs.declared.token_tree.TokenTree.{TokenTree}
use Rattle.tt_tables.specs.declared.token.InternedToken.{InternedToken}
use Rattle.tt_tables.specs.Held.{whole}
use Rattle.tt_tables.specs.Names.{AllName}
use Rattle.tt_tables.specs.TableOrder.{different, uses_of}
use Rattle.tt_tables.specs.Tables.{tables_from}
use Rattle.tt_tables.specs.Uses.{same_part, part_uses, symbol_uses}

-- the tokens mean the list; parts and symbols have their numbers of uses in it, and symbols are in the order of first uses
pub record AreOf (tokens : List InternedToken) (parts : List SpanPart) (part_numbers : List ℕ) (symbols : List (List ℕ)) (symbol_numbers : List ℕ) (list : List TokenTree) : Type 0 where
  pub named : AllName (tables_from parts symbols) tokens (map whole list)
  pub distinct : IsDistinct same_part parts
  pub parts_counted : part_numbers ≡ map (uses_of same_part (part_uses list)) parts
  pub in_order : symbols ≡ different bytes_eq (symbol_uses list)
  pub symbols_counted : symbol_numbers ≡ map (uses_of bytes_eq (symbol_uses list)) symbols

-- the tokens mean some list
abbrev pub IsListOf : (tokens : List InternedToken) (parts : List SpanPart) (part_numbers : List ℕ) (symbols : List (List ℕ)) (symbol_numbers : List ℕ) → Type 0
IsListOf tokens parts part_numbers symbols symbol_numbers = (list : List TokenTree) × AreOf tokens parts part_numbers symbols symbol_numbers list
