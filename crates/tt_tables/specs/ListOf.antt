-- The fields of interned tokens, and the flat list that a contract sees.
use Rattle.std.specs.Prelude.{ℕ, List}
use Rattle.tt_base.specs.declared.span.SpanPart.{SpanPart}
use Rattle.tt_base.specs.declared.token_tree.TokenTree.{TokenTree}
use Rattle.tt_tables.specs.declared.counted.CountedTokens.{CountedTokens}
use Rattle.tt_tables.specs.declared.token.InternedToken.{InternedToken}
use Rattle.tt_tables.specs.Counted.{AreOf}

-- the list that the tokens mean
abbrev pub list_of : CountedTokens → List TokenTree
list_of counted = counted.list.0

-- the tokens
abbrev pub tokens_of : CountedTokens → List InternedToken
tokens_of counted = counted.tokens.now

-- the parts that the tokens name
abbrev pub parts_of : CountedTokens → List SpanPart
parts_of counted = counted.parts.now

-- the number of uses of each part
abbrev pub part_uses_of : CountedTokens → List ℕ
part_uses_of counted = counted.part_uses.now

-- the symbols that the tokens name
abbrev pub symbols_of : CountedTokens → List (List ℕ)
symbols_of counted = counted.symbols.now

-- the number of uses of each symbol
abbrev pub symbol_uses_of : CountedTokens → List ℕ
symbol_uses_of counted = counted.symbol_uses.now

-- The tokens mean that list.
pub counted_are : (it : CountedTokens) → AreOf (tokens_of it) (parts_of it) (part_uses_of it) (symbols_of it) (symbol_uses_of it) (list_of it)
counted_are it = it.list.1
