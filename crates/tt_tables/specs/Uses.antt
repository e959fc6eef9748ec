-- The span parts and the symbols that tokens use, in reading order.
use Rattle.std.specs.Prelude.{ℕ, Bool, List, [], ◌∷◌, flat_map}
use Rattle.tt_base.specs.contracts.span.SpanPartPartialEq.TheImpl as part_impl
use Rattle.tt_base.specs.declared.leaf.Leaf.{Leaf}
use Rattle.tt_base.specs.declared.leaf.Leaf.TheVariants as leaf
use Rattle.tt_base.specs.declared.span.SpanPart.{SpanPart}
use Rattle.tt_base.specs.declared.token_tree.TokenTree.{TokenTree}
use Rattle.tt_base.specs.declared.token_tree.TokenTree.TheVariants as token
use Rattle.tt_base.specs.Token.{leaf_span}
use Rattle.tt_base.specs.Literal.{symbol_of}
use Rattle.tt_base.specs.Span.{part_of}

-- whether two parts are equal, field by field
abbrev pub same_part : SpanPart → SpanPart → Bool
same_part = (part_impl.ghosts).eq

-- the parts of a token: one of a leaf; of a header its open part, then its close part
abbrev pub token_parts : TokenTree → List SpanPart
token_parts (token.Leaf leaf) = part_of (leaf_span leaf) ∷ []
token_parts (token.Subtree subtree) = part_of subtree.delimiter.open_span ∷ part_of subtree.delimiter.close ∷ []

-- the symbols of a leaf: one of an ident or a literal, none of a punct
abbrev pub leaf_symbols : Leaf → List (List ℕ)
leaf_symbols (leaf.Literal literal) = symbol_of literal ∷ []
leaf_symbols (leaf.Punct punct) = []
leaf_symbols (leaf.Ident ident) = ident.sym ∷ []

-- the symbols of a token: those of a leaf, none of a header
abbrev pub token_symbols : TokenTree → List (List ℕ)
token_symbols (token.Leaf leaf) = leaf_symbols leaf
token_symbols (token.Subtree subtree) = []

-- the uses of parts in a flat list
abbrev pub part_uses : List TokenTree → List SpanPart
part_uses tokens = flat_map token_parts tokens

-- the uses of symbols in a flat list
abbrev pub symbol_uses : List TokenTree → List (List ℕ)
symbol_uses tokens = flat_map token_symbols tokens
