-- A flat list of tokens in which headers may be open.
use Rattle.std.specs.Prelude.{ℕ, suc, List, [], ◌∷◌, flat_map}
use Rattle.tt_base.specs.declared.delimiter.DelimiterKind.{DelimiterKind}
use Rattle.tt_base.specs.declared.span.Span.{Span}
use Rattle.tt_base.specs.declared.span.SpanPart.{SpanPart}
use Rattle.tt_base.specs.declared.token_tree.TokenTree.{TokenTree}
use Rattle.tt_base.specs.declared.token_tree.TokenTree.TheVariants as token
use Rattle.tt_base.specs.Building.{leaf_alone}
use Rattle.tt_base.specs.Forest.{header}
use Rattle.tt_base.specs.Span.{part_of}
use Rattle.tt_base.specs.Token.{delimiter}
use Rattle.tt_tables.specs.Uses.{token_parts, token_symbols}

-- a token, or the header of an open subtree, which has no close span and no count yet
pub data HeldToken : Type 0 where
  whole : TokenTree → HeldToken
  opened : DelimiterKind → Span → HeldToken

-- the token; the close span of an open header is its open span, and its count is 0
abbrev pub as_token : HeldToken → TokenTree
as_token (whole it) = it
as_token (opened kind open_span) = header (delimiter kind open_span open_span) 0

-- the parts that count: those of a token; of an open header only its open part
abbrev pub counted_parts : HeldToken → List SpanPart
counted_parts (whole it) = token_parts it
counted_parts (opened kind open_span) = part_of open_span ∷ []

-- the symbols that count
abbrev pub counted_symbols : HeldToken → List (List ℕ)
counted_symbols (whole it) = token_symbols it
counted_symbols (opened kind open_span) = []

-- the uses of parts in a list
abbrev pub parts_in : List HeldToken → List SpanPart
parts_in held = flat_map counted_parts held

-- the uses of symbols in a list
abbrev pub symbols_in : List HeldToken → List (List ℕ)
symbols_in held = flat_map counted_symbols held

-- the places of the open headers, if the first token is at the place `first`
abbrev pub open_places : (first : ℕ) → List HeldToken → List ℕ
open_places first [] = []
open_places first (whole it ∷ held) = open_places (suc first) held
open_places first (opened kind open_span ∷ held) = first ∷ open_places (suc first) held

-- a token, alone if it is a punct
abbrev pub token_alone : TokenTree → TokenTree
token_alone (token.Leaf it) = token.Leaf (leaf_alone it)
token_alone (token.Subtree it) = token.Subtree it
