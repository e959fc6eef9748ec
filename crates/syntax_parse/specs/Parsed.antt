-- The pieces of a text, the trees with these pieces, and when a text is refused.
use Rattle.std.specs.Prelude.{◌≡◌, ℕ, ◌+◌, List, [], ◌∷◌, ◌++◌, length, take, drop, Option, None, Some}
use Rattle.std.specs.Str.{chars}
use Rattle.tt_base.specs.Building.{open_kinds}
use Rattle.tt_base.specs.Forest.{Root}
use Rattle.tt_base.specs.declared.delimiter.Delimiter.{Delimiter}
use Rattle.tt_base.specs.declared.delimiter.DelimiterKind.TheVariants.{Invisible}
use Rattle.tt_base.specs.declared.span.SpanPart.{SpanPart}
use Rattle.tt.specs.FlatHeld.{Held}
use Rattle.syntax_lex.specs.Reading.{AreTokensOf, first_token_of}
use Rattle.syntax_lex.specs.declared.token.Token.{Token}
use Rattle.syntax_lex.specs.declared.token.TokenKind.{TokenKind}
use Rattle.syntax_parse.specs.Faults.{fault_from}
use Rattle.syntax_parse.specs.Pieces.{piece, pieces_of}
use Rattle.syntax_parse.specs.Spelled.{Piece, at_span, closing, opening, spelled, spelled_so_far}

-- the kind of the first token
abbrev pub next_kind : List Token → Option TokenKind
next_kind [] = None
next_kind (token ∷ tokens) = Some token.kind

-- the first token of a text, if it has one
abbrev pub token_ahead : (text : List ℕ) → Option Token
token_ahead [] = None
token_ahead (c ∷ cs) = Some (first_token_of (c ∷ cs))

-- the kind of a token, if there is one
abbrev pub kind_ahead : Option Token → Option TokenKind
kind_ahead None = None
kind_ahead (Some token) = Some token.kind

-- the pieces of the tokens of a text that begins at a byte, in order
abbrev pub pieces_from : SpanPart → (at : ℕ) → (text : List ℕ) → List Token → List Piece
pieces_from part at text [] = []
pieces_from part at text (token ∷ tokens) =
    pieces_of part token.kind (next_kind tokens) at (take token.len text) ++ pieces_from part (at + token.len) (drop token.len text) tokens

-- the pieces come after those in a builder, and the same subtrees are open
pub record Adds (pieces : List Piece) (old new : Held) : Type 0 where
  pub holds : spelled_so_far new.stack ≡ spelled_so_far old.stack ++ pieces
  pub opens : open_kinds new.stack ≡ open_kinds old.stack
  pub top : new.top ≡ old.top

-- the delimiter of a text of `bytes` bytes: invisible, with the empty spans at its start and at its end
pub record IsTop (part : SpanPart) (bytes : ℕ) (delimiter : Delimiter) : Type 0 where
  pub invisible : delimiter.kind ≡ Invisible
  pub opens : at_span (opening Invisible) delimiter.open_span ≡ piece part 0 0 (opening Invisible)
  pub closes : at_span (closing Invisible) delimiter.close ≡ piece part bytes bytes (closing Invisible)

-- the text's tokens are valid, its brackets match, and its pieces spell these trees
pub record IsParse (part : SpanPart) (text : List ℕ) (root : Root) : Type 0 where
  pub tokens : List Token
  pub read : AreTokensOf tokens (chars text)
  pub fine : fault_from [] 0 text tokens ≡ None
  pub top : IsTop part (length text) root.delimiter
  pub spells : spelled root.children ≡ pieces_from part 0 text tokens
