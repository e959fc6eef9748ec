-- The trees of a text lie in it.
use Rattle.std.proofs.Common.{◌≡◌, ◌≢◌, ◌<◌, ◌+◌, ◌++◌, ℕ, true, List, [], ◌∷◌, length, take, drop, Option, None, Some, refl, sym, ap, subst, ◌∙◌, arith}
use Rattle.std.proofs.lemmas.List.{drop-drop, length-take-le}
use Rattle.std.proofs.lemmas.Str.{IsCharBoundary-from_rest, IsCharBoundary-start, IsUtf8-drop, chars-nil}
use Rattle.std.specs.Str.{chars, IsCharBoundary, IsUtf8}
use Rattle.tt.specs.Forest.{Root}
use Rattle.tt_base.specs.declared.span.SpanPart.{SpanPart}
use Rattle.syntax_edit.specs.Laid.{Laid}
use Rattle.syntax_edit.specs.Texts.{IsRange}
use Rattle.syntax_edit.proofs.PieceOrder.{ClosesLast, InOrder, none, first, in_order_from, laid_of_pieces, placed_in_order}
use Rattle.syntax_edit.proofs.Quotes.{quote_boundary}
use Rattle.syntax_lex.specs.Reading.{AreTokensOf, first_token_of}
use Rattle.syntax_lex.specs.declared.token.DocStyle.{DocStyle}
use Rattle.syntax_lex.specs.declared.token.DocStyle.TheVariants.{Outer, Inner}
use Rattle.syntax_lex.specs.declared.token.Token.{Token}
use Rattle.syntax_lex.specs.declared.token.TokenKind.{TokenKind}
use Rattle.syntax_lex.specs.declared.token.TokenKind.TheVariants as kinds
use Rattle.syntax_parse.specs.Parsed.{IsParse, next_kind, pieces_from}
use Rattle.syntax_parse.specs.Doc.{block_text, line_text}
use Rattle.syntax_parse.specs.Pieces.{doc, leaves_of, lifetime, name_of, pieces_as, pieces_of, placed, sorts_of}
use Rattle.syntax_parse.specs.Role.{kind_of, role_in}
use Rattle.syntax_parse.specs.Spelled.{Piece, Sort, opening, closing}
use Rattle.syntax_parse.specs.declared.role.Role.{Role}
use Rattle.syntax_parse.specs.declared.role.Role.TheVariants.{Bad, Nothing, Opens, Closes, Leaf}
use Rattle.syntax_parse.proofs.TextFacts.{cut}
use Rattle.syntax_unparse.specs.Writable.{is_lifetime}

-- a documenting comment means pieces whose bracket closes last
doc_last : (style : DocStyle) (text : List ℕ) → ClosesLast (doc style text)
doc_last Outer text = refl
doc_last Inner text = refl

module _ {text : List ℕ} {to : ℕ} (part : SpanPart) (next : Option TokenKind) (at : ℕ) (word : List ℕ) (more : List Piece) (some : 0 < length word)
    (range : IsRange text at (at + length word)) (behind : InOrder text (at + length word) more to) where
  here : (sorts : List Sort) → ClosesLast sorts → InOrder text at (placed part at (at + length word) sorts ++ more) to
  here sorts last = placed_in_order part at (at + length word) sorts more last range behind

  two : IsCharBoundary text (at + 1) → InOrder text at (lifetime part at word ++ more) to
  two second =
      first (record { after = omega arith; range = record { order = omega arith; begins = range.begins; ends = second } })
      (first (record { after = omega arith; range = record { order = omega (arith, some); begins = second; ends = range.ends } })
      (in_order_from (omega (arith, some)) behind))

  -- The leaves of a token are in order, and then others after it.
  pub leaves_in_order : (kind : TokenKind) → (is_lifetime kind ≡ true → IsCharBoundary text (at + 1)) → InOrder text at (leaves_of part kind next at word ++ more) to
  leaves_in_order (kinds.Lifetime digit) quote = two (quote refl)
  leaves_in_order kinds.RawLifetime quote = two (quote refl)
  leaves_in_order (kinds.LineComment None) quote = here [] tt
  leaves_in_order (kinds.LineComment (Some style)) quote = here (doc style (line_text style word)) (doc_last style (line_text style word))
  leaves_in_order (kinds.BlockComment None terminated) quote = here [] tt
  leaves_in_order (kinds.BlockComment (Some style) terminated) quote = here (doc style (block_text style word)) (doc_last style (block_text style word))
  leaves_in_order kinds.Ident quote = here (name_of word ∷ []) tt
  leaves_in_order kinds.RawIdent quote = here (name_of word ∷ []) tt
  leaves_in_order (kinds.Literal kind suffix_start) quote = here (sorts_of (kinds.Literal kind suffix_start) next word) tt
  leaves_in_order kinds.Whitespace quote = here [] tt
  leaves_in_order kinds.InvalidIdent quote = here [] tt
  leaves_in_order kinds.UnknownPrefix quote = here [] tt
  leaves_in_order kinds.UnknownPrefixLifetime quote = here [] tt
  leaves_in_order kinds.GuardedStrPrefix quote = here [] tt
  leaves_in_order kinds.OpenParen quote = here [] tt
  leaves_in_order kinds.CloseParen quote = here [] tt
  leaves_in_order kinds.OpenBrace quote = here [] tt
  leaves_in_order kinds.CloseBrace quote = here [] tt
  leaves_in_order kinds.OpenBracket quote = here [] tt
  leaves_in_order kinds.CloseBracket quote = here [] tt
  leaves_in_order kinds.Unknown quote = here [] tt
  leaves_in_order kinds.Semi quote = here (sorts_of kinds.Semi next word) refl
  leaves_in_order kinds.Comma quote = here (sorts_of kinds.Comma next word) tt
  leaves_in_order kinds.Dot quote = here (sorts_of kinds.Dot next word) tt
  leaves_in_order kinds.At quote = here (sorts_of kinds.At next word) tt
  leaves_in_order kinds.Pound quote = here (sorts_of kinds.Pound next word) tt
  leaves_in_order kinds.Tilde quote = here (sorts_of kinds.Tilde next word) tt
  leaves_in_order kinds.Question quote = here (sorts_of kinds.Question next word) tt
  leaves_in_order kinds.Colon quote = here (sorts_of kinds.Colon next word) tt
  leaves_in_order kinds.Dollar quote = here (sorts_of kinds.Dollar next word) tt
  leaves_in_order kinds.Eq quote = here (sorts_of kinds.Eq next word) tt
  leaves_in_order kinds.Bang quote = here (sorts_of kinds.Bang next word) tt
  leaves_in_order kinds.Lt quote = here (sorts_of kinds.Lt next word) tt
  leaves_in_order kinds.Gt quote = here (sorts_of kinds.Gt next word) tt
  leaves_in_order kinds.Minus quote = here (sorts_of kinds.Minus next word) tt
  leaves_in_order kinds.And quote = here (sorts_of kinds.And next word) tt
  leaves_in_order kinds.Or quote = here (sorts_of kinds.Or next word) tt
  leaves_in_order kinds.Plus quote = here (sorts_of kinds.Plus next word) tt
  leaves_in_order kinds.Star quote = here (sorts_of kinds.Star next word) tt
  leaves_in_order kinds.Slash quote = here (sorts_of kinds.Slash next word) tt
  leaves_in_order kinds.Caret quote = here (sorts_of kinds.Caret next word) tt
  leaves_in_order kinds.Percent quote = here (sorts_of kinds.Percent next word) tt

  -- So are the pieces of a token.
  pub pieces_in_order : (kind : TokenKind) → (is_lifetime kind ≡ true → IsCharBoundary text (at + 1)) → InOrder text at (pieces_of part kind next at word ++ more) to
  pieces_in_order kind quote = by (role_in kind word)
    where
      by : (role : Role) → InOrder text at (pieces_as role part kind next at word ++ more) to
      by (Bad why) = here [] tt
      by Nothing = here [] tt
      by (Opens bracket) = here (opening (kind_of bracket) ∷ []) tt
      by (Closes bracket) = here (closing (kind_of bracket) ∷ []) refl
      by Leaf = leaves_in_order kind quote

-- The pieces of the tokens in the rest of a text are in order.
tokens_in_order : (part : SpanPart) (text : List ℕ) (at : ℕ) (rest : List ℕ) (tokens : List Token) → IsUtf8 text → IsCharBoundary text at → rest ≡ drop at text
    → AreTokensOf tokens (chars rest) → InOrder text at (pieces_from part at rest tokens) (length text)
tokens_in_order part text at rest [] utf8 boundary left are = none boundary.0
tokens_in_order part text at rest (token ∷ tokens) utf8 boundary left (some, is, are) =
    let len = token.len in
    let word = take len rest in
    let fine : IsUtf8 rest = subst IsUtf8 (sym left) (IsUtf8-drop text at utf8 boundary) in
    let full : 0 < length rest = not_empty rest some in
    let k = cut rest fine full in
    let same : (first_token_of (chars rest)).len ≡ len = ap (λ t. t.len) (sym is) in
    let inside : (n : ℕ) → IsCharBoundary rest n → IsCharBoundary text (at + n) = λ n b. IsCharBoundary-from_rest text at n boundary.0 (subst (λ t. IsCharBoundary t n) left b) in
    let ends : IsCharBoundary rest len = subst (IsCharBoundary rest) same k.boundary in
    let size : length word ≡ len = length-take-le len rest ends.0 in
    let then : InOrder text (at + len) (pieces_from part (at + len) (drop len rest) tokens) (length text) =
    tokens_in_order part text (at + len) (drop len rest) tokens utf8 (inside len ends) (ap (drop len) left ∙ drop-drop len at text)
    (subst (AreTokensOf tokens) (sym (ap (λ n. chars (drop n rest)) (sym same) ∙ k.left)) are) in
    pieces_in_order part (next_kind tokens) at word (pieces_from part (at + len) (drop len rest) tokens) (omega (arith, size, same, k.some))
    (record { order = omega arith; begins = boundary; ends = subst (λ n. IsCharBoundary text (at + n)) (sym size) (inside len ends) })
    (subst (λ n. InOrder text (at + n) (pieces_from part (at + len) (drop len rest) tokens) (length text)) (sym size) then)
    token.kind (λ life. inside 1 (quote_boundary rest fine full (ap (λ t. is_lifetime t.kind) (sym is) ∙ life)))
  where
    not_empty : (bs : List ℕ) → chars bs ≢ [] → 0 < length bs
    not_empty [] ne = absurd (ne chars-nil)
    not_empty (b ∷ bs) ne = omega arith

-- The trees that are read from a text lie in it.
pub parsed_laid : (part : SpanPart) (text : List ℕ) (root : Root) → IsUtf8 text → IsParse part text root → Laid text 0 root.children (length text)
parsed_laid part text root utf8 it =
    laid_of_pieces root.children (subst (λ ps. InOrder text 0 ps (length text)) (sym it.spells)
    (tokens_in_order part text 0 text it.tokens utf8 (IsCharBoundary-start text utf8) refl it.read))
