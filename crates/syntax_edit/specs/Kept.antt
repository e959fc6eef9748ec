-- Which tokens stay the same if what follows them changes.
use Rattle.std.specs.Prelude.{ℕ, Bool, true, false, ◌==◌, ◌||◌, List, [], ◌∷◌}
use Rattle.syntax_lex.specs.declared.token.Token.{Token}
use Rattle.syntax_lex.specs.declared.token.TokenKind.{TokenKind}
use Rattle.syntax_lex.specs.declared.token.TokenKind.TheVariants as kinds
use Rattle.syntax_lex.specs.Stops.{is_stop}
use Rattle.syntax_lex.specs.Stops as tokens

-- whether a token is sound: no prefix, no name with emoji, and nothing that is not closed
abbrev pub is_sound : TokenKind → Bool
is_sound = tokens.is_sound

-- whether a token is a number
abbrev pub is_number : TokenKind → Bool
is_number = tokens.is_number

-- a character that separates tokens: white space of ASCII, a bracket, a comma or a semicolon
abbrev pub is_parting : ℕ → Bool
is_parting c = (c == 9) || ((c == 10) || ((c == 13) || ((c == 44) || ((c == 59) || is_stop c))))

-- whether a token is a comment to the end of a line
abbrev pub is_line : TokenKind → Bool
is_line (kinds.LineComment doc_style) = true
is_line _ = false

-- whether the last token is a comment to the end of a line
abbrev pub ends_in_line : List Token → Bool
ends_in_line [] = false
ends_in_line (token ∷ []) = is_line token.kind
ends_in_line (first ∷ second ∷ tokens) = ends_in_line (second ∷ tokens)
