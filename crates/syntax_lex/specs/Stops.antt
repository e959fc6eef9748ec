-- What ends a token, and which tokens end there.
use Rattle.std.specs.Prelude.{◌≡◌, ℕ, Bool, true, false, ◌==◌, ◌||◌, ◌&&◌, List, [], ◌∷◌, is_some}
use Rattle.syntax_lex.specs.declared.token.LiteralKind.{LiteralKind}
use Rattle.syntax_lex.specs.declared.token.LiteralKind.TheVariants as literals
use Rattle.syntax_lex.specs.declared.token.TokenKind.{TokenKind}
use Rattle.syntax_lex.specs.declared.token.TokenKind.TheVariants as kinds

-- a space, or a bracket
abbrev pub is_stop : ℕ → Bool
is_stop c = (c == 32) || ((c == 40) || ((c == 41) || ((c == 91) || ((c == 93) || ((c == 123) || (c == 125))))))

-- nothing, or a space or a bracket first
abbrev pub Stops : List ℕ → Type 0
Stops [] = Unit {0}
Stops (c ∷ cs) = is_stop c ≡ true

-- whether a literal has its last quote
abbrev pub is_closed : LiteralKind → Bool
is_closed (literals.Int base empty_int) = true
is_closed (literals.Float base empty_exponent) = true
is_closed (literals.Char terminated) = terminated
is_closed (literals.Byte terminated) = terminated
is_closed (literals.Str terminated) = terminated
is_closed (literals.ByteStr terminated) = terminated
is_closed (literals.CStr terminated) = terminated
is_closed (literals.RawStr n_hashes) = is_some n_hashes
is_closed (literals.RawByteStr n_hashes) = is_some n_hashes
is_closed (literals.RawCStr n_hashes) = is_some n_hashes

-- whether a literal is a number
abbrev pub is_number_kind : LiteralKind → Bool
is_number_kind (literals.Int base empty_int) = true
is_number_kind (literals.Float base empty_exponent) = true
is_number_kind _ = false

-- whether a space, a bracket or the end ends a token: all except comments, white space, and what is not closed
abbrev pub is_ended : TokenKind → Bool
is_ended (kinds.LineComment doc_style) = false
is_ended (kinds.BlockComment doc_style terminated) = false
is_ended kinds.Whitespace = false
is_ended (kinds.Literal kind suffix_start) = is_closed kind
is_ended _ = true

-- a punct or a bracket
abbrev pub is_sign : ℕ → Bool
is_sign c = (c == 59) || ((c == 44) || ((c == 46) || ((c == 40) || ((c == 41) || ((c == 123) || ((c == 125) || ((c == 91) || ((c == 93) || ((c == 64) || ((c == 35) || ((c == 126) || ((c == 63) || ((c == 58) || ((c == 36) || ((c == 61) || ((c == 33) || ((c == 60) || ((c == 62) || ((c == 45) || ((c == 38) || ((c == 124) || ((c == 43) || ((c == 42) || ((c == 47) || ((c == 94) || ((c == 37)))))))))))))))))))))))))))

-- whether a sign is no token before this character: `//`, `/*`, `##`, `#"`
abbrev pub is_glued : (c next : ℕ) → Bool
is_glued c next = ((c == 47) && ((next == 47) || (next == 42))) || ((c == 35) && ((next == 34) || (next == 35)))

-- whether a token is a number
abbrev pub is_number : TokenKind → Bool
is_number (kinds.Literal kind suffix_start) = is_number_kind kind
is_number _ = false

-- whether a token is sound: no prefix, no name with emoji, and nothing that is not closed
abbrev pub is_sound : TokenKind → Bool
is_sound (kinds.BlockComment doc_style terminated) = terminated
is_sound kinds.InvalidIdent = false
is_sound kinds.UnknownPrefix = false
is_sound kinds.UnknownPrefixLifetime = false
is_sound kinds.GuardedStrPrefix = false
is_sound (kinds.Literal kind suffix_start) = is_closed kind
is_sound _ = true
