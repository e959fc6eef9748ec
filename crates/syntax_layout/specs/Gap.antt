-- What may stand between tokens without changing how they are read.
use Rattle.std.specs.Prelude.{◌≡◌, ◌<◌, ◌^◌, ℕ, Bool, true, false, ◌&&◌, List, [], ◌∷◌, length, None}
use Rattle.std.specs.Str.{chars, IsUtf8}
use Rattle.syntax_edit.specs.Kept.{ends_in_line}
use Rattle.syntax_lex.specs.Reading.{AreTokensOf}
use Rattle.syntax_lex.specs.declared.token.Token.{Token}
use Rattle.syntax_lex.specs.declared.token.TokenKind.{TokenKind}
use Rattle.syntax_lex.specs.declared.token.TokenKind.TheVariants as kinds

-- whether a token means nothing: white space, and a comment that is closed and documents nothing
abbrev pub is_blank : TokenKind → Bool
is_blank (kinds.LineComment None) = true
is_blank (kinds.BlockComment None terminated) = terminated
is_blank kinds.Whitespace = true
is_blank _ = false

-- whether all tokens are blank
abbrev pub are_blank : List Token → Bool
are_blank [] = true
are_blank (token ∷ tokens) = is_blank token.kind && are_blank tokens

-- A gap: a text whose tokens are blank, and whose last token is no comment to the end of a line. It may be empty.
pub record IsGap (text : List ℕ) : Type 0 where
  pub utf8 : IsUtf8 text
  pub tokens : List Token
  pub read : AreTokensOf tokens (chars text)
  pub blank : are_blank tokens ≡ true
  pub line : ends_in_line tokens ≡ false

-- these texts are gaps, and none is too long
abbrev pub AreGaps : List (List ℕ) → Type 0
AreGaps [] = Unit {0}
AreGaps (gap ∷ gaps) = IsGap gap × (length gap < 2 ^ 31) × AreGaps gaps
