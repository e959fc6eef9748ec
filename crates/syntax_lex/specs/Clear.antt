-- How to decide that a token ends before a text.
use Rattle.std.specs.Prelude.{◌≡◌, ℕ, List, ◌++◌, take}
use Rattle.syntax_lex.specs.Reading.{reading}
use Rattle.syntax_lex.specs.declared.token.TokenKind.{TokenKind}

-- The token that takes all of a text is clear of the text that follows, as its first two characters show:
-- it is read before them, and they are left.
abbrev pub Clear : TokenKind → (text rest : List ℕ) → Type 0
Clear kind text rest = reading (text ++ take 2 rest) ≡ (kind, take 2 rest)
