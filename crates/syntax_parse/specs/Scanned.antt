-- When the scan of a literal fits its text.
use Rattle.std.specs.Prelude.{ℕ, List}
use Rattle.tt_base.specs.Scan.{FitsText}
use Rattle.syntax_lex.specs.declared.token.TokenKind.{TokenKind}
use Rattle.syntax_lex.specs.declared.token.TokenKind.TheVariants as kinds
use Rattle.syntax_parse.specs.Pieces.{scan_of}

-- the scan of a token's kind fits its text; a token that is no literal has no scan
abbrev pub IsScanned : TokenKind → (text : List ℕ) → Type 0
IsScanned (kinds.Literal kind suffix_start) text = FitsText text (scan_of kind) suffix_start
IsScanned _ text = Unit {0}
