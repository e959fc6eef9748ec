-- Identifiers.
use Rattle.std.specs.Prelude.{ℕ, Bool, ◌||◌, ◌==◌, List, if◌then◌else◌}
use Rattle.syntax_lex.specs.Class.{is_id_continue, is_emoji_mark, is_odd_rest}
use Rattle.syntax_lex.specs.Front.{first, behind}
use Rattle.syntax_lex.specs.declared.token.TokenKind.{TokenKind}
use Rattle.syntax_lex.specs.declared.token.TokenKind.TheVariants.{Ident, InvalidIdent, UnknownPrefix}

-- `#`, or a quote
abbrev pub begins_literal : ℕ → Bool
begins_literal c = (c == 35) || (c == 34) || (c == 39)

-- an identifier before this text: `#` or a quote makes it an unknown prefix, an emoji an invalid identifier
abbrev pub word_before : List ℕ → TokenKind × List ℕ
word_before cs =
    if begins_literal (first cs) then (UnknownPrefix, cs)
    else (if is_emoji_mark (first cs) then (InvalidIdent, behind is_odd_rest cs) else (Ident, cs))

-- An identifier after its first character.
unfoldable pub word : List ℕ → TokenKind × List ℕ
word cs = word_before (behind is_id_continue cs)
