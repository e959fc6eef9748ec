-- The family of the first token, by the first three characters of a text.
use Rattle.std.specs.Prelude.{ℕ, Bool, ◌&&◌, ◌||◌, ◌==◌, if◌then◌else◌}
use Rattle.syntax_lex.specs.Class.{is_decimal, is_emoji_mark, is_id_start, is_whitespace}
use Rattle.syntax_lex.specs.declared.opening.Family.{Family}
use Rattle.syntax_lex.specs.declared.opening.Family.TheVariants as opens
use Rattle.syntax_lex.specs.declared.token.TokenKind.{TokenKind}
use Rattle.syntax_lex.specs.declared.token.TokenKind.TheVariants as kinds

-- the first character of a raw text after its letters: a quote or a hash
abbrev pub begins_raw : ℕ → Bool
begins_raw c = (c == 34) || (c == 35)

-- after a `/`: `//`, `/*`
abbrev pub opening_slash : ℕ → Family
opening_slash d = if d == 47 then opens.LineComment else (if d == 42 then opens.BlockComment else opens.Symbol)

-- after an `r`: `r#name`, `r"`, `r#`
abbrev pub opening_r : (d e : ℕ) → Family
opening_r d e = if (d == 35) && is_id_start e then opens.RawIdent else (if begins_raw d then opens.RawStr else opens.Word)

-- after a `b`: `b'`, `b"`, `br"`, `br#`
abbrev pub opening_b : (d e : ℕ) → Family
opening_b d e = if d == 39 then opens.Byte else (if d == 34 then opens.ByteStr else (if (d == 114) && begins_raw e then opens.RawByteStr else opens.Word))

-- after a `c`: `c"`, `cr"`, `cr#`
abbrev pub opening_c : (d e : ℕ) → Family
opening_c d e = if d == 34 then opens.CStr else (if (d == 114) && begins_raw e then opens.RawCStr else opens.Word)

-- the family of the first token
unfoldable pub opening : (c d e : ℕ) → Family
opening c d e =
    if is_whitespace c then opens.Whitespace
    else (if c == 47 then opening_slash d
    else (if c == 114 then opening_r d e
    else (if c == 98 then opening_b d e
    else (if c == 99 then opening_c d e
    else (if is_id_start c then opens.Word
    else (if is_decimal c then opens.Number
    else (if c == 39 then opens.Apostrophe
    else (if c == 34 then opens.Str
    else (if (c == 35) && begins_raw d then opens.Guarded
    else (if is_emoji_mark c then opens.OddWord
    else opens.Symbol))))))))))

-- the token of a single character that begins no other
unfoldable pub symbol : ℕ → TokenKind
symbol c =
    if c == 59 then kinds.Semi
    else (if c == 44 then kinds.Comma
    else (if c == 46 then kinds.Dot
    else (if c == 40 then kinds.OpenParen
    else (if c == 41 then kinds.CloseParen
    else (if c == 123 then kinds.OpenBrace
    else (if c == 125 then kinds.CloseBrace
    else (if c == 91 then kinds.OpenBracket
    else (if c == 93 then kinds.CloseBracket
    else (if c == 64 then kinds.At
    else (if c == 35 then kinds.Pound
    else (if c == 126 then kinds.Tilde
    else (if c == 63 then kinds.Question
    else (if c == 58 then kinds.Colon
    else (if c == 36 then kinds.Dollar
    else (if c == 61 then kinds.Eq
    else (if c == 33 then kinds.Bang
    else (if c == 60 then kinds.Lt
    else (if c == 62 then kinds.Gt
    else (if c == 45 then kinds.Minus
    else (if c == 38 then kinds.And
    else (if c == 124 then kinds.Or
    else (if c == 43 then kinds.Plus
    else (if c == 42 then kinds.Star
    else (if c == 47 then kinds.Slash
    else (if c == 94 then kinds.Caret
    else (if c == 37 then kinds.Percent
    else kinds.Unknown))))))))))))))))))))))))))
