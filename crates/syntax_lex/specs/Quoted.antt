-- Literals in quotes, and lifetimes.
use Rattle.std.specs.Prelude.{ℕ, ◌-◌, Bool, true, false, ◌&&◌, ◌||◌, ◌==◌, not, List, [], ◌∷◌, if◌then◌else◌}
use Rattle.syntax_lex.specs.Class.{is_decimal, is_id_start, is_id_continue}
use Rattle.syntax_lex.specs.Front.{first, second, third, skip, behind, behind_name, byte_length}
use Rattle.syntax_lex.specs.declared.token.LiteralKind.{LiteralKind}
use Rattle.syntax_lex.specs.declared.token.LiteralKind.TheVariants.{Char}
use Rattle.syntax_lex.specs.declared.token.TokenKind.{TokenKind}
use Rattle.syntax_lex.specs.declared.token.TokenKind.TheVariants.{Literal, Lifetime, RawLifetime, UnknownPrefixLifetime}

-- A literal of a text, with the rest `cs` after it. The suffix begins there, and is read if the literal may have one.
unfoldable pub literal : (text : List ℕ) → LiteralKind → (suffixed : Bool) → (cs : List ℕ) → TokenKind × List ℕ
literal text kind suffixed cs = (Literal kind (byte_length text - byte_length cs), if suffixed then behind_name cs else cs)

-- whether the reader of a character gives up at this one, if no backslash precedes it: at a slash, and
-- at an end of line with no quote after it
abbrev pub gives_up : (c next : ℕ) → Bool
gives_up c next = (c == 47) || ((c == 10) && not (next == 39))

-- Whether a character is closed, and what follows its quote or begins where the reader gives up. Each
-- backslash takes the next character with it.
abbrev pub behind_apostrophe : (escaped : Bool) → List ℕ → Bool × List ℕ
behind_apostrophe escaped [] = (false, [])
behind_apostrophe true (c ∷ cs) = behind_apostrophe false cs
behind_apostrophe false (c ∷ cs) =
    if c == 39 then (true, cs) else (if gives_up c (first cs) then (false, c ∷ cs) else behind_apostrophe (c == 92) cs)

-- A character after its first quote: any one except a backslash with a quote after it, or else all to the quote that closes it.
unfoldable pub quoted_char : List ℕ → Bool × List ℕ
quoted_char cs = if (second cs == 39) && not (first cs == 92) then (true, skip (skip cs)) else behind_apostrophe false cs

-- whether the text after a quote may be a lifetime: a name or a digit, with no quote right after its first character
abbrev pub begins_lifetime : List ℕ → Bool
begins_lifetime cs = not (second cs == 39) && (is_id_start (first cs) || is_decimal (first cs))

-- whether the text after a quote is a raw lifetime: `r#` and a name
abbrev pub begins_raw_lifetime : List ℕ → Bool
begins_raw_lifetime cs = (first cs == 114) && (second cs == 35) && is_id_start (third cs)

-- a character of a text
abbrev pub char_literal : (text : List ℕ) → Bool × List ℕ → TokenKind × List ℕ
char_literal text found = literal text (Char found.0) found.0 found.1

-- A name or number after a quote, by what follows it: a quote makes it a character, a `#` an unknown prefix.
abbrev pub named : (text : List ℕ) → (starts_with_number : Bool) → List ℕ → TokenKind × List ℕ
named text starts_with_number cs =
    if first cs == 39 then literal text (Char true) false (skip cs)
    else (if (first cs == 35) && not starts_with_number then (UnknownPrefixLifetime, cs) else (Lifetime starts_with_number, cs))

-- A character or a lifetime of a text; `cs` is the text after the quote.
unfoldable pub apostrophe : (text cs : List ℕ) → TokenKind × List ℕ
apostrophe text cs =
    if begins_lifetime cs
    then (if begins_raw_lifetime cs then (RawLifetime, behind is_id_continue (skip (skip (skip cs))))
    else named text (is_decimal (first cs)) (behind is_id_continue (skip cs)))
    else char_literal text (quoted_char cs)
