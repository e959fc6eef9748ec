-- The characters that stop a run.
use Rattle.std.specs.Prelude.{ℕ, Bool, ◌==◌, ◌||◌, not}
use Rattle.syntax_lex.specs.declared.runs.Stop.{Stop}
use Rattle.syntax_lex.specs.declared.runs.Stop.TheVariants as stop

-- any character except an end of a line
abbrev pub is_in_line : ℕ → Bool
is_in_line c = not (c == 10)

-- any character except a double quote
abbrev pub is_no_quote : ℕ → Bool
is_no_quote c = not (c == 34)

-- a character that means itself in a string: no double quote and no backslash
abbrev pub is_plain : ℕ → Bool
is_plain c = not ((c == 34) || (c == 92))

-- a character that neither opens nor closes a comment, whatever follows: no slash and no asterisk
abbrev pub is_no_mark : ℕ → Bool
is_no_mark c = not ((c == 47) || (c == 42))

-- the characters of a run
abbrev pub goes_on : Stop → ℕ → Bool
goes_on stop.LineEnd = is_in_line
goes_on stop.Quote = is_no_quote
goes_on stop.QuoteOrBackslash = is_plain
goes_on stop.CommentMark = is_no_mark

-- the characters that stop it
abbrev pub stops : Stop → ℕ → Bool
stops stop.LineEnd c = c == 10
stops stop.Quote c = c == 34
stops stop.QuoteOrBackslash c = (c == 34) || (c == 92)
stops stop.CommentMark c = (c == 47) || (c == 42)
