-- Literals of a text, and what follows them. `cs` is the text after the characters that open the literal.
use Rattle.std.specs.Prelude.{ℕ, Bool, true, false, List, Option, is_some}
use Rattle.syntax_lex.specs.Closing.{behind_quote, raw_text}
use Rattle.syntax_lex.specs.Front.{first}
use Rattle.syntax_lex.specs.Number.{number}
use Rattle.syntax_lex.specs.Quoted.{literal, quoted_char}
use Rattle.syntax_lex.specs.declared.token.LiteralKind.{LiteralKind}
use Rattle.syntax_lex.specs.declared.token.LiteralKind.TheVariants as literals
use Rattle.syntax_lex.specs.declared.token.TokenKind.{TokenKind}

-- a literal in quotes, by whether it is closed and the rest: only a closed one has a suffix
abbrev pub quoted : (text : List ℕ) → (Bool → LiteralKind) → Bool × List ℕ → TokenKind × List ℕ
quoted text kind found = literal text (kind found.0) found.0 found.1

-- the same for a raw literal, by its hashes
abbrev pub raw : (text : List ℕ) → (Option ℕ → LiteralKind) → Option ℕ × List ℕ → TokenKind × List ℕ
raw text kind found = literal text (kind found.0) (is_some found.0) found.1

-- a number, which may always have a suffix
abbrev pub number_literal : (text cs : List ℕ) → TokenKind × List ℕ
number_literal text cs = literal text (number (first text) cs).0 true (number (first text) cs).1

-- a byte, after `b'`
abbrev pub byte_literal : (text cs : List ℕ) → TokenKind × List ℕ
byte_literal text cs = quoted text literals.Byte (quoted_char cs)

-- a string, after its quote
abbrev pub str_literal : (text cs : List ℕ) → TokenKind × List ℕ
str_literal text cs = quoted text literals.Str (behind_quote false cs)

-- a byte string, after `b"`
abbrev pub byte_str_literal : (text cs : List ℕ) → TokenKind × List ℕ
byte_str_literal text cs = quoted text literals.ByteStr (behind_quote false cs)

-- a C string, after `c"`
abbrev pub c_str_literal : (text cs : List ℕ) → TokenKind × List ℕ
c_str_literal text cs = quoted text literals.CStr (behind_quote false cs)

-- a raw string, after its `r`
abbrev pub raw_str_literal : (text cs : List ℕ) → TokenKind × List ℕ
raw_str_literal text cs = raw text literals.RawStr (raw_text cs)

-- a raw byte string, after its `br`
abbrev pub raw_byte_str_literal : (text cs : List ℕ) → TokenKind × List ℕ
raw_byte_str_literal text cs = raw text literals.RawByteStr (raw_text cs)

-- a raw C string, after its `cr`
abbrev pub raw_c_str_literal : (text cs : List ℕ) → TokenKind × List ℕ
raw_c_str_literal text cs = raw text literals.RawCStr (raw_text cs)
