-- What no literal and no documenting comment may hold.
use Rattle.std.specs.Prelude.{ℕ, Bool, true, false, ◌&&◌, ◌||◌, ◌==◌, not, nat_le, nat_lt, List, [], ◌∷◌, length, take, drop, min, Option, None, Some, if◌then◌else◌}
use Rattle.std.specs.List.{list_any}
use Rattle.syntax_lex.specs.declared.token.Base.{Base}
use Rattle.syntax_lex.specs.declared.token.Base.TheVariants.{Binary, Octal, Decimal, Hexadecimal}
use Rattle.syntax_lex.specs.declared.token.DocStyle.{DocStyle}
use Rattle.syntax_lex.specs.declared.token.LiteralKind.{LiteralKind}
use Rattle.syntax_lex.specs.declared.token.LiteralKind.TheVariants as literals
use Rattle.syntax_parse.specs.Doc.{block_text, hashes_wanted, line_text}
use Rattle.syntax_parse.specs.Escapes.{escape_fault}
use Rattle.syntax_parse.specs.declared.fault.BadToken.{BadToken}
use Rattle.syntax_parse.specs.declared.fault.BadToken.TheVariants as bad

-- whether a byte is a decimal digit that a base does not have
abbrev pub is_foreign_digit : Base → ℕ → Bool
is_foreign_digit Binary byte = nat_le 50 byte && nat_le byte 57
is_foreign_digit Octal byte = nat_le 56 byte && nat_le byte 57
is_foreign_digit Decimal byte = false
is_foreign_digit Hexadecimal byte = false

-- whether a text has a decimal digit that a base does not have
abbrev pub foreign_digit : Base → (text : List ℕ) → Bool
foreign_digit base text = list_any (is_foreign_digit base) text

-- whether a text has a byte of a character beyond ASCII
abbrev pub beyond_ascii : (text : List ℕ) → Bool
beyond_ascii text = list_any (nat_le 128) text

-- whether a text has a null
abbrev pub has_null : (text : List ℕ) → Bool
has_null text = list_any (λ byte. byte == 0) text

-- whether a text begins with a line feed
abbrev pub begins_with_feed : (text : List ℕ) → Bool
begins_with_feed [] = false
begins_with_feed (byte ∷ bytes) = byte == 10

-- whether a text has a carriage return with no line feed right after it
abbrev pub bare_return : (text : List ℕ) → Bool
bare_return [] = false
bare_return (byte ∷ bytes) = ((byte == 13) && not (begins_with_feed bytes)) || bare_return bytes

-- the same for a text that a line feed may follow: a carriage return at its end does not count
abbrev pub inner_return : (text : List ℕ) → Bool
inner_return [] = false
inner_return (byte ∷ []) = false
inner_return (byte ∷ next ∷ bytes) = ((byte == 13) && not (next == 10)) || inner_return (next ∷ bytes)

-- a literal without its suffix, which begins at byte `place`
abbrev pub before_suffix : (place : ℕ) → (text : List ℕ) → List ℕ
before_suffix place text = take (min place (length text)) text

-- this fault, if something is wrong
abbrev pub fault_if : (wrong : Bool) → BadToken → Option BadToken
fault_if wrong why = if wrong then Some why else None

-- what is wrong with a text that holds a bare carriage return
abbrev pub return_fault : (text : List ℕ) → Option BadToken
return_fault text = fault_if (bare_return text) bad.BareReturn

-- what is wrong with a comment whose text would need more than 255 hashes in a raw string
abbrev pub hashes_fault : (text : List ℕ) → Option BadToken
hashes_fault text = fault_if (nat_lt 255 (hashes_wanted text)) bad.TooManyHashes

-- the first of two faults that is there
abbrev pub first_of : Option BadToken → Option BadToken → Option BadToken
first_of None other = other
first_of (Some why) other = Some why

-- what is wrong inside of a documenting comment of one line
abbrev pub line_fault : DocStyle → (text : List ℕ) → Option BadToken
line_fault style text = first_of (fault_if (inner_return text) bad.BareReturn) (hashes_fault (line_text style text))

-- what is wrong inside of a documenting block comment
abbrev pub block_fault : DocStyle → (text : List ℕ) → Option BadToken
block_fault style text = first_of (return_fault text) (hashes_fault (block_text style text))

-- what is wrong with a text in quotes, whose first quote ends `opening` bytes from its start
abbrev pub quoted_fault : LiteralKind → (opening : ℕ) → (text : List ℕ) → Option BadToken
quoted_fault kind opening text = first_of (return_fault text) (escape_fault kind opening text)

-- what is wrong with the text of a literal of bytes
abbrev pub bytes_fault : (text : List ℕ) → Option BadToken
bytes_fault text = if beyond_ascii text then Some bad.BeyondAscii else return_fault text

-- what is wrong inside of a literal without its suffix
abbrev pub inside_fault : LiteralKind → (text : List ℕ) → Option BadToken
inside_fault (literals.Int base empty_int) text = fault_if (foreign_digit base text) bad.ForeignDigit
inside_fault (literals.Float base empty_exponent) text = None
inside_fault (literals.Char terminated) text = quoted_fault (literals.Char terminated) 1 text
inside_fault (literals.Byte terminated) text = first_of (bytes_fault text) (escape_fault (literals.Byte terminated) 2 text)
inside_fault (literals.Str terminated) text = quoted_fault (literals.Str terminated) 1 text
inside_fault (literals.ByteStr terminated) text = first_of (bytes_fault text) (escape_fault (literals.ByteStr terminated) 2 text)
inside_fault (literals.CStr terminated) text = quoted_fault (literals.CStr terminated) 2 text
inside_fault (literals.RawStr n_hashes) text = return_fault text
inside_fault (literals.RawByteStr n_hashes) text = bytes_fault text
inside_fault (literals.RawCStr n_hashes) text = first_of (return_fault text) (fault_if (has_null text) bad.NullInCStr)

-- whether a literal may have a suffix: a number
abbrev pub takes_suffix : LiteralKind → Bool
takes_suffix (literals.Int base empty_int) = true
takes_suffix (literals.Float base empty_exponent) = true
takes_suffix _ = false

-- what is wrong with the suffix of a literal, which begins at byte `place`
abbrev pub suffix_fault : LiteralKind → (place : ℕ) → (text : List ℕ) → Option BadToken
suffix_fault kind place text = fault_if (takes_suffix kind && nat_lt 255 (length (drop place text))) bad.SuffixTooLong

-- what is wrong with a literal whose suffix begins at a byte: inside of it, or with its suffix
abbrev pub literal_fault : LiteralKind → (place : ℕ) → (text : List ℕ) → Option BadToken
literal_fault kind place text = first_of (inside_fault kind (before_suffix place text)) (suffix_fault kind place text)
