-- What may be between quotes: characters, and escapes as in the Rust reference.
use Rattle.std.specs.Prelude.{ℕ, ◌+◌, ◌-◌, ◌*◌, Bool, true, false, ◌&&◌, ◌||◌, ◌==◌, not, nat_le, nat_lt, List, [], ◌∷◌, length, take, drop, min, Option, None, Some, if◌then◌else◌}
use Rattle.syntax_lex.specs.declared.token.LiteralKind.{LiteralKind}
use Rattle.syntax_lex.specs.declared.token.LiteralKind.TheVariants as literals
use Rattle.syntax_parse.specs.declared.escapes.Reached.{Reached}
use Rattle.syntax_parse.specs.declared.escapes.Reached.TheVariants.{Plain, Backslash, Hex, HexDigit, Unicode, UnicodeOpen, UnicodeDigits, Wrong}
use Rattle.syntax_parse.specs.declared.fault.BadToken.{BadToken}
use Rattle.syntax_parse.specs.declared.fault.BadToken.TheVariants as bad

-- whether a literal holds one character
abbrev pub is_single : LiteralKind → Bool
is_single (literals.Char terminated) = true
is_single (literals.Byte terminated) = true
is_single _ = false

-- whether a literal takes `\u{..}`
abbrev pub takes_unicode : LiteralKind → Bool
takes_unicode (literals.Byte terminated) = false
takes_unicode (literals.ByteStr terminated) = false
takes_unicode _ = true

-- whether a literal takes `\x80` to `\xff`
abbrev pub takes_high : LiteralKind → Bool
takes_high (literals.Char terminated) = false
takes_high (literals.Str terminated) = false
takes_high _ = true

-- whether a literal takes a null
abbrev pub takes_null : LiteralKind → Bool
takes_null (literals.CStr terminated) = false
takes_null _ = true

-- the value of a digit of base 16
abbrev pub hex_digit : (byte : ℕ) → Option ℕ
hex_digit byte =
    if nat_le 48 byte && nat_le byte 57 then Some (byte - 48)
    else (if nat_le 97 byte && nat_le byte 102 then Some (byte - 87)
    else (if nat_le 65 byte && nat_le byte 70 then Some (byte - 55) else None))

-- whether a byte needs a backslash in a literal of one character: a quote, a line feed, a carriage return, a tab
abbrev pub wants_escape : (byte : ℕ) → Bool
wants_escape byte = (byte == 39) || ((byte == 10) || ((byte == 13) || (byte == 9)))

-- whether a backslash and this byte are an escape: `n`, `r`, `t`, a backslash, a quote
abbrev pub is_escape : (byte : ℕ) → Bool
is_escape byte = (byte == 110) || ((byte == 114) || ((byte == 116) || ((byte == 92) || ((byte == 39) || (byte == 34)))))

-- the state after a character, which may be a null
abbrev pub behind_one : LiteralKind → (null : Bool) → Reached
behind_one kind null = if null && not (takes_null kind) then Wrong bad.NullInCStr else Plain

-- the state after a byte outside of an escape
abbrev pub plain_step : LiteralKind → (byte : ℕ) → Reached
plain_step kind byte =
    if byte == 92 then Backslash
    else (if is_single kind && wants_escape byte then Wrong bad.WantsEscape else behind_one kind (byte == 0))

-- the state after a backslash and a byte; a string omits the end of a line
abbrev pub escape_step : LiteralKind → (byte : ℕ) → Reached
escape_step kind byte =
    if is_escape byte then Plain
    else (if byte == 48 then behind_one kind true
    else (if byte == 120 then Hex
    else (if (byte == 117) && takes_unicode kind then Unicode
    else (if ((byte == 10) || (byte == 13)) && not (is_single kind) then Plain
    else Wrong bad.UnknownEscape))))

-- the state after `\x` and a digit
abbrev pub hex_first : Option ℕ → Reached
hex_first None = Wrong bad.BadHexEscape
hex_first (Some digit) = HexDigit digit

-- the state after `\x` and two digits
abbrev pub hex_second : LiteralKind → (high : ℕ) → Option ℕ → Reached
hex_second kind high None = Wrong bad.BadHexEscape
hex_second kind high (Some low) =
    if nat_le 8 high && not (takes_high kind) then Wrong bad.HexEscapeTooLarge else behind_one kind ((high == 0) && (low == 0))

-- the state after `\u` and a brace
abbrev pub unicode_open : (byte : ℕ) → Reached
unicode_open byte = if byte == 123 then UnicodeOpen else Wrong bad.BadUnicodeEscape

-- the state after `\u{` and a digit
abbrev pub unicode_first : Option ℕ → Reached
unicode_first None = Wrong bad.BadUnicodeEscape
unicode_first (Some digit) = UnicodeDigits 1 digit

-- a number with one digit more; a number that is too large for a character stays as it is
abbrev pub with_digit : (value digit : ℕ) → ℕ
with_digit value digit = if nat_lt value 1114112 then value * 16 + digit else value

-- the state after one digit more; there are at most six
abbrev pub unicode_more : (count value : ℕ) → Option ℕ → Reached
unicode_more count value None = Wrong bad.BadUnicodeEscape
unicode_more count value (Some digit) = if nat_lt count 6 then UnicodeDigits (count + 1) (with_digit value digit) else Wrong bad.BadUnicodeEscape

-- whether a number is that of a character: no surrogate, and at most 10ffff
abbrev pub is_scalar : (value : ℕ) → Bool
is_scalar value = nat_lt value 55296 || (nat_le 57344 value && nat_lt value 1114112)

-- the state after the brace that closes `\u{..}`
abbrev pub unicode_end : LiteralKind → (value : ℕ) → Reached
unicode_end kind value = if is_scalar value then behind_one kind (value == 0) else Wrong bad.BadUnicodeEscape

-- the state after the digits of `\u{..}` and a byte: `_`, the closing brace, a digit
abbrev pub unicode_step : LiteralKind → (count value byte : ℕ) → Reached
unicode_step kind count value byte =
    if byte == 95 then UnicodeDigits count value
    else (if byte == 125 then unicode_end kind value else unicode_more count value (hex_digit byte))

-- the state after one byte more
abbrev pub step : LiteralKind → Reached → (byte : ℕ) → Reached
step kind Plain byte = plain_step kind byte
step kind Backslash byte = escape_step kind byte
step kind Hex byte = hex_first (hex_digit byte)
step kind (HexDigit high) byte = hex_second kind high (hex_digit byte)
step kind Unicode byte = unicode_open byte
step kind UnicodeOpen byte = unicode_first (hex_digit byte)
step kind (UnicodeDigits count value) byte = unicode_step kind count value byte
step kind (Wrong why) byte = Wrong why

-- whether a character begins with a byte: a byte that continues a character does not, and no byte within an escape does
abbrev pub begins_one : Reached → (byte : ℕ) → Bool
begins_one Plain byte = nat_lt byte 128 || nat_le 192 byte
begins_one _ byte = false

-- the number of characters with one more: 0, 1, or 2 for several
abbrev pub counted : (begins : Bool) → (count : ℕ) → ℕ
counted begins count = if begins then (if count == 0 then 1 else 2) else count

-- what is wrong with this number of characters
abbrev pub count_fault : LiteralKind → (count : ℕ) → Option BadToken
count_fault kind count =
    if is_single kind then (if count == 0 then Some bad.EmptyChar else (if count == 1 then None else Some bad.SeveralChars)) else None

-- what is wrong with a text that ends in this state
abbrev pub end_fault : LiteralKind → Reached → (count : ℕ) → Option BadToken
end_fault kind Plain count = count_fault kind count
end_fault kind Backslash count = Some bad.UnknownEscape
end_fault kind Hex count = Some bad.BadHexEscape
end_fault kind (HexDigit high) count = Some bad.BadHexEscape
end_fault kind Unicode count = Some bad.BadUnicodeEscape
end_fault kind UnicodeOpen count = Some bad.BadUnicodeEscape
end_fault kind (UnicodeDigits digits value) count = Some bad.BadUnicodeEscape
end_fault kind (Wrong why) count = Some why

-- what is wrong with a text, if the part before it led to this state
abbrev pub fault_behind : LiteralKind → Reached → (count : ℕ) → (text : List ℕ) → Option BadToken
fault_behind kind reached count [] = end_fault kind reached count
fault_behind kind reached count (byte ∷ bytes) = fault_behind kind (step kind reached byte) (counted (begins_one reached byte) count) bytes

-- a text without its last byte
abbrev pub without_last : (text : List ℕ) → List ℕ
without_last text = take (length text - 1) text

-- the text between the quotes of a literal without suffix, whose first quote ends `opening` bytes from its start
abbrev pub between_quotes : (opening : ℕ) → (text : List ℕ) → List ℕ
between_quotes opening text = drop (min opening (length (without_last text))) (without_last text)

-- what is wrong between the quotes of a literal without suffix
abbrev pub escape_fault : LiteralKind → (opening : ℕ) → (text : List ℕ) → Option BadToken
escape_fault kind opening text = fault_behind kind Plain 0 (between_quotes opening text)
