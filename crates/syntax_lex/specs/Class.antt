-- Classes of characters, each by its code.
use Rattle.std.specs.Prelude.{ℕ, Bool, ◌&&◌, ◌||◌, ◌==◌, nat_le}
use Rattle.unicode_ident.specs.Ident.{is_xid_start, is_xid_continue}
use Rattle.ucd_emoji.specs.Binary.{is_emoji}
use Rattle.syntax_lex.specs.declared.class.CharClass.{CharClass}
use Rattle.syntax_lex.specs.declared.class.CharClass.TheVariants as class

-- white space: the property Pattern_White_Space
abbrev pub is_whitespace : ℕ → Bool
is_whitespace c = (nat_le 9 c && nat_le c 13) || (c == 32) || (c == 0x85) || (c == 0x200e) || (c == 0x200f) || (c == 0x2028) || (c == 0x2029)

-- the first character of an identifier: XID_Start or `_`
abbrev pub is_id_start : ℕ → Bool
is_id_start c = is_xid_start c || (c == 95)

-- the other characters of an identifier: XID_Continue
abbrev pub is_id_continue : ℕ → Bool
is_id_continue c = is_xid_continue c

-- an emoji beyond ASCII
abbrev pub is_emoji_mark : ℕ → Bool
is_emoji_mark c = nat_le 0x80 c && is_emoji c

-- the other characters of an identifier with emoji: the same, emoji, and the joiner U+200D
abbrev pub is_odd_rest : ℕ → Bool
is_odd_rest c = is_id_continue c || is_emoji_mark c || (c == 0x200d)

-- `0` to `9`
abbrev pub is_decimal : ℕ → Bool
is_decimal c = nat_le 48 c && nat_le c 57

-- `0` to `9`, `a` to `f`, `A` to `F`
abbrev pub is_hex : ℕ → Bool
is_hex c = (nat_le 48 c && nat_le c 57) || (nat_le 97 c && nat_le c 102) || (nat_le 65 c && nat_le c 70)

-- `_`
abbrev pub is_underscore : ℕ → Bool
is_underscore c = c == 95

-- a digit or `_`
abbrev pub is_decimal_part : ℕ → Bool
is_decimal_part c = is_decimal c || (c == 95)

-- a digit of base 16 or `_`
abbrev pub is_hex_part : ℕ → Bool
is_hex_part c = is_hex c || (c == 95)

-- the characters of a class
abbrev pub passes : CharClass → ℕ → Bool
passes class.Whitespace = is_whitespace
passes class.IdContinue = is_id_continue
passes class.OddRest = is_odd_rest
passes class.Underscore = is_underscore
passes class.DecimalPart = is_decimal_part
passes class.HexPart = is_hex_part
