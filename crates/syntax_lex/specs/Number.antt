-- Numbers: their kinds, and what follows them.
use Rattle.std.specs.Prelude.{ℕ, Bool, true, false, ◌&&◌, ◌||◌, ◌==◌, not, List, if◌then◌else◌}
use Rattle.syntax_lex.specs.Class.{is_decimal, is_hex, is_decimal_part, is_id_start, is_underscore, passes}
use Rattle.syntax_lex.specs.Front.{first, second, skip, behind}
use Rattle.syntax_lex.specs.declared.class.CharClass.{CharClass}
use Rattle.syntax_lex.specs.declared.class.CharClass.TheVariants as class
use Rattle.syntax_lex.specs.declared.token.Base.{Base}
use Rattle.syntax_lex.specs.declared.token.Base.TheVariants.{Binary, Octal, Decimal, Hexadecimal}
use Rattle.syntax_lex.specs.declared.token.LiteralKind.{LiteralKind}
use Rattle.syntax_lex.specs.declared.token.LiteralKind.TheVariants.{Int, Float}

-- the base for the first digit and the character after it: `0b`, `0o`, `0x`, or else ten
abbrev pub base_of : (digit letter : ℕ) → Base
base_of digit letter =
    if digit == 48 then (if letter == 98 then Binary else (if letter == 111 then Octal else (if letter == 120 then Hexadecimal else Decimal))) else Decimal

-- whether a base has a letter
abbrev pub has_letter : Base → Bool
has_letter Binary = true
has_letter Octal = true
has_letter Decimal = false
has_letter Hexadecimal = true

-- a digit of a base: those of base 2 and 8 are lexed as decimal ones
abbrev pub is_digit_of : Base → ℕ → Bool
is_digit_of Binary = is_decimal
is_digit_of Octal = is_decimal
is_digit_of Decimal = is_decimal
is_digit_of Hexadecimal = is_hex

-- digits of a base, with `_`
abbrev pub class_of : Base → CharClass
class_of Binary = class.DecimalPart
class_of Octal = class.DecimalPart
class_of Decimal = class.DecimalPart
class_of Hexadecimal = class.HexPart

-- whether a digit comes first, after any `_`
abbrev pub has_digit : Base → List ℕ → Bool
has_digit base cs = is_digit_of base (first (behind is_underscore cs))

-- whether a point at the front belongs to a number: no other point and no name follows it
abbrev pub begins_fraction : List ℕ → Bool
begins_fraction cs = (first cs == 46) && not (second cs == 46) && not (is_id_start (second cs))

-- whether the first character is an `e` or an `E`
abbrev pub begins_exponent : List ℕ → Bool
begins_exponent cs = (first cs == 101) || (first cs == 69)

-- the rest after a `+` or a `-`, if one comes first
abbrev pub behind_sign : List ℕ → List ℕ
behind_sign cs = if (first cs == 43) || (first cs == 45) then skip cs else cs

-- A number that is read up to its exponent: an `e` makes it a float, with a sign or none. The exponent is empty if no digits follow.
unfoldable pub with_exponent : Base → LiteralKind → List ℕ → LiteralKind × List ℕ
with_exponent base kind cs =
    if begins_exponent cs then (Float base (not (has_digit Decimal (behind_sign (skip cs)))), behind is_decimal_part (behind_sign (skip cs)))
    else (kind, cs)

-- A number that is read up to its point: a point makes it a float, with digits and an exponent, or with nothing after it.
unfoldable pub with_fraction : Base → List ℕ → LiteralKind × List ℕ
with_fraction base cs =
    if begins_fraction cs
    then (if is_decimal (second cs) then with_exponent base (Float base false) (behind is_decimal_part (skip cs)) else (Float base false, skip cs))
    else with_exponent base (Int base false) cs

-- A number after its first digit. In base ten: digits, fraction and exponent. In other bases the same after the letter, but
-- without a digit there it is an empty int.
unfoldable pub number : (digit : ℕ) → List ℕ → LiteralKind × List ℕ
number digit cs =
    let base = base_of digit (first cs) in
    if has_letter base
    then (if has_digit base (skip cs) then with_fraction base (behind (passes (class_of base)) (skip cs)) else (Int base true, behind (passes (class_of base)) (skip cs)))
    else with_fraction base (behind is_decimal_part cs)
