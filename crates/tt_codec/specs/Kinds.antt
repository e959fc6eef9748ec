-- The numbers of kinds, and back.
use Rattle.std.specs.Prelude.{ℕ, ◌==◌, if◌then◌else◌, Option, Some, None}
use Rattle.tt_base.specs.declared.delimiter.DelimiterKind.TheVariants.{Parenthesis, Brace, Bracket, Invisible, InvisibleOpaque}
use Rattle.tt_base.specs.declared.delimiter.DelimiterKind.{DelimiterKind}
use Rattle.tt_base.specs.declared.ident.IdentIsRaw.TheVariants.{No, Yes}
use Rattle.tt_base.specs.declared.ident.IdentIsRaw.{IdentIsRaw}
use Rattle.tt_base.specs.declared.literal.LitKind.TheVariants as lit
use Rattle.tt_base.specs.declared.literal.LitKind.{LitKind}
use Rattle.tt_base.specs.declared.punct.Spacing.TheVariants.{Alone, Joint, JointHidden}
use Rattle.tt_base.specs.declared.punct.Spacing.{Spacing}

-- the number of a kind of delimiter
abbrev pub delimiter_number : DelimiterKind → ℕ
delimiter_number Parenthesis = 0
delimiter_number Brace = 1
delimiter_number Bracket = 2
delimiter_number Invisible = 3
delimiter_number InvisibleOpaque = 4

-- the kind of delimiter with that number
abbrev pub delimiter_kind_from : ℕ → Option DelimiterKind
delimiter_kind_from number =
    if number == 0 then Some Parenthesis else if number == 1 then Some Brace
    else if number == 2 then Some Bracket else if number == 3 then Some Invisible
    else if number == 4 then Some InvisibleOpaque else None

-- the number of a spacing
abbrev pub spacing_number : Spacing → ℕ
spacing_number Alone = 0
spacing_number Joint = 1
spacing_number JointHidden = 2

-- the spacing with that number
abbrev pub spacing_from : ℕ → Option Spacing
spacing_from number =
    if number == 0 then Some Alone else if number == 1 then Some Joint else if number == 2 then Some JointHidden else None

-- 1 for a raw ident, otherwise 0
abbrev pub raw_number : IdentIsRaw → ℕ
raw_number No = 0
raw_number Yes = 1

-- raw for any number but 0
abbrev pub raw_from : ℕ → IdentIsRaw
raw_from number = if number == 0 then No else Yes

-- the number of a kind of literal
abbrev pub kind_number : LitKind → ℕ
kind_number lit.Byte = 0
kind_number lit.Char = 1
kind_number lit.Integer = 2
kind_number lit.Float = 3
kind_number lit.Str = 4
kind_number (lit.StrRaw count) = 5
kind_number lit.ByteStr = 6
kind_number (lit.ByteStrRaw count) = 7
kind_number lit.CStr = 8
kind_number (lit.CStrRaw count) = 9
kind_number (lit.Err unit) = 10

-- the number of hashes of a raw kind
abbrev pub hash_count : LitKind → Option ℕ
hash_count (lit.StrRaw count) = Some count
hash_count (lit.ByteStrRaw count) = Some count
hash_count (lit.CStrRaw count) = Some count
hash_count _ = None

-- the kind of literal with that number, if it is not a raw one
abbrev pub plain_kind_from : ℕ → Option LitKind
plain_kind_from number =
    if number == 0 then Some lit.Byte else if number == 1 then Some lit.Char else if number == 2 then Some lit.Integer
    else if number == 3 then Some lit.Float else if number == 4 then Some lit.Str else if number == 6 then Some lit.ByteStr
    else if number == 8 then Some lit.CStr else if number == 10 then Some (lit.Err tt) else None

-- the raw kind with that number, and with `count` hashes
abbrev pub raw_kind_from : (number count : ℕ) → Option LitKind
raw_kind_from number count =
    if number == 5 then Some (lit.StrRaw count) else if number == 7 then Some (lit.ByteStrRaw count)
    else if number == 9 then Some (lit.CStrRaw count) else None

-- the number of a kind of literal in the short form; only four kinds have one
abbrev pub short_number : LitKind → Option ℕ
short_number lit.Str = Some 3
short_number (lit.StrRaw count) = if count == 0 then Some 4 else if count == 1 then Some 11 else None
short_number lit.Integer = Some 12
short_number _ = None

-- the kind of literal with that number in the short form
abbrev pub short_kind_from : ℕ → Option LitKind
short_kind_from number =
    if number == 3 then Some lit.Str else if number == 4 then Some (lit.StrRaw 0)
    else if number == 11 then Some (lit.StrRaw 1) else if number == 12 then Some lit.Integer else None
