-- The literals of short texts by a scan, and scans that do not fit a text.
use Rattle.std.proofs.Common.{◌≡◌, [], ◌∷◌, codes, refl, true, false, Some, None, lit<, lit≤, not-le_of_lt}
use Rattle.tt_base.specs.declared.literal.LitKind.TheVariants as lit
use Rattle.tt_base.specs.declared.scan.LiteralScan.TheVariants as scan
use Rattle.tt_base.specs.Scan.{parts_told, no_literal, FitsText}

number : parts_told (codes "1u8") (Some (scan.Int, 1)) ≡ record { kind = lit.Integer; value = codes "1"; suffix = codes "u8" }
number = refl

raw_string : parts_told (codes "r#\"a\"#") (Some (scan.RawStr (Some 1), 6)) ≡ record { kind = lit.StrRaw 1; value = codes "a"; suffix = [] }
raw_string = refl

raw_c_string : parts_told (codes "cr##\"a\"##") (Some (scan.RawCStr (Some 2), 9)) ≡ record { kind = lit.CStrRaw 2; value = codes "a"; suffix = [] }
raw_c_string = refl

character_with_suffix : parts_told (codes "'a'u8") (Some (scan.Char true, 3)) ≡ no_literal (codes "'a'u8")
character_with_suffix = refl

byte : parts_told (codes "b'x'") (Some (scan.Byte true, 4)) ≡ record { kind = lit.Byte; value = codes "x"; suffix = [] }
byte = refl

open_string : parts_told (codes "\"ab") (Some (scan.Str false, 3)) ≡ record { kind = lit.Str; value = codes "ab"; suffix = [] }
open_string = refl

c_string : parts_told (codes "c\"a\"") (Some (scan.CStr true, 4)) ≡ record { kind = lit.CStr; value = codes "a"; suffix = [] }
c_string = refl

byte_string : parts_told (codes "b\"a\"") (Some (scan.ByteStr true, 4)) ≡ record { kind = lit.ByteStr; value = codes "a"; suffix = [] }
byte_string = refl

raw_byte_string : parts_told (codes "br#\"a\"#") (Some (scan.RawByteStr (Some 1), 7)) ≡ record { kind = lit.ByteStrRaw 1; value = codes "a"; suffix = [] }
raw_byte_string = refl

character : parts_told (codes "'a'") (Some (scan.Char true, 3)) ≡ record { kind = lit.Char; value = codes "a"; suffix = [] }
character = refl

float : parts_told (codes "1.0f32") (Some (scan.Float, 3)) ≡ record { kind = lit.Float; value = codes "1.0"; suffix = codes "f32" }
float = refl

underscore : parts_told (codes "1_") (Some (scan.Int, 1)) ≡ record { kind = lit.Integer; value = codes "1"; suffix = [] }
underscore = refl

-- without a closing quote, the value reaches up to the suffix
open_character : parts_told (codes "'a") (Some (scan.Char false, 2)) ≡ record { kind = lit.Char; value = codes "a"; suffix = [] }
open_character = refl

open_byte : parts_told (codes "b'a") (Some (scan.Byte false, 3)) ≡ record { kind = lit.Byte; value = codes "a"; suffix = [] }
open_byte = refl

open_byte_string : parts_told (codes "b\"a") (Some (scan.ByteStr false, 3)) ≡ record { kind = lit.ByteStr; value = codes "a"; suffix = [] }
open_byte_string = refl

open_c_string : parts_told (codes "c\"a") (Some (scan.CStr false, 3)) ≡ record { kind = lit.CStr; value = codes "a"; suffix = [] }
open_c_string = refl

-- without a number of hashes, there are 0
raw_string_of_no_count : parts_told (codes "r\"a\"") (Some (scan.RawStr None, 4)) ≡ record { kind = lit.StrRaw 0; value = codes "a"; suffix = [] }
raw_string_of_no_count = refl

raw_byte_string_of_no_count : parts_told (codes "br\"a\"") (Some (scan.RawByteStr None, 5)) ≡ record { kind = lit.ByteStrRaw 0; value = codes "a"; suffix = [] }
raw_byte_string_of_no_count = refl

raw_c_string_of_no_count : parts_told (codes "cr\"a\"") (Some (scan.RawCStr None, 5)) ≡ record { kind = lit.CStrRaw 0; value = codes "a"; suffix = [] }
raw_c_string_of_no_count = refl

-- a suffix after a literal that is no number
string_with_suffix : parts_told (codes "\"a\"x") (Some (scan.Str true, 3)) ≡ no_literal (codes "\"a\"x")
string_with_suffix = refl

byte_with_suffix : parts_told (codes "b'a'x") (Some (scan.Byte true, 4)) ≡ no_literal (codes "b'a'x")
byte_with_suffix = refl

byte_string_with_suffix : parts_told (codes "b\"a\"x") (Some (scan.ByteStr true, 4)) ≡ no_literal (codes "b\"a\"x")
byte_string_with_suffix = refl

c_string_with_suffix : parts_told (codes "c\"a\"x") (Some (scan.CStr true, 4)) ≡ no_literal (codes "c\"a\"x")
c_string_with_suffix = refl

raw_string_with_suffix : parts_told (codes "r\"a\"x") (Some (scan.RawStr (Some 0), 4)) ≡ no_literal (codes "r\"a\"x")
raw_string_with_suffix = refl

raw_byte_string_with_suffix : parts_told (codes "br\"a\"x") (Some (scan.RawByteStr (Some 0), 5)) ≡ no_literal (codes "br\"a\"x")
raw_byte_string_with_suffix = refl

raw_c_string_with_suffix : parts_told (codes "cr\"a\"x") (Some (scan.RawCStr (Some 0), 5)) ≡ no_literal (codes "cr\"a\"x")
raw_c_string_with_suffix = refl

-- an underscore is no suffix there either
string_with_underscore : parts_told (codes "\"a\"_") (Some (scan.Str true, 3)) ≡ record { kind = lit.Str; value = codes "a"; suffix = [] }
string_with_underscore = refl

no_scan : parts_told (codes "x") None ≡ no_literal (codes "x")
no_scan = refl

place_past_the_text : FitsText (codes "1") scan.Int 2 → ⊥
place_past_the_text fits = not-le_of_lt (lit< tt) fits.suffix_starts.0

place_in_a_character : FitsText (195 ∷ 169 ∷ []) scan.Int 1 → ⊥
place_in_a_character fits = not-le_of_lt (lit< tt) (fits.suffix_starts.1 (lit< tt) (lit≤ tt))

one_quote_twice : FitsText (codes "'") (scan.Char true) 1 → ⊥
one_quote_twice fits = not-le_of_lt (lit< tt) fits.room

no_hashes_counted : FitsText (codes "r\"") (scan.RawStr None) 2 → ⊥
no_hashes_counted fits = not-le_of_lt (lit< tt) fits.room

raw_string_fits : FitsText (codes "r#\"a\"#") (scan.RawStr (Some 1)) 6
raw_string_fits = record {
  suffix_starts = (lit≤ tt, λ h. absurd (not-le_of_lt h (lit≤ tt)));
  room = lit≤ tt;
  value_starts = (lit≤ tt, λ h wide. absurd (not-le_of_lt (lit< tt) wide));
  value_ends = (lit≤ tt, λ h wide. absurd (not-le_of_lt (lit< tt) wide));
}
