-- The literal of a text by a scan: where its value is, and which suffix follows.
use Rattle.std.specs.Prelude.{ℕ, ◌+◌, ◌-◌, ◌<◌, ◌≤◌, Bool, true, false, ◌||◌, List, [], length, drop, slice_range, Option, None, Some, unwrap_or, codes, bytes_eq, if◌then◌else◌}
use Rattle.std.specs.Str.{IsCharBoundary}
use Rattle.tt_base.specs.declared.fault.TtFault.{TtFault}
use Rattle.tt_base.specs.declared.fault.TtFault.TheVariants as fault
use Rattle.tt_base.specs.declared.literal.LitKind.{LitKind}
use Rattle.tt_base.specs.declared.literal.LitKind.TheVariants as lit
use Rattle.tt_base.specs.declared.scan.LiteralScan.{LiteralScan}
use Rattle.tt_base.specs.declared.scan.LiteralScan.TheVariants as scan

-- the kind of a scan's literal; 0 hashes if there is no number of them
abbrev pub kind_told : LiteralScan → LitKind
kind_told scan.Int = lit.Integer
kind_told scan.Float = lit.Float
kind_told (scan.Char terminated) = lit.Char
kind_told (scan.Byte terminated) = lit.Byte
kind_told (scan.Str terminated) = lit.Str
kind_told (scan.ByteStr terminated) = lit.ByteStr
kind_told (scan.CStr terminated) = lit.CStr
kind_told (scan.RawStr n_hashes) = lit.StrRaw (unwrap_or n_hashes 0)
kind_told (scan.RawByteStr n_hashes) = lit.ByteStrRaw (unwrap_or n_hashes 0)
kind_told (scan.RawCStr n_hashes) = lit.CStrRaw (unwrap_or n_hashes 0)

-- the number of bytes before the value
abbrev pub opening_len : LiteralScan → ℕ
opening_len scan.Int = 0
opening_len scan.Float = 0
opening_len (scan.Char terminated) = 1
opening_len (scan.Byte terminated) = 2
opening_len (scan.Str terminated) = 1
opening_len (scan.ByteStr terminated) = 2
opening_len (scan.CStr terminated) = 2
opening_len (scan.RawStr n_hashes) = 2 + unwrap_or n_hashes 0
opening_len (scan.RawByteStr n_hashes) = 3 + unwrap_or n_hashes 0
opening_len (scan.RawCStr n_hashes) = 3 + unwrap_or n_hashes 0

-- one quote, if there is one
abbrev pub quote_len : Bool → ℕ
quote_len true = 1
quote_len false = 0

-- the number of bytes after the value and before the suffix
abbrev pub closing_len : LiteralScan → ℕ
closing_len scan.Int = 0
closing_len scan.Float = 0
closing_len (scan.Char terminated) = quote_len terminated
closing_len (scan.Byte terminated) = quote_len terminated
closing_len (scan.Str terminated) = quote_len terminated
closing_len (scan.ByteStr terminated) = quote_len terminated
closing_len (scan.CStr terminated) = quote_len terminated
closing_len (scan.RawStr n_hashes) = 1 + unwrap_or n_hashes 0
closing_len (scan.RawByteStr n_hashes) = 1 + unwrap_or n_hashes 0
closing_len (scan.RawCStr n_hashes) = 1 + unwrap_or n_hashes 0

-- the suffix begins in the text, the value and the quotes around it fit before it, and no character is cut
pub record FitsText (text : List ℕ) (found : LiteralScan) (place : ℕ) : Type 0 where
  pub suffix_starts : IsCharBoundary text place
  pub room : opening_len found + closing_len found ≤ place
  pub value_starts : IsCharBoundary text (opening_len found)
  pub value_ends : IsCharBoundary text (place - closing_len found)

-- the scan, if there is one, fits the text
abbrev pub ScanFits : List ℕ → Option (LiteralScan × ℕ) → Type 0
ScanFits text None = Unit {0}
ScanFits text (Some (found, place)) = FitsText text found place

-- the parts of a literal
pub record LiteralParts : Type 0 where
  pub kind : LitKind
  pub value : List ℕ
  pub suffix : List ℕ

-- the whole text, as no literal
abbrev pub no_literal : List ℕ → LiteralParts
no_literal text = record { kind = lit.Err tt; value = text; suffix = [] }

-- the suffix: all that follows, or nothing if that is `_`
abbrev pub suffix_told : List ℕ → List ℕ
suffix_told behind = if bytes_eq behind (codes "_") then [] else behind

-- whether a kind may have a suffix: a number
abbrev pub is_number : LitKind → Bool
is_number lit.Integer = true
is_number lit.Float = true
is_number lit.Byte = false
is_number lit.Char = false
is_number lit.Str = false
is_number (lit.StrRaw count) = false
is_number lit.ByteStr = false
is_number (lit.ByteStrRaw count) = false
is_number lit.CStr = false
is_number (lit.CStrRaw count) = false
is_number (lit.Err unit) = false

-- the kind with its value and that suffix; no literal if the kind is no number and the suffix is not empty
abbrev pub told : List ℕ → LitKind → (value suffix : List ℕ) → LiteralParts
told text kind value suffix =
    if is_number kind || bytes_eq suffix [] then record { kind = kind; value = value; suffix = suffix } else no_literal text

-- the parts of the literal by a scan; no literal if there is no scan
abbrev pub parts_told : List ℕ → Option (LiteralScan × ℕ) → LiteralParts
parts_told text None = no_literal text
parts_told text (Some (found, place)) =
    told text (kind_told found) (slice_range text (opening_len found) (place - closing_len found)) (suffix_told (drop place text))

-- why a text is refused: the scan does not fit, or otherwise the suffix has more than 255 bytes, or otherwise memory runs out
abbrev pub IsScanFault : List ℕ → Option (LiteralScan × ℕ) → TtFault → Type 0
IsScanFault text found fault.BadScan = ScanFits text found → ⊥
IsScanFault text found fault.SuffixTooLong = ScanFits text found × (255 < length (parts_told text found).suffix)
IsScanFault text found fault.Memory = ScanFits text found × (length (parts_told text found).suffix ≤ 255)
IsScanFault text found fault.NotOneSubtree = ⊥
IsScanFault text found fault.NoSuchPlace = ⊥
IsScanFault text found fault.NotALeaf = ⊥
IsScanFault text found fault.TooManyTokens = ⊥
IsScanFault text found fault.TooManySpanParts = ⊥
IsScanFault text found fault.TooManySymbols = ⊥
IsScanFault text found fault.TooManyBytes = ⊥
IsScanFault text found fault.PointsSpent = ⊥
