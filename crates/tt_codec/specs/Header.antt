-- How the bytes of a header below the top are written, in the first of four formats that can hold it, and read.
use Rattle.std.specs.Borrow.{Bor}
use Rattle.std.specs.Int.{w16, to_le_bytes}
use Rattle.std.specs.Prelude.{ℕ, suc, ◌+◌, ◌-◌, ◌*◌, ◌/◌, ◌%◌, ◌^◌, ◌<◌, Bool, false, ◌&&◌, ◌==◌, nat_le, if◌then◌else◌, List, [], ◌∷◌, ◌++◌, nat_lt, Option, Some, None, ◌≡◌, MatchOption}
use Rattle.tt_base.specs.declared.delimiter.Delimiter.{Delimiter}
use Rattle.tt_codec.specs.Kinds.{delimiter_number, delimiter_kind_from}
use Rattle.tt_codec.specs.Read.{Read, ◌>>=◌, byte_at, half_at, word_at}
use Rattle.tt_codec.specs.SpanNumbers.{SpanFits, word, span_bytes, span_numbers, span_at}
use Rattle.tt_codec.specs.declared.entry.Entry.TheVariants.{Header as of_header}
use Rattle.tt_codec.specs.declared.entry.Entry.{Entry}
use Rattle.tt_codec.specs.declared.entry.HeaderEntry.{HeaderEntry}
use Rattle.tt_codec.specs.declared.span.SpanNumbers.{SpanNumbers}

-- the number of bytes from the start of the open span to the start of the close span
abbrev pub distance : HeaderEntry → ℕ
distance it = it.closing.start - it.opening.start

-- the close span starts at most `most` bytes after the start of the open span, and not before it
abbrev pub is_within : HeaderEntry → ℕ → Bool
is_within it most = nat_le it.opening.start it.closing.start && nat_le (distance it) most

-- the first three formats can hold the count and the kind: one byte and two bits
abbrev pub is_short : HeaderEntry → Bool
is_short it = nat_le it.len 255 && nat_le (delimiter_number it.kind) 3

-- short, with one part for both spans, and one byte for the number of bytes
abbrev pub is_small : HeaderEntry → Bool
is_small it = is_short it && it.opening.part == it.closing.part && nat_le it.child_bytes 255

-- small, with two spans of length 1 and 11 bits for the distance
abbrev pub has_format_1 : HeaderEntry → Bool
has_format_1 it = is_small it && it.opening.length == 1 && it.closing.length == 1 && is_within it 2047

-- small, with two spans of the same length and 3 bits for the distance
abbrev pub has_format_2 : HeaderEntry → Bool
has_format_2 it = is_small it && it.opening.length == it.closing.length && is_within it 7

-- short, with two spans of the same length, 12 bits for the number of bytes, 8 for the distance and 7 for the index of the close part
abbrev pub has_format_3 : HeaderEntry → Bool
has_format_3 it =
    is_short it && nat_le it.child_bytes 4095 && it.opening.length == it.closing.length && is_within it 255 && nat_le it.closing.part 127

-- the span has the 8 low bits of the distance in the place of its length; the others come after the kind
abbrev pub format_1 : HeaderEntry → List ℕ
format_1 it =
    span_bytes false 0 (record { part = it.opening.part; start = it.opening.start; length = distance it % 256 })
    ++ (delimiter_number it.kind * 8 + distance it / 256 * 32) ∷ it.len ∷ it.child_bytes ∷ []

-- the distance comes after the kind
abbrev pub format_2 : HeaderEntry → List ℕ
format_2 it = span_bytes false 0 it.opening ++ (1 + delimiter_number it.kind * 8 + distance it * 32) ∷ it.len ∷ it.child_bytes ∷ []

-- the 3 low bits of the close part's index come after the kind, and the 4 others before the number of bytes
abbrev pub format_3 : HeaderEntry → List ℕ
format_3 it =
    span_bytes false 0 it.opening
    ++ (2 + delimiter_number it.kind * 8 + it.closing.part % 8 * 32) ∷ distance it ∷ it.len ∷ to_le_bytes w16 (it.child_bytes * 16 + it.closing.part / 8)

-- all numbers in their longest form; heavy demands that form for both spans too
abbrev pub format_4 : (heavy : Bool) → HeaderEntry → List ℕ
format_4 heavy it =
    span_bytes heavy 0 it.opening ++ (5 + delimiter_number it.kind * 8) ∷ span_bytes heavy 0 it.closing ++ word it.len ++ word it.child_bytes

-- the first format that can hold the header
unfoldable pub header_bytes : HeaderEntry → List ℕ
header_bytes it =
    if has_format_1 it then format_1 it
    else if has_format_2 it then format_2 it
    else if has_format_3 it then format_3 it
    else format_4 false it

-- the numbers of a header are small enough
pub record HeaderFits (it : HeaderEntry) : Type 0 where
  pub opening : SpanFits it.opening
  pub closing : SpanFits it.closing
  pub len : it.len < 2 ^ 32
  pub child_bytes : it.child_bytes < 2 ^ 32

-- the top's header in numbers: its two parts have the indices `part` and `part + 1`
abbrev pub top_entry : (part : ℕ) → Delimiter → (len child_bytes : ℕ) → HeaderEntry
top_entry part delimiter len child_bytes =
    record {
      opening = span_numbers part delimiter.open_span;
      closing = span_numbers (suc part) delimiter.close;
      kind = delimiter.kind;
      len = len;
      child_bytes = child_bytes;
    }

-- ---- reading

-- the code read this header: the same numbers, and the same bytes after it
abbrev pub IsHeaderRead : Read Entry → Option (HeaderEntry × Bor (List ℕ)) → Type 0
IsHeaderRead read result = MatchOption result (read ≡ None) (λ found. read ≡ Some (of_header found.0, found.1.now))

-- the offset that is `distance` after a start, if four bytes can hold it
unfoldable pub start_behind : (start distance : ℕ) → Option ℕ
start_behind start distance = if nat_lt (start + distance) (2 ^ 32) then Some (start + distance) else None

-- a header of the first format, after its span and one byte are read; `high` has the high bits of that byte
abbrev pub format_1_at : (high : ℕ) → SpanNumbers → List ℕ → Read Entry
format_1_at high numbers rest =
    delimiter_kind_from (high % 4) >>= λ kind. start_behind numbers.start (numbers.length + high / 4 * 256) >>= λ close.
    byte_at rest >>= λ len. byte_at len.1 >>= λ child_bytes.
    Some (
      of_header
          (record {
            opening = record { part = numbers.part; start = numbers.start; length = 1 };
            closing = record { part = numbers.part; start = close; length = 1 };
            kind = kind;
            len = len.0;
            child_bytes = child_bytes.0;
          }),
      child_bytes.1,
    )

-- the same for the second format
abbrev pub format_2_at : (high : ℕ) → SpanNumbers → List ℕ → Read Entry
format_2_at high numbers rest =
    delimiter_kind_from (high % 4) >>= λ kind. start_behind numbers.start (high / 4) >>= λ close.
    byte_at rest >>= λ len. byte_at len.1 >>= λ child_bytes.
    Some (
      of_header
          (record {
            opening = numbers;
            closing = record { part = numbers.part; start = close; length = numbers.length };
            kind = kind;
            len = len.0;
            child_bytes = child_bytes.0;
          }),
      child_bytes.1,
    )

-- the same for the third format
abbrev pub format_3_at : (high : ℕ) → SpanNumbers → List ℕ → Read Entry
format_3_at high numbers rest =
    delimiter_kind_from (high % 4) >>= λ kind. byte_at rest >>= λ distance. start_behind numbers.start distance.0 >>= λ close.
    byte_at distance.1 >>= λ len. half_at len.1 >>= λ half.
    Some (
      of_header
          (record {
            opening = numbers;
            closing = record { part = high / 4 + half.0 % 16 * 8; start = close; length = numbers.length };
            kind = kind;
            len = len.0;
            child_bytes = half.0 / 16;
          }),
      half.1,
    )

-- the same for the fourth format
abbrev pub format_4_at : (high : ℕ) → SpanNumbers → List ℕ → Read Entry
format_4_at high numbers rest =
    delimiter_kind_from high >>= λ kind. span_at rest >>= λ closing. word_at closing.1 >>= λ len. word_at len.1 >>= λ child_bytes.
    Some (of_header (record { opening = numbers; closing = closing.0.numbers; kind = kind; len = len.0; child_bytes = child_bytes.0 }), child_bytes.1)
