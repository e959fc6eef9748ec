-- The numbers of a span, in one, two or three words of four bytes, each with the lowest byte first.
use Rattle.std.specs.Borrow.{Bor}
use Rattle.std.specs.Int.{w32, to_le_bytes}
use Rattle.std.specs.Prelude.{ℕ, ◌+◌, ◌-◌, ◌*◌, ◌/◌, ◌%◌, ◌^◌, ◌<◌, Bool, ◌&&◌, ◌==◌, nat_le, if◌then◌else◌, List, ◌++◌, ◌≡◌, Option, Some, IsSomeAnd}
use Rattle.tt_base.specs.Span.{start_of, end_of}
use Rattle.tt_base.specs.declared.span.Span.{Span}
use Rattle.tt_codec.specs.declared.span.SpanNumbers.{SpanNumbers}
use Rattle.tt_codec.specs.Read.{Read, ◌>>=◌, word_at}
use Rattle.tt_codec.specs.declared.span.Spanned.{Spanned}

-- the four bytes of a number
abbrev pub word : ℕ → List ℕ
word n = to_le_bytes w32 n

-- from the lowest bit on: 2 extra bits, 4 low bits of the part, 8 of the length, one that says whether more follows, 17 of the start
abbrev pub first_word : (extra more : ℕ) → SpanNumbers → ℕ
first_word extra more numbers =
    extra + numbers.part % 16 * 2 ^ 2 + numbers.length % 256 * 2 ^ 6 + more * 2 ^ 14 + numbers.start % 2 ^ 17 * 2 ^ 15

-- the part's rest: all but the 4 bits in the first word
abbrev pub part_rest : SpanNumbers → ℕ
part_rest numbers = numbers.part / 16

-- the length's rest: all but the 8 bits in the first word
abbrev pub length_rest : SpanNumbers → ℕ
length_rest numbers = numbers.length / 256

-- the start's rest: all but the 17 bits in the first word
abbrev pub start_rest : SpanNumbers → ℕ
start_rest numbers = numbers.start / 2 ^ 17

-- whether all rests are 0
abbrev pub fits_one_word : SpanNumbers → Bool
fits_one_word numbers = part_rest numbers == 0 && length_rest numbers == 0 && start_rest numbers == 0

-- whether one more word can hold the rests: 11 bits for the part, 10 for the length and 10 for the start
abbrev pub fits_two_words : SpanNumbers → Bool
fits_two_words numbers = nat_le (part_rest numbers) 2047 && nat_le (length_rest numbers) 1023 && nat_le (start_rest numbers) 1023

-- a span in one word
abbrev pub light_span : ℕ → SpanNumbers → List ℕ
light_span extra numbers = word (first_word extra 0 numbers)

-- the second of two words: a bit that is 0, and the rests of the part, the length and the start
abbrev pub middle_word : SpanNumbers → ℕ
middle_word numbers = part_rest numbers * 2 + length_rest numbers * 2 ^ 12 + start_rest numbers * 2 ^ 22

-- a span in two words
abbrev pub middle_span : ℕ → SpanNumbers → List ℕ
middle_span extra numbers = word (first_word extra 1 numbers) ++ word (middle_word numbers)

-- the three rests as one number of 63 bits: 24 for the part, 24 for the length and 15 for the start
abbrev pub rests : SpanNumbers → ℕ
rests numbers = part_rest numbers + length_rest numbers * 2 ^ 24 + start_rest numbers * 2 ^ 48

-- a span in three words: the second has a bit that is 1 and the high bits of the rests as one number, the third its 32 low bits
abbrev pub heavy_span : ℕ → SpanNumbers → List ℕ
heavy_span extra numbers =
    word (first_word extra 1 numbers) ++ word (rests numbers / 2 ^ 32 * 2 + 1) ++ word (rests numbers % 2 ^ 32)

-- the shortest form that can hold the span, or three words if `heavy` demands them
unfoldable pub span_bytes : (heavy : Bool) (extra : ℕ) → SpanNumbers → List ℕ
span_bytes heavy extra numbers =
    if heavy then heavy_span extra numbers
    else if fits_one_word numbers then light_span extra numbers
    else if fits_two_words numbers then middle_span extra numbers
    else heavy_span extra numbers

-- the numbers of a span are small enough
pub record SpanFits (numbers : SpanNumbers) : Type 0 where
  pub part : numbers.part < 2 ^ 28
  pub start : numbers.start < 2 ^ 32
  pub length : numbers.length < 2 ^ 32

-- the numbers of a span whose part has that index
abbrev pub span_numbers : (part : ℕ) → Span → SpanNumbers
span_numbers part span = record { part = part; start = start_of span.range; length = end_of span.range - start_of span.range }

-- a span in three numbers
abbrev pub numbers_at : (part start length : ℕ) → SpanNumbers
numbers_at part start length = record { part = part; start = start; length = length }

-- ---- reading

-- the span of a first word and the three rests
abbrev pub spanned : (first part_rest length_rest start_rest : ℕ) → Spanned
spanned first part_rest length_rest start_rest =
    record {
      extra = first % 4;
      numbers = record {
        part = first / 2 ^ 2 % 16 + part_rest * 16;
        start = first / 2 ^ 15 + start_rest * 2 ^ 17;
        length = first / 2 ^ 6 % 256 + length_rest * 256;
      };
    }

-- the same with the rests as one number
abbrev pub from_rests : (first rests : ℕ) → Spanned
from_rests first rests = spanned first (rests % 2 ^ 24) (rests / 2 ^ 24 % 2 ^ 24) (rests / 2 ^ 48)

-- a span, after two words are read
abbrev pub after_two_words : (first second : ℕ) → List ℕ → Read Spanned
after_two_words first second rest =
    if second % 2 == 0 then Some (spanned first (second / 2 % 2048) (second / 2 ^ 12 % 1024) (second / 2 ^ 22), rest)
    else (word_at rest >>= λ third. Some (from_rests first (second / 2 * 2 ^ 32 + third.0), third.1))

-- a span, after one word is read
abbrev pub after_one_word : (first : ℕ) → List ℕ → Read Spanned
after_one_word first rest =
    if first / 2 ^ 14 % 2 == 0 then Some (spanned first 0 0 0, rest)
    else (word_at rest >>= λ second. after_two_words first second.0 second.1)

-- a span
unfoldable pub span_at : List ℕ → Read Spanned
span_at bytes = word_at bytes >>= λ first. after_one_word first.0 first.1

-- if the bytes begin with a written span, the result is that span and the bytes after it
abbrev pub SpansAgain : List ℕ → Option (Spanned × Bor (List ℕ)) → Type 0
SpansAgain bytes result =
    (heavy : Bool) (extra : ℕ) (numbers : SpanNumbers) (rest : List ℕ) → extra < 4 → SpanFits numbers
    → bytes ≡ span_bytes heavy extra numbers ++ rest
    → IsSomeAnd result (λ found. (found.0 ≡ record { extra = extra; numbers = numbers }) × (found.1.now ≡ rest))
