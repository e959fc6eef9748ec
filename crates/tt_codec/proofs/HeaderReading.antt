-- A written header is read again, whatever follows it.
use Rattle.std.proofs.Common.{◌≡◌, ℕ, ◌+◌, ◌*◌, ◌/◌, ◌%◌, ◌^◌, ◌<◌, ◌≤◌, Bool, true, false, cond, ◌==◌, nat_le, nat_lt, List, ◌∷◌, ◌++◌, Option, Some, None, append_assoc, refl, ap, ap₂, sym, ◌∙◌, arith, w16, if◌then◌else◌}
use Rattle.std.specs.Int.{to_le_bytes}
use Rattle.std.proofs.lemmas.Bool.{and_parts, eqb-true, leb-true, ltb-false}
use Rattle.tt_base.specs.declared.delimiter.DelimiterKind.{DelimiterKind}
use Rattle.tt_base.specs.declared.delimiter.DelimiterKind.TheVariants.{Parenthesis, Brace, Bracket, Invisible, InvisibleOpaque}
use Rattle.tt_codec.specs.declared.entry.Entry.{Entry}
use Rattle.tt_codec.specs.declared.entry.Entry.TheVariants.{Header as of_header}
use Rattle.tt_codec.specs.Kinds.{delimiter_number, delimiter_kind_from}
use Rattle.tt_codec.specs.Header.{start_behind, HeaderFits, distance, is_within, is_short, is_small, has_format_1, has_format_2, has_format_3, format_1, format_2, format_3, format_4, header_bytes, format_1_at, format_2_at, format_3_at, format_4_at}
use Rattle.tt_codec.specs.Entry.{as_entry, entry_behind_span, entry_at}
use Rattle.tt_codec.specs.Leaf.{plain_at}
use Rattle.tt_codec.specs.declared.entry.HeaderEntry.{HeaderEntry}
use Rattle.tt_codec.specs.declared.span.Spanned.{Spanned}
use Rattle.tt_codec.specs.Read.{Read, ◌>>=◌, word_at}
use Rattle.tt_codec.specs.declared.span.SpanNumbers.{SpanNumbers}
use Rattle.tt_codec.specs.SpanNumbers.{SpanFits, word, span_bytes}
use Rattle.tt_codec.proofs.ReferenceReading.{half_at-half}
use Rattle.tt_codec.proofs.SpanReading.{word_at-word, span_again}

-- a token whose byte after the span has these low and high bits
abbrev pub by_form : (low high control : ℕ) → SpanNumbers → List ℕ → Read Entry
by_form low high control numbers rest =
    if low == 0 then format_1_at high numbers rest
    else if low == 1 then format_2_at high numbers rest
    else if low == 2 then format_3_at high numbers rest
    else if low == 5 then format_4_at high numbers rest
    else as_entry (plain_at control numbers rest)

-- a token, and the bytes after it
abbrev pub token_read : Entry → List ℕ → Read Entry
token_read it rest = Some (it, rest)

-- After the span, the form by its extra bits is read.
pub entry_after_span : (heavy : Bool) (extra : ℕ) (at : SpanNumbers) (tail : List ℕ) → extra < 4 → SpanFits at
    → entry_at (span_bytes heavy extra at ++ tail) ≡ entry_behind_span extra at tail
unfolding entry_at
entry_after_span heavy extra at tail small fits =
    ap (λ r. r >>= λ s. entry_behind_span s.0.extra s.0.numbers s.1) (span_again heavy extra at tail small fits)

kind_again : (kind : DelimiterKind) → delimiter_kind_from (delimiter_number kind) ≡ Some kind
kind_again Parenthesis = refl
kind_again Brace = refl
kind_again Bracket = refl
kind_again Invisible = refl
kind_again InvisibleOpaque = refl

-- what is read after a kind
kind_then : {Y : Type 0} (number : ℕ) (kind : DelimiterKind) (next : DelimiterKind → Option Y) → number ≡ delimiter_number kind
    → (delimiter_kind_from number >>= next) ≡ next kind
kind_then number kind next e = ap (λ n. delimiter_kind_from n >>= next) e ∙ ap (λ r. r >>= next) (kind_again kind)

-- An offset that four bytes can hold is found.
pub start_behind_is : (start distance close : ℕ) → start + distance ≡ close → close < 2 ^ 32 → start_behind start distance ≡ Some close
unfolding start_behind
start_behind_is start distance close e fits = by_test (nat_lt (start + distance) (2 ^ 32)) refl
  where
    by_test : (t : Bool) → nat_lt (start + distance) (2 ^ 32) ≡ t → cond t (Some (start + distance)) None ≡ Some close
    by_test true f = ap Some e
    by_test false f = absurd (omega (arith, ltb-false (start + distance) (2 ^ 32) f))

-- what is read after the numbers of the close span
close_then : {Y : Type 0} (start distance close : ℕ) (next : ℕ → Option Y) → start + distance ≡ close → close < 2 ^ 32
    → (start_behind start distance >>= next) ≡ next close
close_then start distance close next e fits = ap (λ r. r >>= next) (start_behind_is start distance close e fits)

-- a header with these numbers is read as `it`
header_is : (it : HeaderEntry) (part start length part' start' length' child_bytes : ℕ) (rest : List ℕ)
    → part ≡ it.opening.part → start ≡ it.opening.start → length ≡ it.opening.length
    → part' ≡ it.closing.part → start' ≡ it.closing.start → length' ≡ it.closing.length → child_bytes ≡ it.child_bytes
    → token_read
    (of_header
    (record {
      opening = record { part = part; start = start; length = length };
      closing = record { part = part'; start = start'; length = length' };
      kind = it.kind;
      len = it.len;
      child_bytes = child_bytes;
    }))
    rest
    ≡ token_read (of_header it) rest
header_is it part start length part' start' length' child_bytes rest e₁ e₂ e₃ e₄ e₅ e₆ e₇ =
    λ i. Some (
      of_header
          (record {
            opening = record { part = e₁ i; start = e₂ i; length = e₃ i };
            closing = record { part = e₄ i; start = e₅ i; length = e₆ i };
            kind = it.kind;
            len = it.len;
            child_bytes = e₇ i;
          }),
      rest,
    )

within : (it : HeaderEntry) (most : ℕ) → is_within it most ≡ true → (it.opening.start ≤ it.closing.start) × (distance it ≤ most)
within it most e =
    let (a, b) = and_parts (nat_le it.opening.start it.closing.start) (nat_le (distance it) most) e in
    (leb-true _ _ a, leb-true _ _ b)

short_kind : (it : HeaderEntry) → is_short it ≡ true → delimiter_number it.kind ≤ 3
short_kind it e =
    let (len, kind) = and_parts (nat_le it.len 255) (nat_le (delimiter_number it.kind) 3) e in
    leb-true _ _ kind

small_facts : (it : HeaderEntry) → is_small it ≡ true → (it.opening.part ≡ it.closing.part) × (delimiter_number it.kind ≤ 3)
small_facts it e =
    let (front, child_bytes) = and_parts _ (nat_le it.child_bytes 255) e in
    let (short, part) = and_parts (is_short it) (it.opening.part == it.closing.part) front in
    (eqb-true _ _ part, short_kind it short)

pub format_1_facts : (it : HeaderEntry) → has_format_1 it ≡ true
    → (it.opening.part ≡ it.closing.part) × (it.opening.length ≡ 1) × (it.closing.length ≡ 1) × (it.opening.start ≤ it.closing.start) × (distance it ≤ 2047)
    × (delimiter_number it.kind ≤ 3)
format_1_facts it e =
    let (front, near) = and_parts _ (is_within it 2047) e in
    let (small, closing) = and_parts _ (it.closing.length == 1) front in
    let (part, opening) = and_parts (is_small it) (it.opening.length == 1) small in (
      (small_facts it part).0,
      eqb-true _ _ opening,
      eqb-true _ _ closing,
      (within it 2047 near).0,
      (within it 2047 near).1,
      (small_facts it part).1,
    )

-- The first format is read again.
pub format_1_again : (it : HeaderEntry) (rest : List ℕ) → HeaderFits it → has_format_1 it ≡ true → entry_at (format_1 it ++ rest) ≡ token_read (of_header it) rest
format_1_again it rest fits e =
    ap entry_at (append_assoc (span_bytes false 0 at) _ rest)
    ∙ entry_after_span false 0 at _ (omega arith) (record { part = fits.opening.part; start = fits.opening.start; length = short })
    ∙ ap₂ (λ low high. by_form low high first at (it.len ∷ it.child_bytes ∷ rest)) low_bits high_bits
    ∙ kind_then (high % 4) it.kind _ kind_bits
    ∙ close_then it.opening.start (distance it % 256 + high / 4 * 256) it.closing.start _ start_again fits.closing.start
    ∙ header_is it _ _ _ _ _ _ _ rest refl refl (sym facts.1) facts.0 refl (sym facts.2) refl
  where
    at : SpanNumbers
    at = record { part = it.opening.part; start = it.opening.start; length = distance it % 256 }

    facts : (it.opening.part ≡ it.closing.part) × (it.opening.length ≡ 1) × (it.closing.length ≡ 1) × (it.opening.start ≤ it.closing.start) × (distance it ≤ 2047)
        × (delimiter_number it.kind ≤ 3)
    facts = format_1_facts it e

    short : distance it % 256 < 2 ^ 32
    short = omega arith

    number : ℕ
    number = delimiter_number it.kind

    first : ℕ
    first = number * 8 + distance it / 256 * 32

    high : ℕ
    high = number + distance it / 256 * 4

    low_bits : first % 8 ≡ 0
    low_bits = omega arith

    high_bits : first / 8 ≡ high
    high_bits = omega arith

    kind_bits : high % 4 ≡ number
    kind_bits = omega (arith, facts.5)

    start_again : it.opening.start + (distance it % 256 + high / 4 * 256) ≡ it.closing.start
    start_again = omega (arith, facts.3, facts.5)

format_2_facts : (it : HeaderEntry) → has_format_2 it ≡ true
    → (it.opening.part ≡ it.closing.part) × (it.opening.length ≡ it.closing.length) × (it.opening.start ≤ it.closing.start) × (distance it ≤ 7)
    × (delimiter_number it.kind ≤ 3)
format_2_facts it e =
    let (front, near) = and_parts _ (is_within it 7) e in
    let (small, lengths) = and_parts (is_small it) (it.opening.length == it.closing.length) front in
    ((small_facts it small).0, eqb-true _ _ lengths, (within it 7 near).0, (within it 7 near).1, (small_facts it small).1)

-- The second format is read again.
pub format_2_again : (it : HeaderEntry) (rest : List ℕ) → HeaderFits it → has_format_2 it ≡ true → entry_at (format_2 it ++ rest) ≡ token_read (of_header it) rest
format_2_again it rest fits e =
    ap entry_at (append_assoc (span_bytes false 0 it.opening) _ rest)
    ∙ entry_after_span false 0 it.opening _ (omega arith) fits.opening
    ∙ ap₂ (λ low high. by_form low high first it.opening (it.len ∷ it.child_bytes ∷ rest)) low_bits high_bits
    ∙ kind_then (high % 4) it.kind _ kind_bits
    ∙ close_then it.opening.start (high / 4) it.closing.start _ start_again fits.closing.start
    ∙ header_is it _ _ _ _ _ _ _ rest refl refl refl facts.0 refl facts.1 refl
  where
    facts : (it.opening.part ≡ it.closing.part) × (it.opening.length ≡ it.closing.length) × (it.opening.start ≤ it.closing.start) × (distance it ≤ 7)
        × (delimiter_number it.kind ≤ 3)
    facts = format_2_facts it e

    number : ℕ
    number = delimiter_number it.kind

    first : ℕ
    first = 1 + number * 8 + distance it * 32

    high : ℕ
    high = number + distance it * 4

    low_bits : first % 8 ≡ 1
    low_bits = omega arith

    high_bits : first / 8 ≡ high
    high_bits = omega arith

    kind_bits : high % 4 ≡ number
    kind_bits = omega (arith, facts.4)

    start_again : it.opening.start + high / 4 ≡ it.closing.start
    start_again = omega (arith, facts.2, facts.4)

format_3_facts : (it : HeaderEntry) → has_format_3 it ≡ true
    → (it.child_bytes ≤ 4095) × (it.opening.length ≡ it.closing.length) × (it.opening.start ≤ it.closing.start) × (it.closing.part ≤ 127)
    × (delimiter_number it.kind ≤ 3)
format_3_facts it e =
    let (front, part) = and_parts _ (nat_le it.closing.part 127) e in
    let (small, near) = and_parts _ (is_within it 255) front in
    let (few, lengths) = and_parts _ (it.opening.length == it.closing.length) small in
    let (short, child_bytes) = and_parts (is_short it) (nat_le it.child_bytes 4095) few in
    (leb-true _ _ child_bytes, eqb-true _ _ lengths, (within it 255 near).0, leb-true _ _ part, short_kind it short)

-- The third format is read again.
pub format_3_again : (it : HeaderEntry) (rest : List ℕ) → HeaderFits it → has_format_3 it ≡ true → entry_at (format_3 it ++ rest) ≡ token_read (of_header it) rest
format_3_again it rest fits e =
    ap entry_at (append_assoc (span_bytes false 0 it.opening) _ rest)
    ∙ entry_after_span false 0 it.opening _ (omega arith) fits.opening
    ∙ ap₂ (λ low high. by_form low high first it.opening (distance it ∷ it.len ∷ to_le_bytes w16 both ++ rest)) low_bits high_bits
    ∙ kind_then (high % 4) it.kind _ kind_bits
    ∙ close_then it.opening.start (distance it) it.closing.start _ start_again fits.closing.start
    ∙ ap (λ r. r >>= behind_half) (half_at-half both rest both_bound)
    ∙ header_is it _ _ _ _ _ _ _ rest refl refl refl part_again refl facts.1 bytes_again
  where
    facts : (it.child_bytes ≤ 4095) × (it.opening.length ≡ it.closing.length) × (it.opening.start ≤ it.closing.start) × (it.closing.part ≤ 127)
        × (delimiter_number it.kind ≤ 3)
    facts = format_3_facts it e

    number : ℕ
    number = delimiter_number it.kind

    first : ℕ
    first = 2 + number * 8 + it.closing.part % 8 * 32

    high : ℕ
    high = number + it.closing.part % 8 * 4

    both : ℕ
    both = it.child_bytes * 16 + it.closing.part / 8

    behind_half : ℕ × List ℕ → Read Entry
    behind_half half =
        Some (
          of_header
              (record {
                opening = it.opening;
                closing = record { part = high / 4 + half.0 % 16 * 8; start = it.closing.start; length = it.opening.length };
                kind = it.kind;
                len = it.len;
                child_bytes = half.0 / 16;
              }),
          half.1,
        )

    low_bits : first % 8 ≡ 2
    low_bits = omega arith

    high_bits : first / 8 ≡ high
    high_bits = omega arith

    both_bound : both < 2 ^ 16
    both_bound = omega (arith, facts.0, facts.3)

    kind_bits : high % 4 ≡ number
    kind_bits = omega (arith, facts.4)

    part_again : high / 4 + both % 16 * 8 ≡ it.closing.part
    part_again = omega (arith, facts.3, facts.4)

    start_again : it.opening.start + distance it ≡ it.closing.start
    start_again = omega (arith, facts.2)

    bytes_again : both / 16 ≡ it.child_bytes
    bytes_again = omega (arith, facts.3)

-- The fourth format is read again, also with both spans in their longest form.
pub format_4_again : (heavy : Bool) (it : HeaderEntry) (rest : List ℕ) → HeaderFits it → entry_at (format_4 heavy it ++ rest) ≡ token_read (of_header it) rest
format_4_again heavy it rest fits =
    ap entry_at regrouped
    ∙ entry_after_span heavy 0 it.opening _ (omega arith) fits.opening
    ∙ ap₂ (λ low high. by_form low high first it.opening (span_bytes heavy 0 it.closing ++ (word it.len ++ (word it.child_bytes ++ rest)))) low_bits high_bits
    ∙ kind_then number it.kind _ refl
    ∙ ap (λ r. r >>= behind_closing) (span_again heavy 0 it.closing (word it.len ++ (word it.child_bytes ++ rest)) (omega arith) fits.closing)
    ∙ ap (λ r. r >>= behind_len) (word_at-word it.len (word it.child_bytes ++ rest) fits.len)
    ∙ ap (λ r. r >>= behind_bytes) (word_at-word it.child_bytes rest fits.child_bytes)
  where
    number : ℕ
    number = delimiter_number it.kind

    first : ℕ
    first = 5 + number * 8

    low_bits : first % 8 ≡ 5
    low_bits = omega arith

    high_bits : first / 8 ≡ number
    high_bits = omega arith

    made : SpanNumbers → (len child_bytes : ℕ) → Entry
    made closing len child_bytes = of_header (record { opening = it.opening; closing = closing; kind = it.kind; len = len; child_bytes = child_bytes })

    behind_bytes : ℕ × List ℕ → Read Entry
    behind_bytes child_bytes = Some (made it.closing it.len child_bytes.0, child_bytes.1)

    behind_len : ℕ × List ℕ → Read Entry
    behind_len len = word_at len.1 >>= λ child_bytes. Some (made it.closing len.0 child_bytes.0, child_bytes.1)

    behind_closing : Spanned × List ℕ → Read Entry
    behind_closing closing = word_at closing.1 >>= λ len. word_at len.1 >>= λ child_bytes. Some (made closing.0.numbers len.0 child_bytes.0, child_bytes.1)

    regrouped : format_4 heavy it ++ rest ≡ span_bytes heavy 0 it.opening ++ (first ∷ (span_bytes heavy 0 it.closing ++ (word it.len ++ (word it.child_bytes ++ rest))))
    regrouped =
        append_assoc ((span_bytes heavy 0 it.opening ++ first ∷ span_bytes heavy 0 it.closing) ++ word it.len) (word it.child_bytes) rest
        ∙ append_assoc (span_bytes heavy 0 it.opening ++ first ∷ span_bytes heavy 0 it.closing) (word it.len) (word it.child_bytes ++ rest)
        ∙ append_assoc (span_bytes heavy 0 it.opening) (first ∷ span_bytes heavy 0 it.closing) (word it.len ++ (word it.child_bytes ++ rest))

-- A header is read again.
pub header_again : (it : HeaderEntry) (rest : List ℕ) → HeaderFits it → entry_at (header_bytes it ++ rest) ≡ token_read (of_header it) rest
unfolding header_bytes
header_again it rest fits = by_format (has_format_1 it) refl (has_format_2 it) refl (has_format_3 it) refl
  where
    by_format : (one : Bool) → has_format_1 it ≡ one → (two : Bool) → has_format_2 it ≡ two → (three : Bool) → has_format_3 it ≡ three
        → entry_at (cond one (format_1 it) (cond two (format_2 it) (cond three (format_3 it) (format_4 false it))) ++ rest) ≡ token_read (of_header it) rest
    by_format true e two f three g = format_1_again it rest fits e
    by_format false e true f three g = format_2_again it rest fits f
    by_format false e false f true g = format_3_again it rest fits g
    by_format false e false f false g = format_4_again false it rest fits
