-- A written span is read again, whatever follows it.
use Rattle.std.proofs.Common.{◌≡◌, ℕ, ◌+◌, ◌*◌, ◌/◌, ◌%◌, ◌^◌, ◌<◌, ◌≤◌, Bool, true, false, cond, ◌&&◌, ◌==◌, nat_le, List, ◌++◌, Some, refl, ap, ap₂, sym, ◌∙◌, arith}
use Rattle.std.proofs.lemmas.Nat.{from_le_bytes-to_le_bytes_4}
use Rattle.std.proofs.lemmas.Bool.{and_parts, eqb-true, eq-eqb, ne_eqb, leb-true}
use Rattle.tt_codec.specs.declared.span.SpanNumbers.{SpanNumbers}
use Rattle.tt_codec.specs.SpanNumbers.{SpanFits, word, first_word, part_rest, length_rest, start_rest, rests, fits_one_word, fits_two_words, light_span, middle_span, heavy_span, span_bytes, spanned, from_rests, after_one_word, after_two_words, span_at}
use Rattle.tt_codec.specs.Read.{◌>>=◌, word_at}

-- ---- the first word of a span

module _ (a b c m s : ℕ) (ha : a < 4) (hb : b < 16) (hc : c < 256) (hm : m < 2) (hs : s < 2 ^ 17) where
  abbrev made : ℕ
  made = a + b * 2 ^ 2 + c * 2 ^ 6 + m * 2 ^ 14 + s * 2 ^ 15

  made-bound : made < 2 ^ 32
  made-bound = omega arith

  made-extra : made % 4 ≡ a
  made-extra = omega arith

  made-part : made / 2 ^ 2 % 16 ≡ b
  made-part = omega arith

  made-len : made / 2 ^ 6 % 256 ≡ c
  made-len = omega arith

  made-more : made / 2 ^ 14 % 2 ≡ m
  made-more = omega arith

  made-start : made / 2 ^ 15 ≡ s
  made-start = omega arith

-- ---- spans

pub word_at-word : (n : ℕ) (rest : List ℕ) → n < 2 ^ 32 → word_at (word n ++ rest) ≡ Some (n, rest)
word_at-word n rest h = ap (λ m. Some (m, rest)) (from_le_bytes-to_le_bytes_4 n h)

spanned_is : (w pr lr sr extra : ℕ) (p : SpanNumbers) → w % 4 ≡ extra → w / 2 ^ 2 % 16 + pr * 16 ≡ p.part → w / 2 ^ 15 + sr * 2 ^ 17 ≡ p.start → w / 2 ^ 6 % 256 + lr * 256 ≡ p.length
    → spanned w pr lr sr ≡ record { extra = extra; numbers = p }
spanned_is w pr lr sr extra p e part start length =
    λ i. record { extra = e i; numbers = record { part = part i; start = start i; length = length i } }

module _ (extra more : ℕ) (p : SpanNumbers) (he : extra < 4) (hm : more < 2) where
  abbrev w : ℕ
  w = first_word extra more p

  b16 : p.part % 16 < 16
  b16 = omega arith

  c256 : p.length % 256 < 256
  c256 = omega arith

  s17 : p.start % 2 ^ 17 < 2 ^ 17
  s17 = omega arith

  first-bound : w < 2 ^ 32
  first-bound = made-bound extra (p.part % 16) (p.length % 256) more (p.start % 2 ^ 17) he b16 c256 hm s17

  first-more : w / 2 ^ 14 % 2 ≡ more
  first-more = made-more extra (p.part % 16) (p.length % 256) more (p.start % 2 ^ 17) he b16 c256 hm s17

  first_again : (pr lr sr : ℕ) → pr ≡ part_rest p → lr ≡ length_rest p → sr ≡ start_rest p → spanned w pr lr sr ≡ record { extra = extra; numbers = p }
  first_again pr lr sr ep el es =
      spanned_is w pr lr sr extra p
      (made-extra extra (p.part % 16) (p.length % 256) more (p.start % 2 ^ 17) he b16 c256 hm s17)
      (ap₂ (λ x y. x + y * 16) (made-part extra (p.part % 16) (p.length % 256) more (p.start % 2 ^ 17) he b16 c256 hm s17) ep ∙ omega arith)
      (ap₂ (λ x y. x + y * 2 ^ 17) (made-start extra (p.part % 16) (p.length % 256) more (p.start % 2 ^ 17) he b16 c256 hm s17) es ∙ omega arith)
      (ap₂ (λ x y. x + y * 256) (made-len extra (p.part % 16) (p.length % 256) more (p.start % 2 ^ 17) he b16 c256 hm s17) el ∙ omega arith)

one_word : (w : ℕ) (rest : List ℕ) → w / 2 ^ 14 % 2 ≡ 0 → after_one_word w rest ≡ Some (spanned w 0 0 0, rest)
one_word w rest e = ap (λ t. cond t (Some (spanned w 0 0 0, rest)) (word_at rest >>= λ v. after_two_words w v.0 v.1)) (eq-eqb _ _ e)

more_words : (w : ℕ) (rest : List ℕ) → w / 2 ^ 14 % 2 ≡ 1 → after_one_word w rest ≡ (word_at rest >>= λ v. after_two_words w v.0 v.1)
more_words w rest e =
    ap (λ t. cond t (Some (spanned w 0 0 0, rest)) (word_at rest >>= λ v. after_two_words w v.0 v.1))
    (ne_eqb (w / 2 ^ 14 % 2) 0 (λ z. omega arith))

light_again : (extra : ℕ) (p : SpanNumbers) (rest : List ℕ) → extra < 4 → fits_one_word p ≡ true → span_at (light_span extra p ++ rest) ≡ Some (record { extra = extra; numbers = p }, rest)
unfolding span_at
light_again extra p rest he fits =
    ap (λ w. after_one_word w rest) (from_le_bytes-to_le_bytes_4 (first_word extra 0 p) (first-bound extra 0 p he (omega arith)))
    ∙ one_word _ rest (first-more extra 0 p he (omega arith))
    ∙ ap (λ s. Some (s, rest)) (first_again extra 0 p he (omega arith) 0 0 0 (sym (eqb-true _ _ parts.0)) (sym (eqb-true _ _ parts.1)) (sym (eqb-true _ _ parts.2)))
  where
    parts : (part_rest p == 0 ≡ true) × (length_rest p == 0 ≡ true) × (start_rest p == 0 ≡ true)
    parts =
        let (front, third) = and_parts (part_rest p == 0 && length_rest p == 0) (start_rest p == 0) fits in
        let (first, second) = and_parts (part_rest p == 0) (length_rest p == 0) front in
        (first, second, third)

module _ (a b c : ℕ) (ha : a ≤ 2047) (hb : b ≤ 1023) (hc : c ≤ 1023) where
  abbrev second : ℕ
  second = a * 2 + b * 2 ^ 12 + c * 2 ^ 22

  second-bound : second < 2 ^ 32
  second-bound = omega arith

  second-even : second % 2 ≡ 0
  second-even = omega arith

  second-part : second / 2 % 2048 ≡ a
  second-part = omega arith

  second-len : second / 2 ^ 12 % 1024 ≡ b
  second-len = omega arith

  second-start : second / 2 ^ 22 ≡ c
  second-start = omega arith

two_words : (w v : ℕ) (rest : List ℕ) → v % 2 ≡ 0 → after_two_words w v rest ≡ Some (spanned w (v / 2 % 2048) (v / 2 ^ 12 % 1024) (v / 2 ^ 22), rest)
two_words w v rest e =
    ap (λ t. cond t (Some (spanned w (v / 2 % 2048) (v / 2 ^ 12 % 1024) (v / 2 ^ 22), rest)) (word_at rest >>= λ u. Some (from_rests w (v / 2 * 2 ^ 32 + u.0), u.1)))
    (eq-eqb _ _ e)

three_words : (w v : ℕ) (rest : List ℕ) → v % 2 ≡ 1 → after_two_words w v rest ≡ (word_at rest >>= λ u. Some (from_rests w (v / 2 * 2 ^ 32 + u.0), u.1))
three_words w v rest e =
    ap (λ t. cond t (Some (spanned w (v / 2 % 2048) (v / 2 ^ 12 % 1024) (v / 2 ^ 22), rest)) (word_at rest >>= λ u. Some (from_rests w (v / 2 * 2 ^ 32 + u.0), u.1)))
    (ne_eqb (v % 2) 0 (λ z. omega arith))

-- the second and third step of a span whose first word says that more follows
second_step : (extra : ℕ) (p : SpanNumbers) (v : ℕ) (rest : List ℕ) → extra < 4 → v < 2 ^ 32
    → span_at (word (first_word extra 1 p) ++ word v ++ rest) ≡ after_two_words (first_word extra 1 p) v rest
unfolding span_at
second_step extra p v rest he hv =
    ap (λ w. after_one_word w (word v ++ rest)) (from_le_bytes-to_le_bytes_4 (first_word extra 1 p) (first-bound extra 1 p he (omega arith)))
    ∙ more_words _ (word v ++ rest) (first-more extra 1 p he (omega arith))
    ∙ ap (λ r. r >>= λ v. after_two_words (first_word extra 1 p) v.0 v.1) (word_at-word v rest hv)

middle_again : (extra : ℕ) (p : SpanNumbers) (rest : List ℕ) → extra < 4 → fits_two_words p ≡ true → span_at (middle_span extra p ++ rest) ≡ Some (record { extra = extra; numbers = p }, rest)
middle_again extra p rest he fits =
    second_step extra p (second a b c parts.0 parts.1 parts.2) rest he (second-bound a b c parts.0 parts.1 parts.2)
    ∙ two_words _ _ rest (second-even a b c parts.0 parts.1 parts.2)
    ∙ ap (λ s. Some (s, rest))
    (first_again extra 1 p he (omega arith) _ _ _ (second-part a b c parts.0 parts.1 parts.2) (second-len a b c parts.0 parts.1 parts.2) (second-start a b c parts.0 parts.1 parts.2))
  where
    a : ℕ
    a = part_rest p

    b : ℕ
    b = length_rest p

    c : ℕ
    c = start_rest p

    parts : (part_rest p ≤ 2047) × (length_rest p ≤ 1023) × (start_rest p ≤ 1023)
    parts =
        let (front, third) = and_parts (nat_le (part_rest p) 2047 && nat_le (length_rest p) 1023) (nat_le (start_rest p) 1023) fits in
        let (first, second) = and_parts (nat_le (part_rest p) 2047) (nat_le (length_rest p) 1023) front in
        (leb-true _ _ first, leb-true _ _ second, leb-true _ _ third)

module _ (a b c : ℕ) (ha : a < 2 ^ 24) (hb : b < 2 ^ 24) (hc : c < 2 ^ 15) where
  abbrev all_rests : ℕ
  all_rests = a + b * 2 ^ 24 + c * 2 ^ 48

  high-bound : all_rests / 2 ^ 32 * 2 + 1 < 2 ^ 32
  high-bound = omega arith

  low-bound : all_rests % 2 ^ 32 < 2 ^ 32
  low-bound = omega arith

  rests_again : (all_rests / 2 ^ 32 * 2 + 1) / 2 * 2 ^ 32 + all_rests % 2 ^ 32 ≡ all_rests
  rests_again = omega arith

  rests-part : all_rests % 2 ^ 24 ≡ a
  rests-part = omega arith

  rests-len : all_rests / 2 ^ 24 % 2 ^ 24 ≡ b
  rests-len = omega arith

  rests-start : all_rests / 2 ^ 48 ≡ c
  rests-start = omega arith

pub heavy_again : (extra : ℕ) (p : SpanNumbers) (rest : List ℕ) → extra < 4 → SpanFits p → span_at (heavy_span extra p ++ rest) ≡ Some (record { extra = extra; numbers = p }, rest)
heavy_again extra p rest he fits =
    second_step extra p (n / 2 ^ 32 * 2 + 1) (word (n % 2 ^ 32) ++ rest) he (high-bound _ _ _ ha hb hc)
    ∙ three_words (first_word extra 1 p) _ _ (omega arith)
    ∙ ap (λ r. r >>= λ u. Some (from_rests (first_word extra 1 p) ((n / 2 ^ 32 * 2 + 1) / 2 * 2 ^ 32 + u.0), u.1))
    (word_at-word (n % 2 ^ 32) rest (low-bound _ _ _ ha hb hc))
    ∙ ap (λ m. Some (from_rests (first_word extra 1 p) m, rest)) (rests_again _ _ _ ha hb hc)
    ∙ ap (λ s. Some (s, rest)) (first_again extra 1 p he (omega arith) _ _ _ (rests-part _ _ _ ha hb hc) (rests-len _ _ _ ha hb hc) (rests-start _ _ _ ha hb hc))
  where
    n : ℕ
    n = rests p

    ha : part_rest p < 2 ^ 24
    ha = omega (arith, fits.part)

    hb : length_rest p < 2 ^ 24
    hb = omega (arith, fits.length)

    hc : start_rest p < 2 ^ 15
    hc = omega (arith, fits.start)

-- A span is read again.
pub span_again : (heavy : Bool) (extra : ℕ) (p : SpanNumbers) (rest : List ℕ) → extra < 4 → SpanFits p
    → span_at (span_bytes heavy extra p ++ rest) ≡ Some (record { extra = extra; numbers = p }, rest)
unfolding span_bytes
span_again true extra p rest he fits = heavy_again extra p rest he fits
span_again false extra p rest he fits = by_form (fits_one_word p) refl (fits_two_words p) refl
  where
    by_form : (one : Bool) → fits_one_word p ≡ one → (two : Bool) → fits_two_words p ≡ two
        → span_at (cond one (light_span extra p) (cond two (middle_span extra p) (heavy_span extra p)) ++ rest) ≡ Some (record { extra = extra; numbers = p }, rest)
    by_form true e two f = light_again extra p rest he e
    by_form false e true f = middle_again extra p rest he f
    by_form false e false f = heavy_again extra p rest he fits
