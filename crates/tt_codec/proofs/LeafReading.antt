-- A written leaf is read again, whatever follows it.
use Rattle.std.proofs.Common.{◌≡◌, ℕ, ◌+◌, ◌*◌, ◌/◌, ◌%◌, ◌^◌, ◌<◌, Bool, true, false, cond, ◌==◌, nat_le, nat_lt, List, [], ◌∷◌, ◌++◌, Some, None, append_assoc, refl, ap, ap₂, sym, subst, ◌∙◌, arith, if◌then◌else◌}
use Rattle.std.specs.Char.{IsScalar}
use Rattle.std.proofs.Math.Utf8.{scalar_fits}
use Rattle.std.proofs.lemmas.Bool.{eqb-true}
use lib.Utf8.{scalar}
use Rattle.tt_base.specs.declared.ident.IdentIsRaw.{IdentIsRaw}
use Rattle.tt_base.specs.declared.ident.IdentIsRaw.TheVariants.{No, Yes}
use Rattle.tt_base.specs.declared.literal.LitKind.{LitKind}
use Rattle.tt_base.specs.declared.literal.LitKind.TheVariants as lit
use Rattle.tt_base.specs.declared.punct.Spacing.{Spacing}
use Rattle.tt_base.specs.declared.punct.Spacing.TheVariants.{Alone, Joint, JointHidden}
use Rattle.tt_codec.specs.declared.entry.LeafEntry.{LeafEntry}
use Rattle.tt_codec.specs.declared.entry.LeafEntry.TheVariants.{Punct as punct, Ident as ident, Literal as literal}
use Rattle.tt_codec.specs.Kinds.{spacing_number, raw_number, raw_from, short_kind_from}
use Rattle.tt_codec.specs.Leaf.{LeafEntryFits, leaf_bytes, long_form, form_of, literal_form, char_at, literal_at, long_literal_at, other_punct_at, plain_at, marked_at}
use Rattle.tt_codec.specs.Reference.{reference_bytes}
use Rattle.tt_codec.specs.declared.span.SpanNumbers.{SpanNumbers}
use Rattle.tt_codec.specs.SpanNumbers.{SpanFits, word, span_bytes, span_at}
use Rattle.tt_codec.specs.Read.{Read, ◌>>=◌, byte_at}
use Rattle.tt_codec.proofs.ReferenceReading.{bit_0, bit_1, reference_again}
use Rattle.tt_codec.proofs.SpanReading.{word_at-word, span_again}

-- a leaf, after its span is read
abbrev pub behind_span : (extra : ℕ) → SpanNumbers → List ℕ → Read LeafEntry
behind_span extra numbers bytes =
    if extra == 0 then (byte_at bytes >>= λ control. plain_at control.0 numbers control.1)
    else marked_at extra numbers bytes

-- a leaf
unfoldable pub leaf_at : List ℕ → Read LeafEntry
leaf_at bytes = span_at bytes >>= λ span. behind_span span.0.extra span.0.numbers span.1

abbrev pub entered : LeafEntry → List ℕ → Read LeafEntry
entered e rest = Some (e, rest)

-- After the span, the form by its extra bits is read.
pub leaf_after_span : (extra : ℕ) (at : SpanNumbers) (tail : List ℕ) → extra < 4 → SpanFits at → leaf_at (span_bytes false extra at ++ tail) ≡ behind_span extra at tail
unfolding leaf_at
leaf_after_span extra at tail he fits = ap (λ r. r >>= λ s. behind_span s.0.extra s.0.numbers s.1) (span_again false extra at tail he fits)

behind_ascii : (char : ℕ) (spacing : Spacing) (at : SpanNumbers) (rest : List ℕ)
    → behind_span (1 + spacing_number spacing / 2 * 2) at ((char * 2 + spacing_number spacing % 2) ∷ rest) ≡ entered (punct char spacing at) rest
behind_ascii char Alone at rest =
    ap₂ (λ c s. entered (punct c s at) rest) (omega arith) (bit_0 ((char * 2 + 0) % 2) Alone Joint (omega arith))
behind_ascii char Joint at rest =
    ap₂ (λ c s. entered (punct c s at) rest) (omega arith) (bit_1 ((char * 2 + 1) % 2) Alone Joint (omega arith))
behind_ascii char JointHidden at rest = ap (λ c. entered (punct c JointHidden at) rest) (omega arith)

char_again : (char : ℕ) (rest : List ℕ) → IsScalar char → char_at (word char ++ rest) ≡ Some (char, rest)
char_again char rest h =
    ap (λ r. r >>= λ code. if scalar code.0 then Some code else None) (word_at-word char rest (scalar_fits char h))
    ∙ ap (λ t. cond t (Some (char, rest)) None) h

behind_other : (char : ℕ) (spacing : Spacing) (at : SpanNumbers) (rest : List ℕ) → IsScalar char
    → behind_span 0 at ((6 + spacing_number spacing * 8) ∷ word char ++ rest) ≡ entered (punct char spacing at) rest
behind_other char Alone at rest h = ap (λ r. r >>= λ c. Some (punct c.0 Alone at, c.1)) (char_again char rest h)
behind_other char Joint at rest h = ap (λ r. r >>= λ c. Some (punct c.0 Joint at, c.1)) (char_again char rest h)
behind_other char JointHidden at rest h = ap (λ r. r >>= λ c. Some (punct c.0 JointHidden at, c.1)) (char_again char rest h)

pub extra_bound : (spacing : Spacing) → 1 + spacing_number spacing / 2 * 2 < 4
extra_bound Alone = omega arith
extra_bound Joint = omega arith
extra_bound JointHidden = omega arith

punct_again : (char : ℕ) (spacing : Spacing) (at : SpanNumbers) (rest : List ℕ) → IsScalar char → SpanFits at
    → leaf_at (leaf_bytes (punct char spacing at) ++ rest) ≡ entered (punct char spacing at) rest
punct_again char spacing at rest h fits = by_form (nat_lt char 128)
  where
    by_form : (ascii : Bool)
        → leaf_at
        (cond ascii (span_bytes false (1 + spacing_number spacing / 2 * 2) at ++ (char * 2 + spacing_number spacing % 2) ∷ [])
        (span_bytes false 0 at ++ (6 + spacing_number spacing * 8) ∷ word char)
        ++ rest)
        ≡ entered (punct char spacing at) rest
    by_form true =
        ap leaf_at (append_assoc (span_bytes false (1 + spacing_number spacing / 2 * 2) at) _ rest)
        ∙ leaf_after_span _ at _ (extra_bound spacing) fits
        ∙ behind_ascii char spacing at rest
    by_form false =
        ap leaf_at (append_assoc (span_bytes false 0 at) _ rest)
        ∙ leaf_after_span 0 at _ (omega arith) fits
        ∙ behind_other char spacing at rest h

raw_again : (raw : IdentIsRaw) → raw_from (raw_number raw) ≡ raw
raw_again No = refl
raw_again Yes = refl

raw_bound : (raw : IdentIsRaw) → raw_number raw < 2
raw_bound No = omega arith
raw_bound Yes = omega arith

ident_again : (symbol : ℕ) (raw : IdentIsRaw) (at : SpanNumbers) (rest : List ℕ) → symbol < 2 ^ 29 → SpanFits at
    → leaf_at (leaf_bytes (ident symbol raw at) ++ rest) ≡ entered (ident symbol raw at) rest
ident_again symbol raw at rest h fits =
    ap leaf_at (append_assoc (span_bytes false 2 at) _ rest)
    ∙ leaf_after_span 2 at _ (omega arith) fits
    ∙ ap (λ r. r >>= λ r. Some (ident r.0.index (raw_from r.0.tag) at, r.1)) (reference_again symbol (raw_number raw) rest h (raw_bound raw))
    ∙ ap (λ r. entered (ident symbol r at) rest) (raw_again raw)

-- a leaf whose byte after the span has these low bits
abbrev by_low : (low control : ℕ) → SpanNumbers → List ℕ → Read LeafEntry
by_low low control numbers rest =
    if low == 6 then other_punct_at (control / 8) numbers rest
    else if low == 7 then long_literal_at (control / 8) numbers rest
    else (short_kind_from (control % 16) >>= λ kind. literal_at kind (control / 16) numbers rest)

-- a short form is one byte: the number of the kind, and the suffix length above its four bits
short_again : (number low : ℕ) (suffix_len : ℕ) (at : SpanNumbers) (tail : List ℕ) → number % 8 ≡ low
    → behind_span 0 at ((number + suffix_len * 16) ∷ tail) ≡ by_low low (number + suffix_len * 16) at tail
short_again number low suffix_len at tail e = ap (λ bits. by_low bits (number + suffix_len * 16) at tail) low_bits
  where
    low_bits : (number + suffix_len * 16) % 8 ≡ low
    low_bits = omega arith

-- the leaf by that byte
short_kind : (number : ℕ) (kind : LitKind) (suffix_len : ℕ) (at : SpanNumbers) (tail : List ℕ) → number < 16 → short_kind_from number ≡ Some kind
    → (short_kind_from ((number + suffix_len * 16) % 16) >>= λ kind. literal_at kind ((number + suffix_len * 16) / 16) at tail) ≡ literal_at kind suffix_len at tail
short_kind number kind suffix_len at tail small e =
    ap₂ (λ number suffix. short_kind_from number >>= λ kind. literal_at kind suffix at tail) number_again suffix_again
    ∙ ap (λ found. found >>= λ kind. literal_at kind suffix_len at tail) e
  where
    number_again : (number + suffix_len * 16) % 16 ≡ number
    number_again = omega arith

    suffix_again : (number + suffix_len * 16) / 16 ≡ suffix_len
    suffix_again = omega arith

form_again : (kind : LitKind) (suffix_len : ℕ) (at : SpanNumbers) (tail : List ℕ) → behind_span 0 at (literal_form kind suffix_len ++ tail) ≡ literal_at kind suffix_len at tail
unfolding literal_form
form_again lit.Byte suffix_len at tail = refl
form_again lit.Char suffix_len at tail = refl
form_again lit.Integer suffix_len at tail = by_form (nat_le suffix_len 15)
  where
    by_form : (short : Bool) → behind_span 0 at (cond short ((12 + suffix_len * 16) ∷ []) (long_form lit.Integer suffix_len) ++ tail) ≡ literal_at lit.Integer suffix_len at tail
    by_form true = short_again 12 4 suffix_len at tail refl ∙ short_kind 12 lit.Integer suffix_len at tail (omega arith) refl
    by_form false = refl
form_again lit.Float suffix_len at tail = refl
form_again lit.Str suffix_len at tail = by_form (nat_le suffix_len 15)
  where
    by_form : (short : Bool) → behind_span 0 at (cond short ((3 + suffix_len * 16) ∷ []) (long_form lit.Str suffix_len) ++ tail) ≡ literal_at lit.Str suffix_len at tail
    by_form true = short_again 3 3 suffix_len at tail refl ∙ short_kind 3 lit.Str suffix_len at tail (omega arith) refl
    by_form false = refl
form_again (lit.StrRaw count) suffix_len at tail = by_count (count == 0) refl (count == 1) refl
  where
    none : (short : Bool) → behind_span 0 at (cond short ((4 + suffix_len * 16) ∷ []) (long_form (lit.StrRaw 0) suffix_len) ++ tail) ≡ literal_at (lit.StrRaw 0) suffix_len at tail
    none true = short_again 4 4 suffix_len at tail refl ∙ short_kind 4 (lit.StrRaw 0) suffix_len at tail (omega arith) refl
    none false = refl

    one : (short : Bool) → behind_span 0 at (cond short ((11 + suffix_len * 16) ∷ []) (long_form (lit.StrRaw 1) suffix_len) ++ tail) ≡ literal_at (lit.StrRaw 1) suffix_len at tail
    one true = short_again 11 3 suffix_len at tail refl ∙ short_kind 11 (lit.StrRaw 1) suffix_len at tail (omega arith) refl
    one false = refl

    by_count : (is_none : Bool) → (count == 0) ≡ is_none → (is_one : Bool) → (count == 1) ≡ is_one
        → behind_span 0 at (form_of (cond is_none (Some 4) (cond is_one (Some 11) None)) (lit.StrRaw count) suffix_len ++ tail) ≡ literal_at (lit.StrRaw count) suffix_len at tail
    by_count true e is_one f =
        subst (λ n. behind_span 0 at (form_of (Some 4) (lit.StrRaw n) suffix_len ++ tail) ≡ literal_at (lit.StrRaw n) suffix_len at tail)
        (sym (eqb-true _ _ e)) (none (nat_le suffix_len 15))
    by_count false e true f =
        subst (λ n. behind_span 0 at (form_of (Some 11) (lit.StrRaw n) suffix_len ++ tail) ≡ literal_at (lit.StrRaw n) suffix_len at tail)
        (sym (eqb-true _ _ f)) (one (nat_le suffix_len 15))
    by_count false e false f = refl
form_again lit.ByteStr suffix_len at tail = refl
form_again (lit.ByteStrRaw n) suffix_len at tail = refl
form_again lit.CStr suffix_len at tail = refl
form_again (lit.CStrRaw n) suffix_len at tail = refl
form_again (lit.Err u) suffix_len at tail = refl

literal_again : (symbol : ℕ) (kind : LitKind) (suffix_len : ℕ) (at : SpanNumbers) (rest : List ℕ) → symbol < 2 ^ 29 → SpanFits at
    → leaf_at (leaf_bytes (literal symbol kind suffix_len at) ++ rest) ≡ entered (literal symbol kind suffix_len at) rest
literal_again symbol kind suffix_len at rest h fits =
    ap leaf_at
    (append_assoc (span_bytes false 0 at ++ literal_form kind suffix_len) (reference_bytes symbol 0) rest
    ∙ append_assoc (span_bytes false 0 at) (literal_form kind suffix_len) (reference_bytes symbol 0 ++ rest))
    ∙ leaf_after_span 0 at _ (omega arith) fits
    ∙ form_again kind suffix_len at (reference_bytes symbol 0 ++ rest)
    ∙ ap (λ r. r >>= λ r. Some (literal r.0.index kind suffix_len at, r.1)) (reference_again symbol 0 rest h (omega arith))

-- A leaf is read again.
pub leaf_again : (entry : LeafEntry) (rest : List ℕ) → LeafEntryFits entry → leaf_at (leaf_bytes entry ++ rest) ≡ entered entry rest
leaf_again (punct char spacing at) rest fits = punct_again char spacing at rest fits.0 fits.1
leaf_again (ident symbol raw at) rest fits = ident_again symbol raw at rest fits.0 fits.1
leaf_again (literal symbol kind suffix_len at) rest fits = literal_again symbol kind suffix_len at rest fits.0 fits.1
