-- A written token is read again, whatever follows it.
use Rattle.std.proofs.Common.{◌≡◌, ℕ, ◌+◌, ◌*◌, ◌/◌, ◌%◌, ◌<◌, ◌==◌, Bool, true, false, cond, nat_le, nat_lt, List, [], ◌∷◌, ◌++◌, Some, None, append_assoc, refl, ap, subst, sym, ◌∙◌, arith}
use Rattle.tt_base.specs.declared.literal.LitKind.{LitKind}
use Rattle.tt_base.specs.declared.literal.LitKind.TheVariants as lit
use Rattle.tt_base.specs.declared.punct.Spacing.{Spacing}
use Rattle.tt_base.specs.declared.punct.Spacing.TheVariants.{Alone, Joint, JointHidden}
use Rattle.tt_codec.specs.declared.entry.Entry.{Entry}
use Rattle.tt_codec.specs.declared.entry.Entry.TheVariants.{Leaf as of_leaf, Header as of_header}
use Rattle.tt_codec.specs.Entry.{EntryFits, entry_bytes, as_entry, entry_behind_span, entry_at}
use Rattle.tt_codec.specs.declared.entry.LeafEntry.{LeafEntry}
use Rattle.tt_codec.specs.declared.entry.LeafEntry.TheVariants.{Punct as punct, Ident as ident, Literal as literal}
use Rattle.tt_codec.specs.Kinds.{spacing_number, raw_number, kind_number}
use Rattle.tt_codec.specs.Leaf.{LeafEntryFits, leaf_bytes, long_form, form_of, literal_form, plain_at}
use Rattle.tt_codec.specs.Reference.{reference_bytes}
use Rattle.tt_codec.specs.declared.span.SpanNumbers.{SpanNumbers}
use Rattle.tt_codec.specs.SpanNumbers.{SpanFits, word, span_bytes}
use Rattle.tt_codec.proofs.HeaderReading.{by_form, token_read, entry_after_span, header_again}
use Rattle.tt_codec.proofs.LeafReading.{behind_span, leaf_at, leaf_after_span, extra_bound, leaf_again}

-- after a span with these extra bits, the bytes are read as a leaf
abbrev AsLeaf : (extra : ℕ) → SpanNumbers → List ℕ → Type 0
AsLeaf extra at tail = entry_behind_span extra at tail ≡ as_entry (behind_span extra at tail)

-- the low bits of the byte after the span are those of a leaf
leaf_control : (control low : ℕ) (at : SpanNumbers) (tail : List ℕ) → control % 8 ≡ low
    → by_form low (control / 8) control at tail ≡ as_entry (plain_at control at tail) → AsLeaf 0 at (control ∷ tail)
leaf_control control low at tail e h =
    subst (λ n. by_form n (control / 8) control at tail ≡ as_entry (plain_at control at tail)) (sym e) h

long_control : (kind : LitKind) (suffix_len : ℕ) (at : SpanNumbers) (tail : List ℕ) → AsLeaf 0 at (long_form kind suffix_len ++ tail)
long_control kind suffix_len at tail = leaf_control (7 + kind_number kind * 8) 7 at _ (omega arith) refl

short_control_3 : (number : ℕ) (kind : LitKind) (suffix_len : ℕ) (at : SpanNumbers) (tail : List ℕ) → number % 8 ≡ 3 → (short : Bool)
    → AsLeaf 0 at (cond short ((number + suffix_len * 16) ∷ []) (long_form kind suffix_len) ++ tail)
short_control_3 number kind suffix_len at tail e true = leaf_control (number + suffix_len * 16) 3 at tail (omega arith) refl
short_control_3 number kind suffix_len at tail e false = long_control kind suffix_len at tail

short_control_4 : (number : ℕ) (kind : LitKind) (suffix_len : ℕ) (at : SpanNumbers) (tail : List ℕ) → number % 8 ≡ 4 → (short : Bool)
    → AsLeaf 0 at (cond short ((number + suffix_len * 16) ∷ []) (long_form kind suffix_len) ++ tail)
short_control_4 number kind suffix_len at tail e true = leaf_control (number + suffix_len * 16) 4 at tail (omega arith) refl
short_control_4 number kind suffix_len at tail e false = long_control kind suffix_len at tail

literal_control : (kind : LitKind) (suffix_len : ℕ) (at : SpanNumbers) (tail : List ℕ) → AsLeaf 0 at (literal_form kind suffix_len ++ tail)
unfolding literal_form
literal_control lit.Byte suffix_len at tail = refl
literal_control lit.Char suffix_len at tail = refl
literal_control lit.Integer suffix_len at tail = short_control_4 12 lit.Integer suffix_len at tail refl (nat_le suffix_len 15)
literal_control lit.Float suffix_len at tail = refl
literal_control lit.Str suffix_len at tail = short_control_3 3 lit.Str suffix_len at tail refl (nat_le suffix_len 15)
literal_control (lit.StrRaw count) suffix_len at tail = by_count (count == 0) (count == 1)
  where
    by_count : (is_none is_one : Bool) → AsLeaf 0 at (form_of (cond is_none (Some 4) (cond is_one (Some 11) None)) (lit.StrRaw count) suffix_len ++ tail)
    by_count true is_one = short_control_4 4 (lit.StrRaw count) suffix_len at tail refl (nat_le suffix_len 15)
    by_count false true = short_control_3 11 (lit.StrRaw count) suffix_len at tail refl (nat_le suffix_len 15)
    by_count false false = long_control (lit.StrRaw count) suffix_len at tail
literal_control lit.ByteStr suffix_len at tail = refl
literal_control (lit.ByteStrRaw count) suffix_len at tail = refl
literal_control lit.CStr suffix_len at tail = refl
literal_control (lit.CStrRaw count) suffix_len at tail = refl
literal_control (lit.Err unit) suffix_len at tail = refl

ascii_extra : (spacing : Spacing) (at : SpanNumbers) (tail : List ℕ) → AsLeaf (1 + spacing_number spacing / 2 * 2) at tail
ascii_extra Alone at tail = refl
ascii_extra Joint at tail = refl
ascii_extra JointHidden at tail = refl

other_control : (spacing : Spacing) (at : SpanNumbers) (tail : List ℕ) → AsLeaf 0 at ((6 + spacing_number spacing * 8) ∷ tail)
other_control spacing at tail = leaf_control (6 + spacing_number spacing * 8) 6 at tail (omega arith) refl

-- these bytes are read as a leaf
abbrev ReadsLeaf : List ℕ → Type 0
ReadsLeaf bytes = entry_at bytes ≡ as_entry (leaf_at bytes)

through_span : (extra : ℕ) (at : SpanNumbers) (tail : List ℕ) → extra < 4 → SpanFits at → AsLeaf extra at tail → ReadsLeaf (span_bytes false extra at ++ tail)
through_span extra at tail small fits h =
    entry_after_span false extra at tail small fits ∙ h ∙ sym (ap as_entry (leaf_after_span extra at tail small fits))

reads_leaf : (it : LeafEntry) (rest : List ℕ) → LeafEntryFits it → ReadsLeaf (leaf_bytes it ++ rest)
reads_leaf (punct char spacing at) rest fits = by_form (nat_lt char 128)
  where
    by_form : (ascii : Bool)
        → ReadsLeaf
        (cond ascii (span_bytes false (1 + spacing_number spacing / 2 * 2) at ++ (char * 2 + spacing_number spacing % 2) ∷ [])
        (span_bytes false 0 at ++ (6 + spacing_number spacing * 8) ∷ word char)
        ++ rest)
    by_form true =
        subst ReadsLeaf (sym (append_assoc (span_bytes false (1 + spacing_number spacing / 2 * 2) at) ((char * 2 + spacing_number spacing % 2) ∷ []) rest))
        (through_span (1 + spacing_number spacing / 2 * 2) at ((char * 2 + spacing_number spacing % 2) ∷ rest) (extra_bound spacing) fits.1 (ascii_extra spacing at ((char * 2 + spacing_number spacing % 2) ∷ rest)))
    by_form false =
        subst ReadsLeaf (sym (append_assoc (span_bytes false 0 at) ((6 + spacing_number spacing * 8) ∷ word char) rest))
        (through_span 0 at ((6 + spacing_number spacing * 8) ∷ word char ++ rest) (omega arith) fits.1 (other_control spacing at (word char ++ rest)))
reads_leaf (ident symbol raw at) rest fits =
    subst ReadsLeaf (sym (append_assoc (span_bytes false 2 at) (reference_bytes symbol (raw_number raw)) rest))
    (through_span 2 at _ (omega arith) fits.1 refl)
reads_leaf (literal symbol kind suffix_len at) rest fits =
    subst ReadsLeaf
    (sym
    (append_assoc (span_bytes false 0 at ++ literal_form kind suffix_len) (reference_bytes symbol 0) rest
    ∙ append_assoc (span_bytes false 0 at) (literal_form kind suffix_len) (reference_bytes symbol 0 ++ rest)))
    (through_span 0 at _ (omega arith) fits.1 (literal_control kind suffix_len at (reference_bytes symbol 0 ++ rest)))

-- A token is read again.
pub entry_again : (it : Entry) (rest : List ℕ) → EntryFits it → entry_at (entry_bytes it ++ rest) ≡ token_read it rest
entry_again (of_leaf it) rest fits = reads_leaf it rest fits ∙ ap as_entry (leaf_again it rest fits)
entry_again (of_header it) rest fits = header_again it rest fits
