-- The bytes of the definitions. The expected ones were worked out by hand.
use Rattle.std.proofs.Common.{◌≡◌, ℕ, true, false, codes, refl}
use Rattle.tt_base.specs.declared.ident.IdentIsRaw.TheVariants.{Yes}
use Rattle.tt_base.specs.declared.literal.LitKind.TheVariants as lit
use Rattle.tt_base.specs.declared.punct.Spacing.TheVariants.{Alone, Joint, JointHidden}
use Rattle.tt_codec.specs.declared.entry.LeafEntry.TheVariants.{Punct as punct, Ident as ident, Literal as literal}
use Rattle.tt_codec.specs.Leaf.{leaf_bytes, literal_form}
use Rattle.tt_codec.specs.Reference.{reference_bytes}
use Rattle.tt_codec.specs.declared.span.SpanNumbers.{SpanNumbers}
use Rattle.tt_codec.specs.SpanNumbers.{span_bytes}
use Rattle.tt_base.proofs.Samples.{hex}

references : (reference_bytes 63 0 ≡ hex (codes "fc"))
    × (reference_bytes 64 0 ≡ hex (codes "02 02"))
    × (reference_bytes 8191 0 ≡ hex (codes "fe fe"))
    × (reference_bytes 8192 0 ≡ hex (codes "02 01 01 00"))
    × (reference_bytes 536870911 1 ≡ hex (codes "ff ff ff ff"))
unfolding reference_bytes
references = (refl, refl, refl, refl, refl)

abbrev pub at : (part start length : ℕ) → SpanNumbers
at part start length = record { part = part; start = start; length = length }

spans : (span_bytes false 0 (at 0 0 256) ≡ hex (codes "00 40 00 00 00 10 00 00"))
    × (span_bytes false 0 (at 16 0 1) ≡ hex (codes "40 40 00 00 02 00 00 00"))
    × (span_bytes false 0 (at 0 134217727 1) ≡ hex (codes "40 c0 ff ff 00 00 c0 ff"))
    × (span_bytes false 0 (at 0 2147483648 1) ≡ hex (codes "40 40 00 00 01 00 00 80 00 00 00 00"))
    × (span_bytes false 0 (at 32767 0 1) ≡ hex (codes "7c 40 00 00 fe 0f 00 00"))
    × (span_bytes false 0 (at 32768 0 1) ≡ hex (codes "40 40 00 00 01 00 00 00 00 08 00 00"))
    × (span_bytes false 0 (at 0 0 262143) ≡ hex (codes "c0 7f 00 00 00 f0 3f 00"))
    × (span_bytes false 0 (at 0 0 262144) ≡ hex (codes "00 40 00 00 09 00 00 00 00 00 00 00"))
    × (span_bytes false 0 (at 268435455 4294967295 0) ≡ hex (codes "3c c0 ff ff 01 00 fe ff ff ff ff 00"))
    × (span_bytes true 0 (at 0 0 0) ≡ hex (codes "00 40 00 00 01 00 00 00 00 00 00 00"))
unfolding span_bytes
spans = (refl, refl, refl, refl, refl, refl, refl, refl, refl, refl)

leaves : (leaf_bytes (punct 59 Alone (at 0 0 1)) ≡ hex (codes "41 00 00 00 76"))
    × (leaf_bytes (punct 43 JointHidden (at 0 0 1)) ≡ hex (codes "43 00 00 00 56"))
    × (leaf_bytes (punct 0x2192 Joint (at 0 0 1)) ≡ hex (codes "40 00 00 00 0e 92 21 00 00"))
    × (leaf_bytes (ident 0 Yes (at 0 0 6)) ≡ hex (codes "82 01 00 00 01"))
    × (leaf_bytes (literal 0 lit.Integer 2 (at 0 0 3)) ≡ hex (codes "c0 00 00 00 2c 00"))
    × (leaf_bytes (literal 0 lit.Integer 16 (at 0 0 17)) ≡ hex (codes "40 04 00 00 17 10 00"))
    × (leaf_bytes (literal 0 (lit.StrRaw 2) 0 (at 0 0 8)) ≡ hex (codes "00 02 00 00 2f 02 00 00"))
unfolding span_bytes reference_bytes literal_form
leaves = (refl, refl, refl, refl, refl, refl, refl)
