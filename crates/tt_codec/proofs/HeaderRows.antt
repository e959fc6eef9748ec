-- The bytes of headers. The expected ones were worked out by hand.
use Rattle.std.proofs.Common.{◌≡◌, ℕ, codes, refl}
use Rattle.tt_base.specs.declared.delimiter.DelimiterKind.{DelimiterKind}
use Rattle.tt_base.specs.declared.delimiter.DelimiterKind.TheVariants.{Parenthesis, Brace, InvisibleOpaque}
use Rattle.tt_codec.specs.declared.entry.HeaderEntry.{HeaderEntry}
use Rattle.tt_codec.specs.Header.{header_bytes}
use Rattle.tt_codec.specs.declared.span.SpanNumbers.{SpanNumbers}
use Rattle.tt_codec.specs.SpanNumbers.{span_bytes}
use Rattle.tt_codec.proofs.ByteRows.{at}
use Rattle.tt_base.proofs.Samples.{hex}

abbrev round : DelimiterKind → (opening closing : SpanNumbers) → (len child_bytes : ℕ) → HeaderEntry
round kind opening closing len child_bytes = record { opening = opening; closing = closing; kind = kind; len = len; child_bytes = child_bytes }

-- parentheses without tokens inside
abbrev empty : (opening closing : SpanNumbers) → HeaderEntry
empty opening closing = round Parenthesis opening closing 0 0

delimiters_of_one : (header_bytes (empty (at 0 0 1) (at 0 1 1)) ≡ hex (codes "40 00 00 00 00 00 00"))
    × (header_bytes (empty (at 0 0 1) (at 0 300 1)) ≡ hex (codes "00 0b 00 00 20 00 00"))
    × (header_bytes (empty (at 0 0 1) (at 0 2047 1)) ≡ hex (codes "c0 3f 00 00 e0 00 00"))
    × (header_bytes (empty (at 0 0 1) (at 0 2048 1)) ≡ hex (codes "40 00 00 00 05 40 00 00 04 00 00 00 00 00 00 00 00"))
unfolding header_bytes span_bytes
delimiters_of_one = (refl, refl, refl, refl)

other_lengths : (header_bytes (round Brace (at 0 5 4) (at 0 5 4) 1 5) ≡ hex (codes "00 81 02 00 09 01 05"))
    × (header_bytes (empty (at 0 0 2) (at 0 7 2)) ≡ hex (codes "80 00 00 00 e1 00 00"))
    × (header_bytes (empty (at 0 0 2) (at 0 8 2)) ≡ hex (codes "80 00 00 00 02 08 00 00 00"))
    × (header_bytes (empty (at 0 0 2) (at 0 255 2)) ≡ hex (codes "80 00 00 00 02 ff 00 00 00"))
    × (header_bytes (empty (at 0 0 2) (at 0 256 2)) ≡ hex (codes "80 00 00 00 05 80 00 80 00 00 00 00 00 00 00 00 00"))
unfolding header_bytes span_bytes
other_lengths = (refl, refl, refl, refl, refl)

other_parts : (header_bytes (empty (at 0 10 1) (at 1 20 1)) ≡ hex (codes "40 00 05 00 22 0a 00 00 00"))
    × (header_bytes (empty (at 0 0 1) (at 127 1 1)) ≡ hex (codes "40 00 00 00 e2 01 00 0f 00"))
    × (header_bytes (empty (at 0 0 1) (at 128 1 1)) ≡ hex (codes "40 00 00 00 05 40 c0 00 00 10 00 00 00 00 00 00 00 00 00 00 00"))
unfolding header_bytes span_bytes
other_parts = (refl, refl, refl)

closed_before : header_bytes (empty (at 0 5 1) (at 0 0 1)) ≡ hex (codes "40 80 02 00 05 40 00 00 00 00 00 00 00 00 00 00 00")
unfolding header_bytes span_bytes
closed_before = refl

-- an opaque one has no shorter format
opaque : header_bytes (round InvisibleOpaque (at 0 0 1) (at 0 1 1) 0 0) ≡ hex (codes "40 00 00 00 25 40 80 00 00 00 00 00 00 00 00 00 00")
unfolding header_bytes span_bytes
opaque = refl

many_bytes : (header_bytes (round Parenthesis (at 0 0 1) (at 0 1 1) 51 255) ≡ hex (codes "40 00 00 00 00 33 ff"))
    × (header_bytes (round Parenthesis (at 0 0 1) (at 0 1 1) 52 260) ≡ hex (codes "40 00 00 00 02 01 34 40 10"))
unfolding header_bytes span_bytes
many_bytes = (refl, refl)
