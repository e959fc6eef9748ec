-- The shortest bytes of two headers. They were worked out by hand.
use Rattle.std.proofs.Common.{ℕ, List, codes, inl, inr, refl, lit<, not-le_of_lt}
use Rattle.tt_base.specs.declared.delimiter.DelimiterKind.TheVariants.{Parenthesis}
use Rattle.tt_codec.specs.declared.entry.HeaderEntry.{HeaderEntry}
use Rattle.tt_codec.specs.Header.{header_bytes}
use Rattle.tt_tables.specs.Shortest.{CanHold, IsShortest}
use Rattle.tt_codec.specs.declared.span.SpanNumbers.{SpanNumbers}
use Rattle.tt_codec.specs.SpanNumbers.{span_bytes}
use Rattle.tt_codec.proofs.ByteRows.{at}
use Rattle.tt_base.proofs.Samples.{hex}
use Rattle.tt_tables.proofs.Shortest.{shortest}

-- parentheses without tokens inside
abbrev empty : (opening closing : SpanNumbers) → HeaderEntry
empty opening closing = record { opening = opening; closing = closing; kind = Parenthesis; len = 0; child_bytes = 0 }

-- at 0..1 and 1..2
abbrev near : HeaderEntry
near = empty (at 0 0 1) (at 0 1 1)

-- these in the four formats
abbrev first : List ℕ
first = hex (codes "40 00 00 00 00 00 00")

abbrev second : List ℕ
second = hex (codes "40 00 00 00 21 00 00")

abbrev third : List ℕ
third = hex (codes "40 00 00 00 02 01 00 00 00")

abbrev fourth : List ℕ
fourth = hex (codes "40 00 00 00 05 40 80 00 00 00 00 00 00 00 00 00 00")

-- All four can hold them.
all_can : CanHold near first × CanHold near second × CanHold near third × CanHold near fourth
unfolding span_bytes
all_can = (inl (refl, refl), inr (inl (refl, refl)), inr (inr (inl (refl, refl))), inr (inr (inr refl)))

-- The first and the second are the shortest; the third and the fourth are not.
two_are : IsShortest near first × IsShortest near second
unfolding header_bytes span_bytes
two_are = (shortest near, (all_can.1, (shortest near).1))

third_is_not : IsShortest near third → ⊥
third_is_not h = not-le_of_lt (lit< tt) (h.1 first all_can.0)

fourth_is_not : IsShortest near fourth → ⊥
fourth_is_not h = not-le_of_lt (lit< tt) (h.1 third all_can.2)

-- The fourth is the shortest for parentheses that close at 0..1, before they open at 5..6.
backwards : IsShortest (empty (at 0 5 1) (at 0 0 1)) (hex (codes "40 80 02 00 05 40 00 00 00 00 00 00 00 00 00 00 00"))
unfolding header_bytes span_bytes
backwards = shortest (empty (at 0 5 1) (at 0 0 1))
