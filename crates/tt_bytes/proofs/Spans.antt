-- A span that numbers name, and the use of its part.
use Rattle.std.proofs.Common.{◌≡◌, ℕ, zero, suc, ◌+◌, ◌<◌, ◌^◌, List, [], ◌∷◌, Some, length, slice_get, refl, ap, ◌∙◌, arith}
use Rattle.std.proofs.lemmas.List.{length-map}
use Rattle.std.proofs.lemmas.Option.{slice_get_within}
use Rattle.tt_base.specs.contracts.span.SpanPartEq.TheImpl.Laws as part_eq
use Rattle.tt_base.specs.declared.span.SpanPart.{SpanPart}
use Rattle.tt_base.specs.declared.text_range.TextRange.{TextRange}
use Rattle.tt_base.specs.Span.{span_in}
use Rattle.tt_bytes.specs.Uses.{IsOneMoreAt, AreUsed, UsesSpan}
use Rattle.tt_bytes.proofs.Counting.{counted_at}
use Rattle.tt_codec.specs.declared.span.SpanNumbers.{SpanNumbers}
use Rattle.tt_tables.proofs.TokenTables.{part_sound}
use Rattle.tt_tables.specs.TableOrder.{uses_of}
use Rattle.tt_tables.specs.Uses.{same_part}

-- A list has an item at each index less than its length.
pub something_at : {X : Type 0} (xs : List X) (i : ℕ) → i < length xs → (x : X) × (slice_get xs i ≡ Some x)
something_at [] i h = absurd (none h)
  where
    none : i < 0 → ⊥
    none h = omega arith
something_at (x ∷ xs) zero h = (x, refl)
something_at (x ∷ xs) (suc i) h = something_at xs i (omega arith)

-- Numbers whose part is in the table, and whose end fits, name a span.
pub span_used : (parts : List SpanPart) (counts new : List ℕ) (numbers : SpanNumbers) (before : List SpanPart) → AreUsed parts counts before
    → numbers.start < 2 ^ 32 → numbers.start + numbers.length < 2 ^ 32 → IsOneMoreAt counts numbers.part new → UsesSpan parts numbers new before
span_used parts counts new numbers before are start_fits end_fits (n, old, is) =
    let as_many : length counts ≡ length parts = ap length are.counted ∙ length-map parts (uses_of same_part before) in
    let within : numbers.part < length parts = omega (arith, as_many, slice_get_within counts numbers.part n old) in
    let (part, there) = something_at parts numbers.part within in
    let range : TextRange = record { start = record { raw = numbers.start }; end = record { raw = numbers.start + numbers.length }; ordered = omega arith } in
    record {
      span = span_in part range;
      found = λ symbols. record { part = there; start = refl; length = omega arith };
      range = (start_fits, end_fits);
      used = record {
        distinct = are.distinct;
        counted = is ∙ counted_at same_part part_eq.lawful.laws part_sound before parts counts numbers.part n part are.distinct there are.counted old;
      };
    }
