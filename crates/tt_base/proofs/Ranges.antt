-- Equal ranges.
use Rattle.std.proofs.Common.{◌≡◌, ◌≤◌}
use Rattle.std.specs.Coded.{le_prop}
use mathlib.Core.HLevel.{is_prop→PathP}
use Rattle.tt_base.specs.declared.text_range.TextRange.{TextRange}
use Rattle.tt_base.specs.Span.{start_of, end_of}

-- Ranges with the same ends are equal.
pub same_range : (a b : TextRange) → start_of a ≡ start_of b → end_of a ≡ end_of b → a ≡ b
same_range a b starts ends =
    λ i. record {
      start = record { raw = starts i };
      end = record { raw = ends i };
      ordered = is_prop→PathP (λ j. starts j ≤ ends j) (λ j. le_prop) a.ordered b.ordered i;
    }
