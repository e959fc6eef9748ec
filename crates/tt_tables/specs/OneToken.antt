-- The parts of a span, and of a literal, determine it.
use Rattle.std.proofs.Common.{◌≡◌, ◌≤◌, ℕ, ◌-◌, List, length, arith, IsCharBoundary}
use Rattle.tt_base.specs.declared.literal.Literal.{Literal}
use Rattle.tt_base.specs.declared.span.Span.{Span}
use Rattle.tt_base.specs.Span.{start_of, end_of, part_of}
use Rattle.std.proofs.Props.{props}
use Rattle.std.specs.Coded.{le_prop}
use mathlib.Core.HLevel.{is_prop→PathP}
use Rattle.tt_base.proofs.Ranges.{same_range}

-- Spans with the same part, start and length are equal.
pub span_from : (a b : Span) → part_of a ≡ part_of b → start_of a.range ≡ start_of b.range
    → end_of a.range - start_of a.range ≡ end_of b.range - start_of b.range → a ≡ b
span_from a b part start long = λ i. record { range = range i; anchor = (part i).anchor; ctx = (part i).ctx }
  where
    range : a.range ≡ b.range
    range = same_range a.range b.range start (omega (arith, start, long, a.range.ordered, b.range.ordered))

-- Literals with the same parts are equal.
pub literal_is : (a b : Literal) → a.symbol ≡ b.symbol → a.span ≡ b.span → a.kind ≡ b.kind → a.suffix_len ≡ b.suffix_len → a ≡ b
literal_is a b e f g h =
    λ i. record {
      symbol = e i;
      span = f i;
      kind = g i;
      suffix_len = h i;
      fits = is_prop→PathP (λ i. h i ≤ length (e i)) (λ i. le_prop) a.fits b.fits i;
      cuts = is_prop→PathP (λ i. IsCharBoundary (e i) (length (e i) - h i)) (λ i. boundary_prop (e i) (length (e i) - h i)) a.cuts b.cuts i;
    }
  where
    boundary_prop : (text : List ℕ) (n : ℕ) → IsProp (IsCharBoundary text n)
    boundary_prop text n = hlevel props
