-- A token made from what numbers name is the token that they name.
use Rattle.std.proofs.Common.{◌≡◌, ℕ, ◌+◌, ◌-◌, Some, List, ap, sym, ◌∙◌, arith}
use Rattle.std.specs.List.{slice_get}
use Rattle.tt_base.specs.declared.leaf.Leaf.{Leaf}
use Rattle.tt_base.specs.declared.leaf.Leaf.TheVariants as leaf
use Rattle.tt_base.specs.declared.literal.LitKind.{LitKind}
use Rattle.tt_base.specs.declared.literal.Literal.{Literal}
use Rattle.tt_base.specs.declared.span.Span.{Span}
use Rattle.tt_base.specs.declared.span.SpanPart.{SpanPart}
use Rattle.tt_base.specs.declared.text_range.TextRange.{TextRange}
use Rattle.tt_base.specs.Fits.{SpanInRange, LeafInRange}
use Rattle.tt_base.specs.Token.{leaf_span}
use Rattle.tt_base.specs.Literal.{IsLiteral}
use Rattle.tt_base.specs.Span.{start_of, end_of, part_of, span_in}
use Rattle.tt_tables.specs.Tables.{Tables}
use Rattle.tt_tables.specs.OneToken.{span_from, literal_is}
use Rattle.tt_codec.specs.declared.entry.LeafEntry.TheVariants.{Literal as literal}
use Rattle.tt_codec.specs.declared.span.SpanNumbers.{SpanNumbers}
use Rattle.tt_tables.specs.Searches.{FindsSpan, FindsLeaf}

-- The span of a leaf in range is in range.
pub leaf_in_range : (it : Leaf) → LeafInRange it → SpanInRange (leaf_span it)
leaf_in_range (leaf.Literal it) range = range
leaf_in_range (leaf.Punct it) range = range.0
leaf_in_range (leaf.Ident it) range = range

-- A span made from what numbers name is the span that they name.
pub span_made : (tables : Tables) (numbers : SpanNumbers) (part : SpanPart) (range : TextRange) (span : Span)
    → slice_get tables.parts numbers.part ≡ Some part → start_of range ≡ numbers.start → end_of range ≡ numbers.start + numbers.length
    → FindsSpan tables numbers span → span_in part range ≡ span
span_made tables numbers part range span at start end found =
    span_from (span_in part range) span same (start ∙ found.start) long
  where
    both : Some part ≡ Some (part_of span)
    both = sym at ∙ found.part

    same : part ≡ part_of span
    same = cc both

    long : end_of range - start_of range ≡ end_of span.range - start_of span.range
    long = omega (arith, start, end, found.length)

-- A literal made from what numbers name is the leaf that they name.
pub literal_made : (tables : Tables) (symbol : ℕ) (kind : LitKind) (suffix_len : ℕ) (numbers : SpanNumbers) (text : List ℕ) (span : Span) (made : Literal) (it : Leaf)
    → slice_get tables.symbols symbol ≡ Some text → span ≡ leaf_span it → IsLiteral made text span kind suffix_len
    → FindsLeaf tables (literal symbol kind suffix_len numbers) it → leaf.Literal made ≡ it
literal_made tables symbol kind suffix_len numbers text span made (leaf.Literal it) at stands is found =
    let same : Some text ≡ Some it.symbol = sym at ∙ found.1 in
    ap leaf.Literal (literal_is made it (is.symbol ∙ cc same) (is.span ∙ stands) (is.kind ∙ found.2) (is.suffix_len ∙ found.3))
literal_made tables symbol kind suffix_len numbers text span made (leaf.Punct it) at stands is found = absurd found
literal_made tables symbol kind suffix_len numbers text span made (leaf.Ident it) at stands is found = absurd found

-- A leaf that numbers name has the span that they name.
pub leaf_span_found : (tables : Tables) (symbol : ℕ) (kind : LitKind) (suffix_len : ℕ) (numbers : SpanNumbers) (it : Leaf)
    → FindsLeaf tables (literal symbol kind suffix_len numbers) it → FindsSpan tables numbers (leaf_span it)
leaf_span_found tables symbol kind suffix_len numbers (leaf.Literal it) found = found.0
leaf_span_found tables symbol kind suffix_len numbers (leaf.Punct it) found = absurd found
leaf_span_found tables symbol kind suffix_len numbers (leaf.Ident it) found = absurd found
