-- Ranges as numbers; spans, their parts, and the text of a span.
use Rattle.std.specs.Prelude.{ℕ, List, ◌++◌, codes, decimal}
use Rattle.tt_base.specs.declared.text_range.TextRange.{TextRange}
use Rattle.tt_base.specs.declared.text_range.TextSize.{TextSize}
use Rattle.tt_base.specs.declared.span.Span.{Span}
use Rattle.tt_base.specs.declared.span.SpanPart.{SpanPart}

-- the number of bytes
abbrev pub size_of : TextSize → ℕ
size_of size = size.raw

-- the start of a range
abbrev pub start_of : TextRange → ℕ
start_of range = range.start.raw

-- the end of a range
abbrev pub end_of : TextRange → ℕ
end_of range = range.end.raw

-- a span without its range
abbrev pub part_of : Span → SpanPart
part_of span = record { anchor = span.anchor; ctx = span.ctx }

-- the span of a part with a range
abbrev pub span_in : SpanPart → TextRange → Span
span_in part range = record { range = range; anchor = part.anchor; ctx = part.ctx }

-- file:ast@start..end#ctx, in decimal
abbrev pub span_text : Span → List ℕ
span_text span =
    decimal span.anchor.file_id.0 ++ codes ":" ++ decimal span.anchor.ast_id.0 ++ codes "@"
    ++ decimal (start_of span.range) ++ codes ".." ++ decimal (end_of span.range) ++ codes "#" ++ decimal span.ctx.0
