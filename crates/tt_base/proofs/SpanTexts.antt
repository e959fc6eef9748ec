-- The text of a span, from its first number on.
use Rattle.std.proofs.Common.{◌≡◌, ◌∷◌, ◌++◌, append_assoc}
use Rattle.std.specs.Fmt.{decimal}
use Rattle.tt_base.specs.declared.span.Span.{Span}
use Rattle.tt_base.specs.Span.{start_of, end_of, span_text}

pub span_text-from_left : (span : Span) → span_text span
    ≡ decimal span.anchor.file_id.0 ++ 58 ∷ (decimal span.anchor.ast_id.0 ++ 64 ∷ (decimal (start_of span.range) ++ 46 ∷ 46 ∷ (decimal (end_of span.range) ++ 35 ∷ decimal span.ctx.0)))
span_text-from_left span = simp append_assoc
