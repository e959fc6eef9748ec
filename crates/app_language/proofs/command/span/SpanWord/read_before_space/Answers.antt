use Rattle.std.proofs.Common.{◌∷◌, inl, lit<}
use Rattle.app_language.proofs.Spans.{span_unique}
use Rattle.app_language.proofs.command.span.SpanWord.read_before_space.Goals as goal

pub returns-in_err-span : goal.returns-in_err-span
returns-in_err-span c = rw c.from_residual.ensures (λ span rest fits e. c.in_err-span.ensures span (32 ∷ rest) fits (inl (lit< tt)) e)

pub returns-in_err-rest : goal.returns-in_err-rest
returns-in_err-rest c = rw c.from_residual-in_err-rest.ensures
    (λ span rest fits e.
    c.in_err-rest.ensures rest (span_unique _ _ _ span (32 ∷ rest) c.in_ok-span.ensures.1 fits c.in_ok-span.ensures.2 (inl (lit< tt)) c.in_ok-span.ensures.0 e))
