use Rattle.std.proofs.Common.{◌≢◌, [], ◌∙◌, sym, append-nil, rules}
use Rattle.app_language.proofs.Spans.{span_unique}
use Rattle.app_language.proofs.command.span.SpanWord.read.Goals as goal

pub returns-in_err-span : goal.returns-in_err-span
returns-in_err-span c = rw c.from_residual.ensures (λ span fits e. c.in_err-span.ensures span [] fits tt (e ∙ sym (append-nil _)))

pub returns-then-not-is_empty : goal.returns-then-not-is_empty
returns-then-not-is_empty c =
    let some : c.in_ok-span.rest.now ≢ [] = search rules in
    λ span fits e. some (span_unique _ _ _ span [] c.in_ok-span.ensures.1 fits c.in_ok-span.ensures.2 tt c.in_ok-span.ensures.0 (e ∙ sym (append-nil _)))
