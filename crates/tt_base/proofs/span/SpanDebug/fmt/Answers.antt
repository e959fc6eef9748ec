use Rattle.std.proofs.Common.{rules}
use Rattle.tt_base.proofs.SpanTexts.{span_text-from_left}
use Rattle.tt_base.proofs.span.SpanDebug.fmt.Goals as goal

pub returns : goal.returns
returns g c = search (rules, span_text-from_left)
