use Rattle.std.proofs.Common.{rules, arith}
use Rattle.tt_bytes.proofs.Spans.{span_used}
use Rattle.tt_bytes.proofs.uses.use_span.Goals as goal

pub returns : goal.returns
returns c parts before are added = span_used parts _ _ _ before are (search (rules, arith)) (search (rules, arith)) (c.add_use.ensures added)
