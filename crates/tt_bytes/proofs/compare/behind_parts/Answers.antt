use Rattle.std.proofs.Common.{Some}
use Rattle.std.proofs.lemmas.List.{drop_all}
use Rattle.tt_bytes.proofs.Behind.{parts_step, parts_end}
use Rattle.tt_bytes.proofs.compare.behind_parts.Goals as goal

pub loop-part-preserved : goal.loop-part-preserved
loop-part-preserved c result later =
    c.loop-part.invariant result (parts_step c.args.parts.now c.loop-part.part-index _ _ _ result c.loop-part-test.true c.in_ok-rest.ensures later)

pub returns : goal.returns
returns c =
    c.loop-part.invariant (Some c.loop-part.rest) (parts_end _ c.loop-part.rest (drop_all c.loop-part.part-index c.args.parts.now c.loop-part-test.false))
