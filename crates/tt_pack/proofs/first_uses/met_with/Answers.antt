use Rattle.std.proofs.Common.{arith}
use Rattle.tt_pack.proofs.InOrder.{noted_again, noted_early, noted_next}
use Rattle.tt_pack.proofs.first_uses.met_with.Goals as goal

pub returns-then-place-met-clause-turn : goal.returns-then-place-met-clause-turn
returns-then-place-met-clause-turn c = noted_again c.args.met c.args.place (omega (arith, c.if-place-met.true))

pub returns-then-place-met-2-clause-none : goal.returns-then-place-met-2-clause-none
returns-then-place-met-2-clause-none c = noted_early c.args.met c.args.place (omega (arith, c.if-place-met-2.true))

pub returns-clause-turn : goal.returns-clause-turn
returns-clause-turn c = noted_next c.args.met c.args.place (omega (arith, c.if-place-met.false, c.if-place-met-2.false))
