use Rattle.tt.specs.Forest.{flat}
use Rattle.tt.specs.SubtreeViews.{flat_rest}
use Rattle.expand_hygiene.proofs.Walking.{drop_next}
use Rattle.expand_hygiene.proofs.binder.skip.Goals as goal

pub loop-preserved : goal.loop-preserved
loop-preserved c = drop_next c.loop.counter (flat (flat_rest c.args.tokens.now)) (flat (flat_rest c.loop.tokens)) c.next.result (flat (flat_rest c.next.new.self)) c.loop.invariant c.next.ensures.steps
