use Rattle.std.proofs.Common.{arith}
use Rattle.tt_pack.proofs.PlacesNamed.{one_more_at}
use Rattle.tt_pack.proofs.interned.values_at.Goals as goal

pub loop-index-preserved : goal.loop-index-preserved
loop-index-preserved g c =
    one_more_at c.args.values.now c.args.places.now c.loop-index.index c.loop-index.found.items _ c.index-values-places.result (omega (arith, c.loop-index-test.true)) c.requires
    c.index-values-places.is c.in_ok-push.ensures.items c.loop-index.invariant
