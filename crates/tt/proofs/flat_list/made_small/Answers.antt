use Rattle.std.proofs.Common.{◌≡◌, rules}
use Rattle.tt.proofs.FlatLists.{one_more}
use Rattle.tt.proofs.flat_list.made_small.Goals as goal

pub loop-token-preserved : goal.loop-token-preserved
loop-token-preserved c =
    let copy : c.in_ok-clone.field-0 ≡ c.token-item.result = search rules in
    one_more _ _ _ _ _ _ c.loop-token-test.true c.loop-token.invariant c.token-item.is copy c.in_ok-append.ensures.ok
