use Rattle.std.proofs.Common.{rules, ◌≡◌, refl}
use Rattle.tt_base.specs.Forest.{size, end, join}
use Rattle.tt_pack.specs.ReaderOf.{ahead_of}
use Rattle.tt_view.proofs.Cuts.{trees_are}
use Rattle.tt_view.proofs.view.TokenTreesView.empty.Goals as goal

pub invariant_of-result : goal.invariant_of-result
invariant_of-result c = record { trees = ((end, end), (c.empty.ensures.ahead, refl)) }

pub returns : goal.returns
returns c =
    let there : ahead_of c.empty.result ≡ join end end = c.empty.ensures.ahead in
    let e : size end ≡ 0 = refl in
    search (rules, trees_are)
