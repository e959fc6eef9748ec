use Rattle.std.proofs.Common.{rules, ◌≡◌, arith}
use Rattle.tt_base.specs.Forest.{only, size, end, join}
use Rattle.tt_pack.specs.ReaderOf.{ahead_of}
use Rattle.tt_view.proofs.Cuts.{trees_are}
use Rattle.tt_view.proofs.view.TokenTreesView.whole.Goals as goal

pub invariant_of-result : goal.invariant_of-result
invariant_of-result c =
    let t = c.args.packed.now in
    record { trees = ((only t, end), (c.start.ensures.ahead, omega (arith, c.len.ensures))) }

pub returns : goal.returns
returns c =
    let t = c.args.packed.now in
    let there : ahead_of c.start.result ≡ join (only t) end = c.start.ensures.ahead in
    let e : size (only t) ≡ c.len.result = omega (arith, c.len.ensures) in
    search (rules, trees_are)
