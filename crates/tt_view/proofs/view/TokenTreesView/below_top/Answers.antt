use Rattle.std.proofs.Common.{rules, ◌≡◌, ◌-◌, ◌∙◌, sym, arith}
use Rattle.tt_base.specs.Forest.{size, end, join}
use Rattle.tt_base.specs.Unflat.{join-end}
use Rattle.tt_pack.specs.ReaderOf.{ahead_of}
use Rattle.tt_view.proofs.Cuts.{trees_are}
use Rattle.tt_view.proofs.view.TokenTreesView.below_top.Goals as goal

pub invariant_of-result : goal.invariant_of-result
invariant_of-result c =
    let t = c.args.packed.now.children in
    record { trees = ((t, end), (c.below_top.ensures.ahead ∙ sym (join-end t), omega (arith, c.len.ensures))) }

pub returns : goal.returns
returns c =
    let t = c.args.packed.now.children in
    let there : ahead_of c.below_top.result ≡ join t end = c.below_top.ensures.ahead ∙ sym (join-end t) in
    let e : size t ≡ c.len.result - 1 = omega (arith, c.len.ensures) in
    search (rules, trees_are)
