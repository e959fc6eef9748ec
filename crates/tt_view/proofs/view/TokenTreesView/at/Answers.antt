use Rattle.std.proofs.Common.{rules, ◌≡◌, sym, subst, ◌∙◌}
use Rattle.tt_base.specs.Forest.{size, join}
use Rattle.tt_pack.specs.ReaderOf.{ahead_of}
use Rattle.tt_view.specs.HeldPlaces.{HasAheadIn}
use Rattle.tt_view.proofs.Cuts.{trees_are}
use Rattle.tt_view.proofs.HeldPlaces.{ahead_is}
use Rattle.tt_view.proofs.view.TokenTreesView.at.Goals as goal

pub at-requires : goal.at-requires
at-requires c = subst (λ root. HasAheadIn root c.args.offset) (sym c.packed.ensures) c.requires.0

pub invariant_of-result : goal.invariant_of-result
invariant_of-result c =
    let h = c.requires in
    let ahead = ahead_is c.packed.result.now c.args.tree.now c.at.result c.args.offset c.packed.ensures c.at.ensures.ahead h.0.0 h.0.1 in
    record { trees = (h.1.0, (ahead ∙ h.1.1.0, h.1.1.1)) }

pub returns : goal.returns
returns c h =
    let there : ahead_of c.at.result ≡ join h.1.0.0 h.1.0.1 =
    ahead_is c.packed.result.now c.args.tree.now c.at.result c.args.offset c.packed.ensures c.at.ensures.ahead h.0.0 h.0.1 ∙ h.1.1.0 in
    let e : size h.1.0.0 ≡ c.args.len = h.1.1.1 in
    search (rules, trees_are)
