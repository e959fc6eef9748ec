use Rattle.std.proofs.Common.{rules, reverse, sym, subst}
use Rattle.tt_view.specs.HeldPlaces.{AreHeld, HasTrees}
use Rattle.tt_view.proofs.TreeWalks.{behind_top, trees_are_at}
use Rattle.tt_view.proofs.tree_walk.TreeWalk.through_front.Goals as goal

pub invariant_of-result : goal.invariant_of-result
invariant_of-result c =
    record {
      held = (
        (behind_top c.args.tree c.packed.result.now c.below_top.result c.place-offset.result c.args.len c.requires.0 c.requires.1 c.packed.ensures
            c.below_top.ensures.ahead c.below_top.ensures.bytes c.below_top.ensures.tables c.place-offset.ensures.value).0,
        subst (λ places. AreHeld c.args.tree (reverse places)) (sym c.new.ensures.items) tt,
      );
    }

pub returns-clause-innermost : goal.returns-clause-innermost
returns-clause-innermost c front is =
    let there : HasTrees c.args.tree (record { offset = c.place-offset.result; len = c.args.len }) front =
    behind_top c.args.tree c.packed.result.now c.below_top.result c.place-offset.result c.args.len front is c.packed.ensures
    c.below_top.ensures.ahead c.below_top.ensures.bytes c.below_top.ensures.tables c.place-offset.ensures.value in
    search (rules, trees_are_at, there)
