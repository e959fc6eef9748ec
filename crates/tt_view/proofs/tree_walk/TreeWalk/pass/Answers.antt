use Rattle.std.proofs.Common.{rules, ◌≡◌, ◌+◌, ◌-◌, ◌<◌, ◌≤◌, ap, sym, ◌∙◌, refl, reverse, arith}
use Rattle.tt_base.specs.Gluing.{after_trees}
use Rattle.tt_view.specs.HeldPlaces.{HasTrees, HaveTrees, trees_at}
use Rattle.tt_view.specs.TreeWalks.{innermost, outer_levels}
use Rattle.tt_view.proofs.TreeWalks.{trees_are_at, all_are_at, pass_next, pass_all}
use Rattle.tt_view.proofs.tree_walk.TreeWalk.pass.Goals as goal

pub loop-init : goal.loop-init
loop-init c =
    let all : c.args.count - 0 ≡ c.args.count = omega arith in
    (c.args.self.now.held.0, ap (λ n. after_trees n (innermost c.args.self.now)) all)

pub pass_tree-requires : goal.pass_tree-requires
pass_tree-requires c = c.loop.invariant.0

pub loop-preserved : goal.loop-preserved
loop-preserved c =
    let count = c.args.count in
    let i = c.loop.counter in
    let less : i < count = omega arith in
    let (held, left) = c.loop.invariant in
    let (behind, is) = c.pass_tree.ensures.rest held in
    (behind, ap (after_trees (count - (i + 1))) is ∙ sym (pass_next count i (trees_at c.args.self.now.tree c.loop.place held) less) ∙ left)

pub invariant_of-self : goal.invariant_of-self
invariant_of-self c = record { held = (c.loop.invariant.0, c.args.self.now.held.1) }

pub returns-clause-innermost : goal.returns-clause-innermost
returns-clause-innermost c =
    let self = c.args.self.now in
    let (held, left) = c.loop.invariant in
    let most : c.args.count ≤ c.loop.counter = omega arith in
    let there : HasTrees self.tree c.loop.place (after_trees c.args.count (innermost self)) =
    (held, sym (pass_all c.args.count c.loop.counter (trees_at self.tree c.loop.place held) most) ∙ left) in
    search (rules, trees_are_at, there)

pub returns-clause-outer : goal.returns-clause-outer
returns-clause-outer c =
    let self = c.args.self.now in
    let there : HaveTrees self.tree (reverse self.outer.items) (outer_levels self) = (self.held.1, refl) in
    search (rules, all_are_at, there)
