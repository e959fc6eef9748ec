use Rattle.std.proofs.Common.{rules, ◌∷◌, reverse, refl, ap, sym}
use Rattle.tt_base.specs.Moves.{after_tree}
use Rattle.tt_base.specs.Siblings.{children_of}
use Rattle.tt_view.specs.HeldPlaces.{HasTrees, HaveTrees}
use Rattle.tt_view.specs.TreeWalks.{innermost, outer_levels, first_header}
use Rattle.tt_view.proofs.TreeWalks.{trees_are_at, all_are_at, have_same, on_err, pushed}
use Rattle.tt_view.proofs.tree_walk.TreeWalk.enter.Goals as goal

pub returns-in_default-clause-header : goal.returns-in_default-clause-header
returns-in_default-clause-header c = sym (ap first_header (c.in_default.ensures.token c.args.self.now.held.0))

pub returns-in_err-push-clause-err : goal.returns-in_err-push-clause-err
returns-in_err-push-clause-err c =
    let self = c.args.self.now in
    let first : HasTrees self.tree self.place (innermost self) = (self.held.0, refl) in
    let outer : HaveTrees self.tree (reverse c.push.new.self.items) (outer_levels self) =
    have_same self.tree (reverse self.outer.items) (reverse c.push.new.self.items) (outer_levels self) (ap reverse (sym c.in_err-push.ensures.items)) (self.held.1, refl) in
    on_err c.from_residual.result (search (rules, trees_are_at, first), search (rules, all_are_at, outer))

pub invariant_of-self-2 : goal.invariant_of-self-2
invariant_of-self-2 c =
    let self = c.args.self.now in
    let (inside, is) = c.in-Some.ensures.below self.held.0 in
    let behind = c.in-Some.ensures.rest self.held.0 in
    record {
      held = (
        inside,
        (pushed self.tree c.pass_tree.new.self self.outer.items c.push.new.self.items c.in_ok-push.ensures.items (after_tree (innermost self)) (outer_levels self) behind (self.held.1, refl)).0,
      );
    }

pub returns-clause-entered : goal.returns-clause-entered
returns-clause-entered c =
    let self = c.args.self.now in
    let inside : HasTrees self.tree c.in-Some.inside (children_of (innermost self)) = c.in-Some.ensures.below self.held.0 in
    let behind = c.in-Some.ensures.rest self.held.0 in
    let outer : HaveTrees self.tree (reverse c.push.new.self.items) (after_tree (innermost self) ∷ outer_levels self) =
    pushed self.tree c.pass_tree.new.self self.outer.items c.push.new.self.items c.in_ok-push.ensures.items (after_tree (innermost self)) (outer_levels self) behind (self.held.1, refl) in
    (search (rules, trees_are_at, inside), search (rules, all_are_at, outer))
