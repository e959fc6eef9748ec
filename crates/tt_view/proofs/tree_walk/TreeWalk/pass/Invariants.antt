-- The trees that are left after so many.
use Rattle.std.proofs.Common.{◌≡◌, ◌-◌}
use Rattle.tt_base.specs.Gluing.{after_trees}
use Rattle.tt_view.specs.HeldPlaces.{IsHeld, trees_at}
use Rattle.tt_view.specs.TreeWalks.{innermost}
use Rattle.tt_view.proofs.tree_walk.TreeWalk.pass.Given as goal

abbrev pub invariant-loop : goal.invariant-loop
invariant-loop l =
    (held : IsHeld l.fn.self.tree l.place)
    × (after_trees (l.fn.count - l.counter) (trees_at l.fn.self.tree l.place held) ≡ after_trees l.fn.count (innermost l.fn.self))
