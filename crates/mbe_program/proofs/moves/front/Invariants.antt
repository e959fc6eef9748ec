-- Passing what is left leaves the same as passing the whole.
use Rattle.std.proofs.Common.{◌≡◌, ◌-◌}
use Rattle.tt.specs.Gluing.{after_trees}
use Rattle.tt.specs.Iters.{rest_of}
use Rattle.tt.specs.Views.{trees_of}
use Rattle.mbe_program.proofs.moves.front.Given as goal

abbrev pub invariant-loop : goal.invariant-loop
invariant-loop l = after_trees (l.fn.count - l.counter) (rest_of l.rest) ≡ after_trees l.fn.count (trees_of l.fn.trees)
