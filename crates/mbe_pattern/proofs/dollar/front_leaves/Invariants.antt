-- The leaves that were taken and those at the front of what is left are those at the front of the whole.
use Rattle.std.proofs.Common.{◌≡◌, ◌-◌, ◌++◌}
use Rattle.tt.specs.Iters.{rest_of}
use Rattle.mbe_pattern.specs.Units.{front_leaves}
use Rattle.mbe_pattern.proofs.dollar.front_leaves.Given as goal

abbrev pub invariant-loop : goal.invariant-loop
invariant-loop l = l.leaves.items ++ front_leaves (l.fn.count - l.counter) (rest_of l.trees) ≡ front_leaves l.fn.count (rest_of l.fn.trees)
