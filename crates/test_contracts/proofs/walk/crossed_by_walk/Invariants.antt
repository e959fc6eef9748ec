-- The walk is that of the trees.
use Rattle.std.proofs.Common.{◌≡◌, length}
use Rattle.tt.specs.Views.{trees_of}
use Rattle.tt.specs.Walk.{events_ahead}
use Rattle.test_contracts.proofs.walk.crossed_by_walk.Given as goal

abbrev pub invariant-loop-cursor : goal.invariant-loop-cursor
invariant-loop-cursor l = l.cursor.origin ≡ trees_of l.fn.trees

abbrev pub decreases-loop-cursor : goal.decreases-loop-cursor
decreases-loop-cursor l = length (events_ahead l.cursor)
