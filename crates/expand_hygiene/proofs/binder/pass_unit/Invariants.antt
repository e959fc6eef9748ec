-- The trees so far capture nothing.
use Rattle.std.proofs.Common.{◌-◌}
use Rattle.tt.specs.Forest.{flat}
use Rattle.tt.specs.SubtreeViews.{flat_rest}
use Rattle.expand_hygiene.specs.Walks.{LeavesUnit}
use Rattle.expand_hygiene.proofs.binder.pass_unit.Given as goal

abbrev pub invariant-loop : goal.invariant-loop
invariant-loop l = LeavesUnit l.given l.name l.count (l.count - l.counter) (flat (flat_rest l.fn.tokens)) (flat (flat_rest l.tokens))
