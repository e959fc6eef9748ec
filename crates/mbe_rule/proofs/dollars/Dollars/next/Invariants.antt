-- What is still to come is the same as at the beginning.
use Rattle.std.proofs.Common.{◌≡◌, ◌+◌, ◌*◌, length, reverse}
use Rattle.mbe_rule.specs.DollarsLeft.{behind_in}
use Rattle.mbe_rule.proofs.DollarSteps.{tokens_in}
use Rattle.mbe_rule.proofs.dollars.Dollars.next.Given as goal

abbrev pub invariant-loop-level : goal.invariant-loop-level
invariant-loop-level l = behind_in (reverse l.self.levels.items) ≡ behind_in (reverse l.initial.self.levels.items)

abbrev pub decreases-loop-level : goal.decreases-loop-level
decreases-loop-level l = 2 * tokens_in (reverse l.self.levels.items) + length l.self.levels.items
