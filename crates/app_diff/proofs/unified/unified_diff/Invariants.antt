use Rattle.std.proofs.Common.{◌-◌, ◌≤◌, length}
use Rattle.app_diff.proofs.unified.unified_diff.Given as goal

abbrev pub invariant-groups : goal.invariant-groups
invariant-groups l = l.at ≤ length l.all.items

abbrev pub decreases-groups : goal.decreases-groups
decreases-groups l = length l.all.items - l.at
