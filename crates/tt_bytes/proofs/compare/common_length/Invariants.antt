use Rattle.std.proofs.Common.{◌≡◌, ◌+◌, ◌-◌, drop, length}
use Rattle.tt_bytes.specs.Faults.{common_length}
use Rattle.tt_bytes.proofs.compare.common_length.Given as goal

abbrev pub invariant-loop-at : goal.invariant-loop-at
invariant-loop-at l = l.at + common_length (drop l.at l.one) (drop l.at l.other) ≡ common_length l.one l.other

abbrev pub decreases-loop-at : goal.decreases-loop-at
decreases-loop-at l = length l.one - l.at
