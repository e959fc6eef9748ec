-- All values are different exactly if those to come are.
use Rattle.std.proofs.Common.{◌↔◌, length}
use Rattle.std.specs.List.{IsDistinct}
use Rattle.tt_bytes.proofs.distinct.few_differ.Given as goal

abbrev pub invariant-loop-first : goal.invariant-loop-first
invariant-loop-first g l = record { differ : IsDistinct g.T.PartialEq.eq l.left ↔ IsDistinct g.T.PartialEq.eq l.values }

abbrev pub decreases-loop-first : goal.decreases-loop-first
decreases-loop-first g l = length l.left
