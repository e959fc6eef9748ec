-- The first fault is that of what was judged, and of what is left.
use Rattle.std.proofs.Common.{◌≡◌}
use Rattle.tt.specs.Iters.{rest_of}
use Rattle.mbe_pattern.specs.Faults.{pattern_fault}
use Rattle.mbe_pattern.specs.Validating.{levels_left, state_of}
use Rattle.mbe_pattern.proofs.ValidateSteps.{fault_left, work_of}
use Rattle.mbe_pattern.proofs.validation.first_fault.Given as goal

abbrev pub invariant-loop-level : goal.invariant-loop-level
invariant-loop-level l = fault_left (state_of l.validated) ≡ pattern_fault (rest_of l.fn.trees)

abbrev pub decreases-loop-level : goal.decreases-loop-level
decreases-loop-level l = work_of (levels_left l.validated.levels.items)
