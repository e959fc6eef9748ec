-- No arrival so far is at the last cell.
use Rattle.std.proofs.Common.{ℕ, ◌<◌, map}
use Rattle.mbe_program.specs.Searching.{coming_of, EndsAt}
use Rattle.mbe_program.proofs.outcome.last_arrival.Given as goal

abbrev pub invariant-loop-number : goal.invariant-loop-number
invariant-loop-number l = (k : ℕ) → k < l.number → EndsAt (map coming_of l.log) k → ⊥
