-- What is bound in the rounds that are passed is at that time, in the repetitions that are left.
use Rattle.std.proofs.Common.{◌≡◌, ◌-◌, ◌≤◌, drop, get_or, length, map}
use Rattle.tt.specs.Views.{trees_of}
use Rattle.mbe_matcher.specs.Bindings.{Bound, none}
use Rattle.mbe_rules.specs.Rounds.{IsTaken, bound_in, dones, nested}
use Rattle.mbe_rules.proofs.taken.Taken.seen_in.Given as goal

abbrev pub invariant-loop-ends : goal.invariant-loop-ends
invariant-loop-ends l =
    record {
      few : l.depth ≤ length l.rounds;
      here :
          (bound : Bound) → (taken : IsTaken bound l.self)
          → bound_in (dones l.rounds) bound
          ≡ bound_in (drop l.depth (dones l.rounds)) (get_or (nested (drop l.depth taken.counts) (map trees_of l.self.trees.items)) l.time none);
    }

abbrev pub decreases-loop-ends : goal.decreases-loop-ends
decreases-loop-ends l = length l.self.ends.items - l.depth
