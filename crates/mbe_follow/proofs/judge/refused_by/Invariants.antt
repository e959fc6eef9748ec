-- What is refused is refused by the levels that are left.
use Rattle.std.proofs.Common.{◌≡◌, ◌≤◌, take, length, map, reverse}
use Rattle.mbe_follow.specs.Following.{first_refused}
use Rattle.mbe_follow.specs.Judging.{all_before, reach_of}
use Rattle.mbe_follow.proofs.judge.refused_by.Given as goal

abbrev pub invariant-loop-left : goal.invariant-loop-left
invariant-loop-left l =
    record {
      few : l.left ≤ length l.levels;
      same : first_refused l.fragment (all_before (map reach_of (reverse (take l.left l.levels)))) ≡ first_refused l.fragment (all_before (map reach_of (reverse l.levels)));
    }

abbrev pub decreases-loop-left : goal.decreases-loop-left
decreases-loop-left l = l.left
