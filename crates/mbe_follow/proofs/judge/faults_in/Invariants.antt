-- The pieces that are passed, from the last, are judged.
use Rattle.std.proofs.Common.{◌≡◌, ◌≤◌, drop, length}
use Rattle.mbe_follow.specs.Judging.{judged_by, judged_of}
use Rattle.mbe_follow.proofs.judge.faults_in.Given as goal

abbrev pub invariant-loop-left : goal.invariant-loop-left
invariant-loop-left l =
    record {
      few : l.left ≤ length l.pieces;
      made : judged_by l.judge ≡ judged_of (drop l.left l.pieces);
    }

abbrev pub decreases-loop-left : goal.decreases-loop-left
decreases-loop-left l = l.left
