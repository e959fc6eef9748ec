-- The ends so far, before those of the marks that are left, are all, and no more rounds are counted than marks are passed.
use Rattle.std.proofs.Common.{◌≡◌, ◌≤◌, ◌++◌, drop, map}
use Rattle.mbe_matcher.specs.Marks.{note_of}
use Rattle.mbe_matcher.proofs.EndSteps.{ends_by}
use Rattle.mbe_matcher.proofs.binding.Binding.ends.Given as goal

abbrev pub invariant-loop-mark : goal.invariant-loop-mark
invariant-loop-mark l =
    record {
      ends : l.ends.items ++ ends_by l.number l.so_far (map note_of (drop l.mark-index l.self.marks.items)) ≡ ends_by l.number 0 (map note_of l.self.marks.items);
      few : l.so_far ≤ l.mark-index;
    }
