-- The trees so far, before those of the marks that are left, are all.
use Rattle.std.proofs.Common.{◌≡◌, ◌++◌, drop, map}
use Rattle.tt.specs.Views.{trees_of}
use Rattle.mbe_matcher.specs.Grouping.{taken_by}
use Rattle.mbe_matcher.specs.Marks.{note_of}
use Rattle.mbe_matcher.proofs.binding.Binding.trees.Given as goal

abbrev pub invariant-loop-mark : goal.invariant-loop-mark
invariant-loop-mark l =
    map trees_of l.trees.items ++ taken_by l.number (map note_of (drop l.mark-index l.self.marks.items)) ≡ taken_by l.number (map note_of l.self.marks.items)
