-- What was taken so far is of the variables that are passed.
use Rattle.std.proofs.Common.{map, take}
use Rattle.mbe_matcher.specs.Grouping.{binding_by}
use Rattle.mbe_matcher.specs.Marks.{note_of}
use Rattle.mbe_matcher.specs.Binders.{where_of}
use Rattle.mbe_rules.specs.Rounds.{AreTaken}
use Rattle.mbe_rules.proofs.taken.taken_by.Given as goal

abbrev pub invariant-loop-binder : goal.invariant-loop-binder
invariant-loop-binder l = AreTaken (binding_by (map where_of (take l.binder-index l.binders)) (map note_of l.binding.marks.items)) l.taken.items
