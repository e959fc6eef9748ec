-- The ends so far are those of the repetitions that are passed.
use Rattle.std.proofs.Common.{◌≡◌, map, take}
use Rattle.mbe_matcher.specs.Ends.{sums}
use Rattle.mbe_matcher.specs.Grouping.{counts_by}
use Rattle.mbe_matcher.specs.Marks.{note_of}
use Rattle.mbe_rules.proofs.taken.Taken.of.Given as goal

abbrev pub invariant-loop-number : goal.invariant-loop-number
invariant-loop-number l =
    map (λ its. its.items) l.ends.items ≡ map (λ r. sums 0 (counts_by r 0 (map note_of l.binding.marks.items))) (take l.number-index l.binder.nest.items)
