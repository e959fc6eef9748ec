-- The notes up to the arrival of that number, and those of the marks so far, are all.
use Rattle.std.proofs.Common.{◌≤◌, suc, map, reverse, length}
use Rattle.mbe_matcher.specs.Marks.{Note, note_of}
use Rattle.mbe_program.specs.Searching.{coming_of}
use Rattle.mbe_program.specs.declared.cell.Cell.{Cell}
use Rattle.mbe_program.proofs.Tracing.{LeadsOn}
use Rattle.mbe_program.proofs.outcome.marks_to.Given as goal

abbrev pub invariant-loop-number : goal.invariant-loop-number
invariant-loop-number l = LeadsOn Cell Note (map coming_of l.log) l.number (suc l.fn.last) (map note_of (reverse l.marks.items)) × (l.number ≤ length l.log)

abbrev pub decreases-loop-number : goal.decreases-loop-number
decreases-loop-number l = l.number
