use Rattle.std.proofs.Common.{length}
use Rattle.tt.specs.Work.{StaysSame}
use Rattle.tt.proofs.transform.Rewriting.next.Given as goal

-- For any work at first, the work now has the same result.
abbrev pub invariant-loop-element : goal.invariant-loop-element
invariant-loop-element l = StaysSame l.fn.self l.self

abbrev pub decreases-loop-element : goal.decreases-loop-element
decreases-loop-element l = length l.self.frames.items
