use Rattle.std.specs.Fn.{CalledAt}
use Rattle.tt_base.specs.Forest.{only}
use Rattle.tt_view.specs.SubtreeViews.{root_of}
use Rattle.tt.specs.Work.{unread}
use Rattle.tt.proofs.OnTheWay.{IsOnTheWay}
use Rattle.tt.proofs.transform.work.rewritten_list.Given as goal

-- The callback can be called again, and its later answers complete the rewriting.
abbrev pub invariant-loop-token : goal.invariant-loop-token
invariant-loop-token g l =
    goal.F-IsAlwaysCallable g l.callback
    × IsOnTheWay (CalledAt g.F.FnMut) l.fn.callback (only (root_of l.fn.tree)) l.callback l.work

abbrev pub decreases-loop-token : goal.decreases-loop-token
decreases-loop-token g l = unread l.work
