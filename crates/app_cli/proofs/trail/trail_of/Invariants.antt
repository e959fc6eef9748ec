-- The callers so far, and then the one that is next, and so on.
use Rattle.std.proofs.Common.{◌≡◌, ◌++◌, ◌-◌, length, map}
use Rattle.app_cli.proofs.trail.trail_of.Given as goal
use Rattle.app_cli.specs.Notes.{trail, trail_from}

abbrev pub invariant-loop : goal.invariant-loop
invariant-loop l = map (λ it. it.now) l.its.items ++ trail_from l.callers (length l.callers - l.counter) l.next ≡ trail l.callers l.fn.number
