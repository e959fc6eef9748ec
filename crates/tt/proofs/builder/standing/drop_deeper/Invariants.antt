use Rattle.std.proofs.Common.{◌≡◌, ◌≤◌, length, take, filter, nat_le}
use Rattle.tt.proofs.builder.standing.drop_deeper.Given as goal

-- The points after `stay` have more levels.
abbrev pub invariant-loop-stay : goal.invariant-loop-stay
invariant-loop-stay l =
    (l.points.items ≡ l.fn.points.items) × (l.stay ≤ length l.points.items)
    × (filter (λ point. nat_le point.depth l.depth) (take l.stay l.points.items) ≡ filter (λ point. nat_le point.depth l.depth) l.points.items)

abbrev pub decreases-loop-stay : goal.decreases-loop-stay
decreases-loop-stay l = l.stay
