use Rattle.std.proofs.Common.{◌≡◌, ◌≤◌, length, take, filter, nat_le}
use Rattle.tt.proofs.builder.standing.drop_later.Given as goal

-- The points after `stay` have more tokens.
abbrev pub invariant-loop-stay : goal.invariant-loop-stay
invariant-loop-stay l =
    (l.points.items ≡ l.fn.points.items) × (l.stay ≤ length l.points.items)
    × (filter (λ point. nat_le point.tokens l.tokens) (take l.stay l.points.items) ≡ filter (λ point. nat_le point.tokens l.tokens) l.points.items)

abbrev pub decreases-loop-stay : goal.decreases-loop-stay
decreases-loop-stay l = l.stay
