use Rattle.std.proofs.Common.{length, ◌-◌, ◌≡◌, ◌≤◌, map, take}
use Rattle.app_diff.proofs.hunk.same_len.Given as goal

abbrev pub invariant-loop-len : goal.invariant-loop-len
invariant-loop-len l =
    (l.len ≤ length l.old) × (l.len ≤ length l.new) × (map (λ it. it.now) (take l.len l.old) ≡ map (λ it. it.now) (take l.len l.new))

abbrev pub decreases-loop-len : goal.decreases-loop-len
decreases-loop-len l = length l.old - l.len
