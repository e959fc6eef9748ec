use Rattle.std.proofs.Common.{◌≤◌, ◌+◌, ◌-◌, ◌++◌, List, length, map, drop}
use Rattle.app_diff.specs.Hunks.{AreHunks, start}
use Rattle.app_diff.specs.declared.hunk.Hunk.{Hunk}
use Rattle.app_diff.proofs.hunk.hunks.Given as goal

abbrev pub invariant-loop-old_at : goal.invariant-loop-old_at
invariant-loop-old_at l =
    (l.old_at ≤ length l.old) × (l.new_at ≤ length l.new)
    × ((more : List Hunk) → AreHunks (record { old = l.old_at; new = l.new_at }) (map (λ it. it.now) (drop l.old_at l.old)) (map (λ it. it.now) (drop l.new_at l.new)) more
    → AreHunks start (map (λ it. it.now) l.old) (map (λ it. it.now) l.new) (l.found.items ++ more))

abbrev pub decreases-loop-old_at : goal.decreases-loop-old_at
decreases-loop-old_at l = (length l.old + length l.new) - (l.old_at + l.new_at)
