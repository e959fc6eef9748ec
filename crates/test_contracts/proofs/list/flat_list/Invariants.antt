-- The tokens read, and those to come, are the flat list.
use Rattle.std.proofs.Common.{◌≡◌, ◌++◌}
use Rattle.tt.specs.Forest.{flat, flat_root}
use Rattle.tt.specs.SubtreeViews.{flat_rest}
use Rattle.test_contracts.proofs.list.flat_list.Given as goal

abbrev pub invariant-loop-token : goal.invariant-loop-token
invariant-loop-token l =
    (goal.iterator-loop-token).can_next l.token-iterator
    × (goal.iterator-loop-token).is_finite l.token-iterator
    × (l.list.items ++ flat (flat_rest l.token-iterator) ≡ flat_root l.tree)
