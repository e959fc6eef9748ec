-- The siblings that were tested do not have the name.
use Rattle.std.proofs.Common.{◌≡◌, ◌≤◌}
use Rattle.tt.specs.Forest.{size}
use Rattle.tt.specs.Iters.{rest_of}
use Rattle.test_contracts.specs.Names.{names}
use Rattle.test_contracts.proofs.tokens.+mentions.Given as goal

abbrev pub decreases-mentions : goal.decreases-mentions
decreases-mentions l = size (rest_of l.siblings)

abbrev pub invariant-loop-sibling : goal.invariant-loop-sibling
invariant-loop-sibling l =
    (goal.iterator-loop-sibling).can_next l.sibling-iterator
    × (goal.iterator-loop-sibling).is_finite l.sibling-iterator
    × (size (rest_of l.sibling-iterator) ≤ size (rest_of l.fn.siblings))
    × (names l.name (rest_of l.sibling-iterator) ≡ names l.name (rest_of l.fn.siblings))
