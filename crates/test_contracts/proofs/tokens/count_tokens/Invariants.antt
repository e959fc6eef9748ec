-- The tokens counted, and those to come, are all.
use Rattle.std.proofs.Common.{◌≡◌, ◌+◌}
use Rattle.tt.specs.Forest.{size}
use Rattle.tt.specs.Iters.{rest_of}
use Rattle.tt.specs.Views.{trees_of}
use Rattle.test_contracts.proofs.tokens.count_tokens.Given as goal

abbrev pub invariant-loop-sibling : goal.invariant-loop-sibling
invariant-loop-sibling l =
    (goal.iterator-loop-sibling).can_next l.sibling-iterator
    × (goal.iterator-loop-sibling).is_finite l.sibling-iterator
    × (l.count + size (rest_of l.sibling-iterator) ≡ size (trees_of l.fn.trees))
