-- What is left goes on if the whole does.
use Rattle.std.proofs.Common.{◌≡◌}
use Rattle.tt.specs.Forest.{size}
use Rattle.tt.specs.Iters.{rest_of}
use Rattle.expand_items.specs.Expressions.{block_goes_on}
use Rattle.expand_items.proofs.expression.block_goes_on.Given as goal

abbrev pub invariant-loop-trees : goal.invariant-loop-trees
invariant-loop-trees l = block_goes_on (rest_of l.trees) ≡ block_goes_on (rest_of l.fn.trees)

abbrev pub decreases-loop-trees : goal.decreases-loop-trees
decreases-loop-trees l = size (rest_of l.trees)
