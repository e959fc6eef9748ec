-- What is left begins with a block if the whole does.
use Rattle.std.proofs.Common.{◌≡◌}
use Rattle.tt.specs.Forest.{size}
use Rattle.tt.specs.Iters.{rest_of}
use Rattle.expand_items.specs.Expressions.{begins_block}
use Rattle.expand_items.proofs.expression.begins_block.Given as goal

abbrev pub invariant-trees : goal.invariant-trees
invariant-trees l = begins_block (rest_of l.trees) ≡ begins_block (rest_of l.fn.trees)

abbrev pub decreases-trees : goal.decreases-trees
decreases-trees l = size (rest_of l.trees)
