-- So many trees are passed, without a `;` at the end.
use Rattle.tt.specs.Forest.{size}
use Rattle.tt.specs.Iters.{rest_of}
use Rattle.expand_items.proofs.Blocks.{IsPassed}
use Rattle.expand_items.proofs.expression.without_semicolon.Given as goal

abbrev pub invariant-trees : goal.invariant-trees
invariant-trees l = IsPassed (rest_of l.fn.trees) l.len (rest_of l.rest)

abbrev pub decreases-trees : goal.decreases-trees
decreases-trees l = size (rest_of l.rest)
