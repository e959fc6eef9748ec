-- What is left has a `;` if the whole has one.
use Rattle.std.proofs.Common.{◌≡◌}
use Rattle.tt.specs.Forest.{size}
use Rattle.tt.specs.Iters.{rest_of}
use Rattle.expand_items.specs.Expressions.{has_semicolon}
use Rattle.expand_items.proofs.expression.has_semicolon.Given as goal

abbrev pub invariant-loop-trees : goal.invariant-loop-trees
invariant-loop-trees l = has_semicolon (rest_of l.trees) ≡ has_semicolon (rest_of l.fn.trees)

abbrev pub decreases-loop-trees : goal.decreases-loop-trees
decreases-loop-trees l = size (rest_of l.trees)
