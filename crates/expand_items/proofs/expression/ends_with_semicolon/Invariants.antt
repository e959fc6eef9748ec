-- The last of what is left is a `;` if the last of the whole is.
use Rattle.std.proofs.Common.{◌≡◌}
use Rattle.tt.specs.Forest.{size}
use Rattle.tt.specs.Iters.{rest_of}
use Rattle.expand_items.specs.Expressions.{ends_with_semicolon}
use Rattle.expand_items.proofs.expression.ends_with_semicolon.Given as goal

abbrev pub invariant-loop-trees : goal.invariant-loop-trees
invariant-loop-trees l = ends_with_semicolon (rest_of l.trees) ≡ ends_with_semicolon (rest_of l.fn.trees)

abbrev pub decreases-loop-trees : goal.decreases-loop-trees
decreases-loop-trees l = size (rest_of l.trees)
