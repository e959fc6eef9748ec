-- With what is left, the trees so far are what the whole is.
use Rattle.std.proofs.Common.{◌≡◌}
use Rattle.tt.specs.Iters.{rest_of}
use Rattle.expand_items.specs.Operands.{operand_from, operand_of}
use Rattle.expand_items.proofs.operand.operand_of.Given as goal

abbrev pub invariant-trees : goal.invariant-trees
invariant-trees l = operand_from l.operand (rest_of l.trees) ≡ operand_of (rest_of l.fn.trees)
