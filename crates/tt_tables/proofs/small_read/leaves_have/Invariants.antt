-- The leaves so far have the part.
use Rattle.std.proofs.Common.{take}
use Rattle.tt_tables.specs.OnePart.{LeavesHave}
use Rattle.tt_tables.proofs.small_read.leaves_have.Given as goal

abbrev pub invariant-loop-leaf : goal.invariant-loop-leaf
invariant-loop-leaf l = LeavesHave l.part (take l.leaf-index l.leaves)
