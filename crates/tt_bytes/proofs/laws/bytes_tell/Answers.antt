use Rattle.std.proofs.Common.{sym, ◌∙◌}
use Rattle.tt_bytes.proofs.Alike.{trees_alike}
use Rattle.tt_bytes.proofs.laws.bytes_tell.Goals as goal

pub returns-clause-tree : goal.returns-clause-tree
returns-clause-tree c one other bytes is_one is_other = trees_alike one other bytes is_one is_other

pub returns-clause-bytes : goal.returns-clause-bytes
returns-clause-bytes c root one other is_one is_other = is_one.is ∙ sym is_other.is
