use Rattle.std.proofs.Common.{rules}
use Rattle.tt_bytes.proofs.Alike.{trees_alike}
use Rattle.tt_bytes.proofs.quick.stored_tree.Goals as goal

pub returns-then-is_stored_in-clause-only : goal.returns-then-is_stored_in-clause-only
returns-then-is_stored_in-clause-only c = search (rules, trees_alike)
