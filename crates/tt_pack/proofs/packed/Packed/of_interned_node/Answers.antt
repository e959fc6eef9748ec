use Rattle.std.proofs.Common.{sym, subst}
use Rattle.tt_base.specs.Forest.{IsWhole}
use Rattle.tt_base.proofs.WholeLists.{end_piece}
use Rattle.tt_tables.specs.ListOf.{list_of}
use Rattle.tt_pack.proofs.packed.Packed.of_interned_node.Goals as goal

pub of_interned-requires-clause-whole : goal.of_interned-requires-clause-whole
of_interned-requires-clause-whole c = subst IsWhole (sym c.behind.ensures) (end_piece 1 (list_of c.args.tokens) c.requires.whole)
