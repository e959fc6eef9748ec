use Rattle.std.proofs.Common.{subst}
use Rattle.tt_tables.specs.Searches.{IsLeaf}
use Rattle.tt_tables.proofs.SmallRead.{one_leaf_named}
use Rattle.tt_tables.proofs.small_read.named_leaf.Goals as goal

pub returns-in-Some : goal.returns-in-Some
returns-in-Some c = λ it finds.
    one_leaf_named c.args.part c.args.symbols.now c.args.entry c.in-Some.token it (subst (λ t. IsLeaf t c.args.entry c.in-Some.token) c.new.ensures c.in-Some.ensures.only) finds
