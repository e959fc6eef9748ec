-- Nothing is known of them.
use Rattle.mbe_grammar.proofs.NothingKnown.{nothing_known}
use Rattle.mbe_grammar.proofs.table.Table.new.Goals as goal

pub invariant_of-result : goal.invariant_of-result
invariant_of-result c = record { good = c.requires.good; right = nothing_known c.args.rules.now c.args.rules.now 0 }
