-- Nothing is known of them.
use Rattle.mbe_grammar.proofs.NothingKnown.{nothing_known}
use Rattle.mbe_grammar.proofs.trying.unknown.Goals as goal

pub invariant_of-result : goal.invariant_of-result
invariant_of-result c = record { good = c.args.table.good; right = nothing_known c.args.table.rules.now c.args.table.rules.now 0 }
