use Rattle.std.proofs.Common.{[], rules}
use Rattle.tt_tables.proofs.Growing.{nothing_held}
use Rattle.tt_tables.proofs.tokens.InternedTokens.with_capacity.Goals as goal

pub invariant_of-result : goal.invariant_of-result
invariant_of-result c = (([], nothing_held _ _ _ (search rules) (search rules) (search rules)), tt)
