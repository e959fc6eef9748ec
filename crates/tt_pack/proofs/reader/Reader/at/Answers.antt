use Rattle.std.proofs.Common.{rules}
use Rattle.tt_tables.proofs.StoredAlike.{ahead_is}
use Rattle.tt_pack.proofs.reader.Reader.at.Goals as goal

pub invariant_of-result : goal.invariant_of-result
invariant_of-result c = record { ahead = c.requires }

pub returns-clause-ahead : goal.returns-clause-ahead
returns-clause-ahead c trees is = search (rules, ahead_is, is)
