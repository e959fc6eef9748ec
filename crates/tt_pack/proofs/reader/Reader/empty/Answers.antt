use Rattle.std.proofs.Common.{[], refl, rules}
use Rattle.tt_base.specs.Forest.{end}
use Rattle.tt_tables.specs.Meaning.{IsAhead}
use Rattle.tt_tables.proofs.StoredAlike.{ahead_is}
use Rattle.tt_tables.specs.Tables.{tables_from}
use Rattle.tt_pack.proofs.reader.Reader.empty.Goals as goal

pub invariant_of-result : goal.invariant_of-result
invariant_of-result c = record { ahead = (end, search rules) }

pub returns-clause-ahead : goal.returns-clause-ahead
returns-clause-ahead c =
    let is : IsAhead (tables_from [] []) [] 0 end = refl in
    search (rules, ahead_is, is)
