use Rattle.std.proofs.Common.{refl, rules}
use Rattle.tt_base.specs.Forest.{only}
use Rattle.tt_tables.specs.Meaning.{IsAhead}
use Rattle.tt_tables.proofs.StoredAlike.{ahead_is}
use Rattle.tt_pack.specs.StoredIn.{bytes_for, tables_stored}
use Rattle.tt_pack.proofs.Moves.{start_is_ahead}
use Rattle.tt_pack.proofs.reader.Reader.start.Goals as goal

pub invariant_of-result : goal.invariant_of-result
invariant_of-result c =
    record {
      ahead = (only c.args.packed.now, start_is_ahead c.args.packed.now _ _ _ c.bytes-bytes.ensures.range c.bytes-bytes.ensures.limits refl refl refl);
    }

pub returns-clause-ahead : goal.returns-clause-ahead
returns-clause-ahead c =
    let is : IsAhead (tables_stored c.args.packed.now) (bytes_for c.args.packed.now) 0 (only c.args.packed.now) =
    start_is_ahead c.args.packed.now _ _ _ c.bytes-bytes.ensures.range c.bytes-bytes.ensures.limits refl refl refl in
    search (rules, ahead_is, is)
