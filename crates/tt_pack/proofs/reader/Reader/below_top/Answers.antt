use Rattle.std.proofs.Common.{rules}
use Rattle.tt_tables.specs.Meaning.{IsAhead}
use Rattle.tt_tables.proofs.StoredAlike.{ahead_is}
use Rattle.tt_pack.specs.StoredIn.{bytes_for, tables_stored}
use Rattle.tt_pack.proofs.Moves.{below_is_ahead}
use Rattle.tt_pack.proofs.reader.Reader.below_top.Goals as goal

pub invariant_of-result : goal.invariant_of-result
invariant_of-result c =
    record {
      ahead = (c.args.packed.now.children, below_is_ahead c.args.packed.now c.bytes-bytes.ensures.range c.bytes-bytes.ensures.limits);
    }

pub returns-clause-ahead : goal.returns-clause-ahead
returns-clause-ahead c =
    let is : IsAhead (tables_stored c.args.packed.now) (bytes_for c.args.packed.now) 33 c.args.packed.now.children =
    below_is_ahead c.args.packed.now c.bytes-bytes.ensures.range c.bytes-bytes.ensures.limits in
    search (rules, ahead_is, is)

pub returns-clause-left : goal.returns-clause-left
returns-clause-left c =
    let is : IsAhead (tables_stored c.args.packed.now) (bytes_for c.args.packed.now) 33 c.args.packed.now.children =
    below_is_ahead c.args.packed.now c.bytes-bytes.ensures.range c.bytes-bytes.ensures.limits in
    search (rules, ahead_is, is.left)
