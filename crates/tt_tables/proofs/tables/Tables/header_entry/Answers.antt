use Rattle.std.proofs.Common.{◌<◌, ◌^◌, rules}
use Rattle.tt_tables.specs.Searches.{IsNumbered}
use Rattle.tt_tables.specs.TablesOf.{tables_of}
use Rattle.tt_tables.proofs.tables.Tables.header_entry.Goals as goal

pub returns : goal.returns
returns c =
    let opening : IsNumbered (tables_of c.args.self) c.args.subtree.delimiter.open_span c.in_ok-opening.opening = search rules in
    let closing : IsNumbered (tables_of c.args.self) c.args.subtree.delimiter.close c.in_ok-closing.closing = search rules in
    let len : c.args.subtree.len < 2 ^ 32 = search rules in
    record {
      known = record { parts = (opening.known, (closing.known, tt)); symbols = tt };
      is = λ i. record {
        opening = opening.is i;
        closing = closing.is i;
        kind = c.args.subtree.delimiter.kind;
        len = c.args.subtree.len;
        child_bytes = c.args.child_bytes;
      };
      fits = record { opening = opening.fits; closing = closing.fits; len = len; child_bytes = c.ranges.child_bytes.fits };
      range = (opening.range, closing.range);
    }
