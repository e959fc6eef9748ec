use Rattle.std.proofs.Common.{◌≡◌, Some, slice_get, ap, ◌∙◌, rules}
use Rattle.tt_tables.specs.TablesOf.{tables_of}
use Rattle.tt_tables.proofs.Found.{span_made}
use Rattle.tt_tables.proofs.tables.Tables.span.Goals as goal

pub returns-clause-gives : goal.returns-clause-gives
returns-clause-gives c span found range =
    let at : slice_get (tables_of c.args.self).parts c.args.numbers.part ≡ Some c.in_ok-part.part = search rules in
    ap Some
    (c.recombine.ensures ∙ span_made (tables_of c.args.self) c.args.numbers c.in_ok-part.part c.in_ok-range.range span at (search rules) (search rules) found)
