use Rattle.std.proofs.Common.{◌∙◌, rules}
use Rattle.std.proofs.lemmas.Option.{slice_get-get_or, slice_get_within}
use Rattle.tt_tables.specs.Tables.{tables_from}
use Rattle.tt_tables.proofs.Found.{span_made}
use Rattle.tt_tables.proofs.node.span_at.Goals as goal

pub returns : goal.returns
returns c = λ span is.
    let parts = c.args.parts.now in
    let there = slice_get-get_or parts c.args.numbers.part _ (slice_get_within parts c.args.numbers.part _ is.1.part) in
    c.recombine.ensures ∙ span_made (tables_from parts is.0) c.args.numbers _ c.in-Some.range span there (search rules) (search rules) is.1
