use Rattle.tt_tables.proofs.OneNode.{opening_at, closing_at, top_is}
use Rattle.tt_tables.proofs.counted.CountedTokens.delimiter.Goals as goal

pub span_at-open_span-requires : goal.span_at-open_span-requires
span_at-open_span-requires c =
    (c.requires.top.delimiter.open_span, opening_at c.args.self c.requires c.first_header-entry.result c.first_header-entry.ensures)

pub span_at-close-requires : goal.span_at-close-requires
span_at-close-requires c = (c.requires.top.delimiter.close, closing_at c.args.self c.requires c.first_header-entry.result c.first_header-entry.ensures)

pub returns : goal.returns
returns c =
    let opening = c.span_at-open_span.ensures _ (opening_at c.args.self c.requires c.first_header-entry.result c.first_header-entry.ensures) in
    let closing = c.span_at-close.ensures _ (closing_at c.args.self c.requires c.first_header-entry.result c.first_header-entry.ensures) in
    top_is c.args.self c.requires c.first_header-entry.result c.first_header-entry.ensures _ _ opening closing
