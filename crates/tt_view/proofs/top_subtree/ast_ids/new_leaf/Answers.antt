use Rattle.std.proofs.Common.{ap, ◌∙◌}
use Rattle.indexmap.specs.IndexMap.{get}
use Rattle.tt_base.specs.Token.{leaf_span}
use Rattle.tt_tables.specs.Uses.{same_part}
use Rattle.tt_view.specs.NewIds.{span_with}
use Rattle.tt_view.proofs.NewIds.{literal_respanned}
use Rattle.tt_view.proofs.top_subtree.ast_ids.new_leaf.Goals as goal

pub returns-in-Literal : goal.returns-in-Literal
returns-in-Literal c =
    let f = span_with (get same_part c.args.ids.now) in
    rw c.in-Literal.is
    (literal_respanned f c.in-Literal.literal c.with_span.result c.new_span-span.result c.with_span.ensures
    (c.new_span-span.ensures ∙ ap f (c.span.ensures ∙ ap leaf_span c.in-Literal.is)))
