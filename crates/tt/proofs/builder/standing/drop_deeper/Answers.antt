use Rattle.std.proofs.Common.{◌∙◌}
use Rattle.tt.proofs.Filters.{stays}
use Rattle.tt.proofs.builder.standing.drop_deeper.Goals as goal

pub returns-then-index-depth : goal.returns-then-index-depth
returns-then-index-depth c =
    let at = c.loop-stay.invariant in
    c.truncate.ensures.items
    ∙ stays (λ p. p.depth) c.args.depth (λ a b e. e.depth) c.loop-stay.points.items c.args.points.now.items c.loop-stay.stay c.index.result.now c.requires at.0
    c.loop-stay-test.true at.1 c.index.ensures c.if-index-depth.true at.2
