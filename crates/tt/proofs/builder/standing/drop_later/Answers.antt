use Rattle.std.proofs.Common.{◌∙◌}
use Rattle.tt.proofs.Filters.{stays}
use Rattle.tt.proofs.builder.standing.drop_later.Goals as goal

pub returns-then-index-tokens : goal.returns-then-index-tokens
returns-then-index-tokens c =
    let at = c.loop-stay.invariant in
    c.truncate.ensures.items
    ∙ stays (λ p. p.tokens) c.args.tokens (λ a b e. e.tokens) c.loop-stay.points.items c.args.points.now.items c.loop-stay.stay c.index.result.now c.requires at.0
    c.loop-stay-test.true at.1 c.index.ensures c.if-index-tokens.true at.2
