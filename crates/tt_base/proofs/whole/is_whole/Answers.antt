use Rattle.std.proofs.Common.{◌↔◌, sym, subst, rules}
use Rattle.tt_base.specs.Forest.{IsWhole}
use Rattle.tt_base.specs.Levels.{open_levels}
use Rattle.tt_base.specs.Forest.{AreLevels}
use Rattle.tt_base.proofs.CutLists.{one_level, walk_on, walk_stops, walk_ends}
use Rattle.tt_base.proofs.whole.is_whole.Goals as goal

pub loop-token-init : goal.loop-token-init
loop-token-init c =
    let one = one_level c.args.tokens.now in
    subst (λ levels. IsWhole c.args.tokens.now ↔ AreLevels c.args.tokens.now levels) (sym c.new-levels.ensures) (one.1, one.0)

pub returns-then-not-branch : goal.returns-then-not-branch
returns-then-not-branch c =
    let takes = rw c.if-not-branch.true at c.in_ok-take.ensures.ok in
    let stops = walk_stops c.args.tokens.now c.loop-token.token-index c.token-item.result (open_levels c.loop-token.levels) (open_levels c.take.new.self) (search rules) c.token-item.is c.loop-token.invariant takes in
    (λ impossible. cc impossible, λ whole. absurd (stops whole))

pub loop-token-preserved : goal.loop-token-preserved
loop-token-preserved c =
    let takes = rw c.if-not-branch.false at c.in_ok-take.ensures.ok in
    walk_on c.args.tokens.now c.loop-token.token-index c.token-item.result (open_levels c.loop-token.levels) (open_levels c.take.new.self) (search rules) c.token-item.is c.loop-token.invariant takes

pub returns : goal.returns
returns c = walk_ends c.args.tokens.now c.loop-token.token-index (open_levels c.loop-token.levels) c.is_done.result c.loop-token-test.false c.loop-token.invariant c.is_done.ensures
