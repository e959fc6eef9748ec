use Rattle.std.proofs.Common.{rules, ◌≡◌, true, Some, slice_get, subst, refl, arith}
use Rattle.std.proofs.lemmas.Option.{slice_get_read}
use Rattle.tt_base.specs.declared.token_tree.TokenTree.{TokenTree as Token}
use Rattle.tt_base.specs.Levels.{open_levels, TakesToken}
use Rattle.tt_tables.specs.Held.{whole}
use Rattle.tt_tables.specs.Names.{Names}
use Rattle.tt_tables.specs.Tables.{Tables}
use Rattle.tt_bytes.proofs.Shaped.{asks_first, asks_next, asks_last}
use Rattle.tt_bytes.proofs.whole.are_whole.Goals as goal

pub loop-index-init : goal.loop-index-init
loop-index-init c =
    record {
      asks = asks_first c.args.tokens.now (open_levels c.new-levels.result) (search rules);
      leaf = (_, refl);
    }

pub loop-index-preserved : goal.loop-index-preserved
loop-index-preserved c =
    let there : slice_get c.args.tokens.now c.loop-index.index ≡ Some c.in-Some.token.now =
    slice_get_read c.args.tokens.now _ c.loop-index.index c.in-Some.token.now refl (search (rules, arith)) (search (rules, c.in-Some.ensures)) in
    let taken : c.in_ok-take.field-0 ≡ true = search rules in
    let fits : (tables : Tables) (it : Token) → Names tables c.in-Some.token.now (whole it) → TakesToken (open_levels c.loop-index.levels) it (open_levels c.take.new.levels) true =
    λ tables it named. subst (TakesToken (open_levels c.loop-index.levels) it (open_levels c.take.new.levels)) taken (c.in_ok-take.ensures tables it named c.loop-index.invariant.leaf) in
    record {
      asks = asks_next c.args.tokens.now c.loop-index.index c.in-Some.token.now (open_levels c.loop-index.levels) (open_levels c.take.new.levels) there c.loop-index.invariant.asks fits;
      leaf = c.loop-index.invariant.leaf;
    }

pub returns : goal.returns
returns c all = asks_last c.args.tokens.now c.loop-index.index (open_levels c.loop-index.levels) (search (rules, arith)) c.loop-index.invariant.asks (c.is_done.ensures.0 all)
