use Rattle.std.proofs.Common.{◌≡◌, ◌↔◌, ◌+◌, ◌++◌, ◌∷◌, [], Err, inr, take, refl, ap, sym, subst, ◌∙◌, arith, rules}
use Rattle.std.proofs.lemmas.List.{take_all}
use Rattle.std.specs.List.{AllZip}
use Rattle.tt_base.specs.Forest.{IsWhole, AreLevels}
use Rattle.tt_base.specs.Levels.{open_levels}
use Rattle.tt_base.proofs.CutLists.{one_level, walk_on, walk_ends}
use Rattle.tt_tables.specs.Uses.{part_uses, symbol_uses}
use Rattle.tt_pack.specs.Meeting.{IsPartAt, IsSymbolAt, MeetsToken}
use Rattle.tt_pack.specs.Room.{HasRoomForAll, IsTakeFault}
use Rattle.tt_pack.specs.TablesOf.{AreUses}
use Rattle.tt_pack.proofs.Meeting.{can_meet_token, token_met, token_kept}
use Rattle.tt_pack.proofs.MostBytes.{room_more, stops_fault}
use Rattle.tt_pack.proofs.uses.ListUses.of_tokens.Goals as goal

pub loop-token-init : goal.loop-token-init
loop-token-init g c =
    let one = one_level c.args.tokens.now in
    record {
      met = c.requires;
      whole = subst (λ levels. IsWhole c.args.tokens.now ↔ AreLevels c.args.tokens.now levels) (sym c.new-levels.ensures) (one.1, one.0);
      stand = search rules;
      room = λ small. omega arith;
    }

pub meet_token-requires : goal.meet_token-requires
meet_token-requires g c =
    can_meet_token g.V.Values.has_met c.args.tokens.now c.loop-token.token-index c.loop-token.values (omega (arith, c.loop-token-test.true)) (omega (arith, c.loop-token-test.true)) c.loop-token.invariant.met

pub returns-in_err-found-clause-err : goal.returns-in_err-found-clause-err
returns-in_err-found-clause-err g c =
    let is : c.from_residual-in_err-found.result ≡ Err c.in_err-found.field-0.0 = search rules in
    let told : IsTakeFault (open_levels c.loop-token.levels) c.token-item.result c.in_err-found.field-0.0 = search rules in
    rw is (stops_fault c.args.tokens.now c.loop-token.token-index c.token-item.result (open_levels c.loop-token.levels) c.in_err-found.field-0.0 c.loop-token-test.true c.token-item.is c.loop-token.invariant.whole told)

pub loop-token-preserved : goal.loop-token-preserved
loop-token-preserved g c =
    let has_met = g.V.Values.has_met in
    let meets : MeetsToken has_met c.loop-token.values c.meet_token.new.values c.token-item.result c.in-Some.found = rw c.in-Some.is at c.in_ok-found.ensures.met in
    record {
      met = token_met has_met c.args.tokens.now c.loop-token.token-index c.token-item.result c.loop-token-test.true c.token-item.is _ _ c.in-Some.found c.loop-token.invariant.met meets;
      whole =
          walk_on c.args.tokens.now c.loop-token.token-index c.token-item.result (open_levels c.loop-token.levels) (open_levels c.meet_token.new.levels)
          c.loop-token-test.true c.token-item.is c.loop-token.invariant.whole c.in_ok-found.ensures.levels;
      stand =
          subst (AllZip (AreUses (IsPartAt (part_uses (take (c.loop-token.token-index + 1) c.args.tokens.now))) (IsSymbolAt (symbol_uses (take (c.loop-token.token-index + 1) c.args.tokens.now)))) (take (c.loop-token.token-index + 1) c.args.tokens.now))
          (sym (c.in_ok-push.ensures.items ∙ ap (λ kept. kept.items ++ c.in-Some.found ∷ []) c.in_ok-found.ensures.tokens))
          (token_kept has_met c.args.tokens.now c.loop-token.token-index c.token-item.result c.loop-token-test.true c.token-item.is _ _ c.in-Some.found c.loop-token.invariant.met meets c.loop-token.uses.tokens.items c.loop-token.invariant.stand);
      room =
          room_more c.args.tokens.now c.loop-token.token-index c.token-item.result c.loop-token.uses.room c.meet_token.new.self.room
          c.loop-token-test.true c.token-item.is c.loop-token.invariant.room c.in_ok-found.ensures.room;
    }

pub returns-then-not-is_done-clause-err : goal.returns-then-not-is_done-clause-err
returns-then-not-is_done-clause-err g c =
    let whole = walk_ends c.args.tokens.now c.loop-token.token-index (open_levels c.loop-token.levels) c.is_done.result c.loop-token-test.false c.loop-token.invariant.whole c.is_done.ensures in
    inr (refl, λ is. absurd (search (rules, whole.1 is, c.if-not-is_done.true)))

pub returns-clause-met : goal.returns-clause-met
returns-clause-met g c =
    let all = take_all c.loop-token.token-index c.args.tokens.now (search (rules, arith, c.loop-token-test.false)) in
    subst (λ tokens. g.V.Values.has_met c.loop-token.values (part_uses tokens) (symbol_uses tokens)) all c.loop-token.invariant.met

pub returns-clause-uses : goal.returns-clause-uses
returns-clause-uses g c =
    let whole = walk_ends c.args.tokens.now c.loop-token.token-index (open_levels c.loop-token.levels) c.is_done.result c.loop-token-test.false c.loop-token.invariant.whole c.is_done.ensures in
    let all = take_all c.loop-token.token-index c.args.tokens.now (search (rules, arith, c.loop-token-test.false)) in
    record {
      whole = whole.0 c.if-not-is_done.false;
      stand = subst (λ tokens. AllZip (AreUses (IsPartAt (part_uses tokens)) (IsSymbolAt (symbol_uses tokens))) tokens c.loop-token.uses.tokens.items) all c.loop-token.invariant.stand;
      room = subst (λ tokens. HasRoomForAll tokens c.loop-token.uses.room) all c.loop-token.invariant.room;
    }
