use Rattle.std.proofs.Common.{◌≡◌, ◌+◌, nat_eq, take, refl, sym, subst, ◌∙◌, true≢false, arith}
use Rattle.std.proofs.lemmas.Bool.{eq-eqb}
use Rattle.std.proofs.lemmas.Cmp.{nat_eq_equiv}
use Rattle.std.proofs.lemmas.List.{take_all}
use Rattle.std.specs.List.{range_with_len}
use Rattle.tt_tables.specs.TableOrder.{different}
use Rattle.tt_pack.specs.Places.{token_places, part_places, HasOutOfTurn}
use Rattle.tt_pack.proofs.InOrder.{in_order, if_equal, all_early, as_many_met}
use Rattle.tt_pack.proofs.Ranks.{noted_at}
use Rattle.tt_pack.proofs.first_uses.stand_by_first_use.Goals as goal

pub returns-then-met-used-clause-yes : goal.returns-then-met-used-clause-yes
returns-then-met-used-clause-yes c = in_order c.args.tokens.now c.loop-token.token-index c.loop-token.met c.args.used c.loop-token.invariant c.requires c.if-met-used.true

pub returns-in_default-clause-no : goal.returns-in_default-clause-no
returns-in_default-clause-no c = λ no.
    all_early c.args.tokens.now (c.loop-token.token-index + 1)
    (subst HasOutOfTurn (noted_at nat_eq nat_eq_equiv token_places c.args.tokens.now c.loop-token.token-index _ _ _ c.loop-token-test.true c.loop-token.invariant refl) c.in_default.ensures.none)

pub loop-token-preserved : goal.loop-token-preserved
loop-token-preserved c =
    noted_at nat_eq nat_eq_equiv token_places c.args.tokens.now c.loop-token.token-index _ _ _ c.loop-token-test.true c.loop-token.invariant (sym c.in-Some.ensures.turn)

pub returns-clause-yes : goal.returns-clause-yes
returns-clause-yes c =
    if_equal c.loop-token.met c.args.used (in_order c.args.tokens.now c.loop-token.token-index c.loop-token.met c.args.used c.loop-token.invariant c.requires)

pub returns-clause-no : goal.returns-clause-no
returns-clause-no c = λ no.
    let all : take c.loop-token.token-index c.args.tokens.now ≡ c.args.tokens.now = take_all c.loop-token.token-index c.args.tokens.now (omega (arith, c.loop-token-test.false)) in
    let met : range_with_len 0 c.loop-token.met ≡ different nat_eq (part_places c.args.tokens.now) =
    subst (λ tokens. range_with_len 0 c.loop-token.met ≡ different nat_eq (part_places tokens)) all c.loop-token.invariant in
    absurd (true≢false (sym (eq-eqb c.loop-token.met c.args.used (as_many_met c.args.tokens.now c.loop-token.met c.args.used met c.requires)) ∙ no))
