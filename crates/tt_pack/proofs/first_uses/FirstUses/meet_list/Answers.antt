use Rattle.std.proofs.Common.{◌≡◌, ◌≤◌, nat_eq, length, take, ap, ◌∙◌, arith}
use Rattle.std.proofs.lemmas.Cmp.{nat_eq_equiv}
use Rattle.tt_tables.specs.TableOrder.{different}
use Rattle.tt_pack.specs.Places.{token_places, part_places}
use Rattle.tt_pack.proofs.Ranks.{all_met, noted_at}
use Rattle.tt_pack.proofs.first_uses.FirstUses.meet_list.Goals as goal

pub returns-then-len-used-clause-order : goal.returns-then-len-used-clause-order
returns-then-len-used-clause-order c =
    let tokens = c.args.tokens.now in
    let index = c.loop-token.token-index in
    let order : c.loop-token.self.order.items ≡ different nat_eq (part_places (take index tokens)) = c.loop-token.invariant.order in
    let all : length (different nat_eq (part_places tokens)) ≤ length (different nat_eq (part_places (take index tokens))) =
    omega (arith, c.requires.used, c.if-len-used.true, c.len.ensures, ap length order) in
    order ∙ all_met nat_eq nat_eq_equiv token_places tokens index all

pub loop-token-preserved : goal.loop-token-preserved
loop-token-preserved c = record {
  order =
      noted_at nat_eq nat_eq_equiv token_places c.args.tokens.now c.loop-token.token-index _ _ _ c.loop-token-test.true c.loop-token.invariant.order
      c.in_ok-meet_token.ensures.order;
  ranked = c.in_ok-meet_token.ensures.ranked;
  places = c.meet_token.ensures.places ∙ c.loop-token.invariant.places;
}
