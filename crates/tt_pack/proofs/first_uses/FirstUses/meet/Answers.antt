use Rattle.std.proofs.Common.{◌≡◌, ◌++◌, ◌∷◌, [], false, nat_eq, length, set, sym, subst, rules}
use Rattle.std.specs.List.{list_any}
use Rattle.tt_pack.specs.Places.{AreRanked}
use Rattle.tt_pack.proofs.Ranks.{ranked_next}
use Rattle.tt_pack.proofs.first_uses.FirstUses.meet.Goals as goal

pub returns-clause-ranked : goal.returns-clause-ranked
returns-clause-ranked c =
    let order = c.args.self.now.order.items in
    let ranks = c.args.self.now.ranks.items in
    let new : list_any (λ other. nat_eq other c.args.place) order ≡ false = search rules in
    let counted : c.len.result ≡ length order = search rules in
    let items : c.push.new.self.items ≡ order ++ c.args.place ∷ [] = search rules in
    subst (λ l. AreRanked l (set ranks c.args.place c.len.result)) (sym items)
    (subst (λ n. AreRanked (order ++ c.args.place ∷ []) (set ranks c.args.place n)) (sym counted) (ranked_next order ranks c.args.place c.requires.ranked new c.requires.within))
