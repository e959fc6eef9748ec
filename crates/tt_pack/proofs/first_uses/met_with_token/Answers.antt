use Rattle.std.proofs.Common.{fold, nat_eq, sym, subst, rules}
use Rattle.std.specs.List.{range_with_len}
use Rattle.tt_pack.specs.Counted.{note_value}
use Rattle.tt_pack.specs.Places.{token_places, HasOutOfTurn}
use Rattle.tt_pack.proofs.InOrder.{early_places}
use Rattle.tt_pack.proofs.first_uses.met_with_token.Goals as goal

pub returns-in_err-met-clause-none : goal.returns-in_err-met-clause-none
returns-in_err-met-clause-none c =
    let early : HasOutOfTurn (fold (note_value nat_eq) (range_with_len 0 c.args.met) (token_places c.args.token.now)) =
    subst (λ l. HasOutOfTurn (fold (note_value nat_eq) (range_with_len 0 c.args.met) l)) (sym c.token_places-first.ensures)
    (early_places (range_with_len 0 c.args.met) c.token_places-first.result.0 c.token_places-first.result.1 c.in_err-met.ensures.none) in
    search (rules, early)
