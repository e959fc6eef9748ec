use Rattle.std.proofs.Common.{◌∙◌, subst, sym}
use Rattle.tt_base.specs.Walk.{events_ahead}
use Rattle.app_c.proofs.Results.{on_ok}
use Rattle.app_c.proofs.Seen.{first_event}
use Rattle.app_c.proofs.listing.Listing.put_here.Goals as goal
use Rattle.app_c.specs.Tokens.{IsPut}

pub returns-in_ok-put_first-in-Some-clause-put : goal.returns-in_ok-put_first-in-Some-clause-put
returns-in_ok-put_first-in-Some-clause-put c =
    let first = first_event (events_ahead c.args.cursor.now) c.in-Some.token (sym c.in-Some.is ∙ c.token_tree.ensures) in
    on_ok c.pass.result
    (first.0, first.1, first.2, subst (λ it. IsPut it c.args.self.now c.put_first.new.self) first.3 c.in_ok-put_first-in-Some.ensures)
