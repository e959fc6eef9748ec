use Rattle.std.proofs.Common.{rules, ◌≡◌, ◌&&◌, ◌∙◌, true, false, ap, ap₂, sym, subst}
use Rattle.std.specs.Prelude.{is_some, option_copied}
use Rattle.expand_text.specs.Scopes.{IsReadyIf, last_named}
use Rattle.expand_text.proofs.Readiness.{ready_last, some_ready}
use Rattle.expand_text.proofs.defining.is_one_of_several.Goals as goal

pub returns-in-Some : goal.returns-in-Some
returns-in-Some c macros are =
    let name = c.args.name.now in
    let is_open : c.args.is_open ≡ true = search rules in
    let ready : IsReadyIf (last_named name macros) (option_copied c.last.result) =
    subst (IsReadyIf (last_named name macros)) (sym c.last.ensures) (ready_last name macros c.args.scope.now.macros.items are) in
    let there : is_some (last_named name macros) ≡ true =
    sym (some_ready (last_named name macros) (option_copied c.last.result) ready) ∙ ap (λ found. is_some (option_copied found)) c.in-Some.is in
    sym (ap₂ (λ a b. a && b) is_open there)

pub returns-in-None : goal.returns-in-None
returns-in-None c macros are =
    let name = c.args.name.now in
    let is_open : c.args.is_open ≡ true = search rules in
    let ready : IsReadyIf (last_named name macros) (option_copied c.last.result) =
    subst (IsReadyIf (last_named name macros)) (sym c.last.ensures) (ready_last name macros c.args.scope.now.macros.items are) in
    let none : is_some (last_named name macros) ≡ false =
    sym (some_ready (last_named name macros) (option_copied c.last.result) ready) ∙ ap (λ found. is_some (option_copied found)) c.in-None.is in
    sym (ap₂ (λ a b. a && b) is_open none)
