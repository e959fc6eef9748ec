use Rattle.app_language.proofs.Fronts.{number_unique}
use Rattle.app_language.proofs.command.numbers.number_before.Goals as goal

pub returns-in_err-value : goal.returns-in_err-value
returns-in_err-value c = rw c.from_residual.ensures (λ n rest small e. c.in_err-value.ensures n _ small c.requires e)

pub returns-in_err-rest : goal.returns-in_err-rest
returns-in_err-rest c = rw c.from_residual-in_err-rest.ensures
    (λ n rest small e.
    c.in_err-rest.ensures rest (number_unique _ _ _ _ _ c.in_ok-value.ensures.1 small c.in_ok-value.ensures.2 c.requires c.in_ok-value.ensures.0 e).1)
