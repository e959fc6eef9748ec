use Rattle.std.proofs.Common.{◌≢◌, [], ◌∙◌, sym, append-nil, rules}
use Rattle.app_language.proofs.Fronts.{number_unique}
use Rattle.app_language.proofs.command.numbers.number.Goals as goal

pub returns-in_err-value : goal.returns-in_err-value
returns-in_err-value c = rw c.from_residual.ensures (λ n small e. c.in_err-value.ensures n [] small tt (e ∙ sym (append-nil _)))

pub returns-then-not-is_empty : goal.returns-then-not-is_empty
returns-then-not-is_empty c =
    let some : c.in_ok-value.rest.now ≢ [] = search rules in
    λ n small e. some (number_unique _ _ _ _ _ c.in_ok-value.ensures.1 small c.in_ok-value.ensures.2 tt c.in_ok-value.ensures.0 (e ∙ sym (append-nil _))).1
