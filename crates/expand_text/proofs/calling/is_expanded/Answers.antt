use Rattle.std.proofs.Common.{◌∙◌, subst}
use Rattle.std.specs.Prelude.{option_copied}
use Rattle.expand_items.specs.Items.{call_of}
use Rattle.expand_text.specs.Contexts.{config_of}
use Rattle.expand_text.specs.Macros.{called_by}
use Rattle.expand_text.specs.Scopes.{IsReadyIf}
use Rattle.expand_text.proofs.Readiness.{arms_ready, arms_none}
use Rattle.expand_text.proofs.calling.is_expanded.Goals as goal

pub returns-in-Some : goal.returns-in-Some
returns-in-Some c known is =
    let found = called_by (config_of c.args.config.now) known (call_of c.args.call.now) in
    let ready : IsReadyIf found (option_copied c.called_by.result) = c.called_by.ensures known is in
    c.is_some.ensures ∙ arms_ready found c.in-Some.it.now (subst (λ r. IsReadyIf found (option_copied r)) c.in-Some.is ready)

pub returns-in-None : goal.returns-in-None
returns-in-None c known is =
    let found = called_by (config_of c.args.config.now) known (call_of c.args.call.now) in
    let ready : IsReadyIf found (option_copied c.called_by.result) = c.called_by.ensures known is in
    arms_none found (subst (λ r. IsReadyIf found (option_copied r)) c.in-None.is ready)
