use Rattle.std.proofs.Common.{◌≡◌, Some, subst}
use Rattle.std.specs.Prelude.{option_copied}
use Rattle.expand_items.specs.Items.{Call, call_of}
use Rattle.expand_text.specs.Calling.{IsMade}
use Rattle.expand_text.specs.Contexts.{config_of, tokens_left}
use Rattle.expand_text.specs.Macros.{called_by}
use Rattle.expand_text.specs.Scopes.{IsReadyIf}
use Rattle.expand_text.specs.declared.calling.Made.TheVariants as made
use Rattle.expand_text.proofs.Calls.{faulty_call}
use Rattle.expand_text.proofs.calling.expand_call.Goals as goal

pub returns-in_ok-find_expecting-in-Faulty-clause-called : goal.returns-in_ok-find_expecting-in-Faulty-clause-called
returns-in_ok-find_expecting-in-Faulty-clause-called c before is =
    let config = config_of c.args.config.now in
    let it : Call = call_of c.args.call.now in
    let macro = c.in-Some.it.now in
    let rules = c.in-Some-rules.rules in
    let limit = c.args.limit in
    let ready : IsReadyIf (called_by config before it) (Some macro) =
    subst (λ r. IsReadyIf (called_by config before it) (option_copied r)) c.in-Some.is (c.called_by.ensures before is) in
    let allowed : c.tokens_left-allowed.result ≡ tokens_left config before = c.tokens_left-allowed.ensures.known before is in (
      _,
      c.in_ok-find_expecting-in-Faulty.ensures.found before is,
      faulty_call config limit it before macro rules c.in-Faulty.place c.in-Faulty.fault c.in-Faulty.expected ready c.in-Some-rules.is
          (λ arms are.
          subst (λ n. IsMade limit n arms it (made.Faulty c.in-Faulty.place c.in-Faulty.fault c.in-Faulty.expected)) allowed
          (subst (IsMade limit c.tokens_left-allowed.result arms it) c.in-Faulty.is (c.in_ok-tree.ensures.made arms are))),
    )
