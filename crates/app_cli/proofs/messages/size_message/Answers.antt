use Rattle.std.proofs.Common.{rules, ◌≡◌, ◌∙◌, ◌++◌, [], ap, codes}
use Rattle.std.proofs.lemmas.Result.{IfOk-weaker}
use Rattle.std.specs.Prelude.{string_bytes}
use Rattle.tt.specs.Fault.{fault_text}
use Rattle.app_cli.proofs.messages.size_message.Goals as goal
use Rattle.app_cli.specs.Messages.{about, size_message}

pub returns : goal.returns
returns c =
    let name = c.args.name.now in
    let words = c.as_str.result.now in
    let same : words ≡ codes " is too large: " ++ fault_text c.args.fault = search rules in
    IfOk-weaker c.about.result (λ text. string_bytes text ≡ about [] name words) (λ text. string_bytes text ≡ size_message name c.args.fault)
    (λ text is. is ∙ ap (about [] name) same) c.about.ensures
