use Rattle.std.proofs.Common.{refl, ◌≡◌, None}
use Rattle.std.proofs.lemmas.Result.{IfOk-weaker}
use Rattle.std.specs.Prelude.{string_bytes}
use Rattle.app_files.proofs.plain.plain_text.Goals as goal
use Rattle.app_files.specs.Plain.{IsPlainText}
use Rattle.syntax_diagnostic.specs.Diagnostic.{diagnostic_text}
use Rattle.syntax_diagnostic.specs.declared.diagnostic.Diagnostic.{Diagnostic}

pub returns : goal.returns
returns c =
    let it : Diagnostic = record { level = c.args.level; message = c.args.message; spot = None; notes = c.new.result; placed_notes = c.new-2.result } in
    IfOk-weaker c.diagnostic_text.result (λ text. string_bytes text ≡ diagnostic_text c.args.style it)
    (λ text. IsPlainText c.args.style c.args.level c.args.message.now (string_bytes text))
    (λ text is. record { it = it; level_is = refl; message_is = refl; no_spot = refl; no_notes = c.new.ensures.items; no_placed_notes = c.new-2.ensures.items; is = is })
    c.diagnostic_text.ensures
