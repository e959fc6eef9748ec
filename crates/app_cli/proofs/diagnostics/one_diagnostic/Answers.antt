use Rattle.std.proofs.Common.{rules, ◌≡◌, ◌++◌, ◌∙◌, Some, map, ap, ap₂, subst}
use Rattle.std.proofs.lemmas.Result.{IfOk-weaker}
use Rattle.std.specs.Prelude.{string_bytes}
use Rattle.app_cli.proofs.diagnostics.one_diagnostic.Goals as goal
use Rattle.app_cli.specs.Messages.{message}
use Rattle.app_cli.specs.Notes.{ArePlaced, IsSpot, note_of}
use Rattle.app_cli.specs.Reports.{IsDiagnosticOf, IsDiagnosticText, hidden_note}
use Rattle.syntax_diagnostic.specs.Diagnostic.{diagnostic_text}
use Rattle.syntax_diagnostic.specs.declared.diagnostic.Diagnostic.{Diagnostic}

pub returns : goal.returns
returns c =
    let finding = c.args.finding.now in
    let callers = c.args.callers.now in
    let options = c.args.options in
    let file = c.args.source.now.name.now in
    let text = c.args.source.now.text.now in
    let it : Diagnostic = record {
      level = c.level_of.result;
      message = c.as_str-2.result;
      spot = Some c.spot.result;
      notes = c.add_hidden.new.notes;
      placed_notes = c.in_ok-placed.field-0;
    } in
    let says : c.as_str-2.result.now ≡ message finding.name finding.fault = search rules in
    let there : IsSpot file text finding.at c.spot.result = record { file = c.spot.ensures.file; place = c.spot.ensures.place; line = c.spot.ensures.line } in
    let is_diagnostic : IsDiagnosticOf file text options callers finding it = record {
      level = c.level_of.ensures;
      message = says;
      spot = there;
      notes = c.in_ok-add_hidden.ensures ∙ ap₂ (λ notes hidden. notes ++ hidden_note hidden) c.in_ok-notes.ensures c.in_ok-places.ensures.1;
      placed =
          subst (λ notes. ArePlaced file text notes c.in_ok-placed.field-0.items) (ap (map note_of) c.deref.ensures.value ∙ c.in_ok-places.ensures.0) c.in_ok-placed.ensures;
    } in
    IfOk-weaker c.diagnostic_text.result (λ written. string_bytes written ≡ diagnostic_text c.args.style it)
    (λ written. IsDiagnosticText c.args.style file text options callers finding (string_bytes written))
    (λ written is. (it, is_diagnostic, is)) c.diagnostic_text.ensures
