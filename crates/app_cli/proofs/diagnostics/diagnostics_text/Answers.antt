use Rattle.std.proofs.Common.{rules, refl, ◌≡◌, ◌∙◌, ◌++◌, ◌+◌, ◌∷◌, [], ap, drop, sym, subst, append_assoc, append-nil}
use Rattle.std.proofs.lemmas.List.{drop_all, drop_more}
use Rattle.std.specs.Prelude.{string_bytes}
use Rattle.app_cli.proofs.diagnostics.diagnostics_text.Goals as goal
use Rattle.app_cli.specs.Reports.{AreDiagnosticTexts, IsDiagnosticText}

pub loop-finding-preserved : goal.loop-finding-preserved
loop-finding-preserved c =
    let style = c.args.style in
    let name = c.args.name.now in
    let text = c.args.text.now in
    let options = c.args.options in
    let callers = c.args.callers.now in
    let findings = c.args.findings.now in
    let index = c.loop-finding.finding-index in
    let finding = c.finding-item.result in
    let so_far = string_bytes c.loop-finding.all in
    let first = string_bytes c.in_ok-written.written in
    let dropped : drop index findings ≡ finding ∷ drop (index + 1) findings =
    drop_more findings index finding c.loop-finding-test.true ∙ ap (λ it. it ∷ drop (index + 1) findings) (sym c.finding-item.is) in
    let is_first : IsDiagnosticText style name text options callers finding first =
    subst (λ f. IsDiagnosticText style f text options callers finding first) c.in_ok-source.ensures.name
    (subst (λ t. IsDiagnosticText style c.in_ok-source.source.name.now t options callers finding first) c.in_ok-source.ensures.text c.in_ok-written.ensures) in
    let grown : string_bytes c.push_str-in-loop-finding.new.self ≡ (so_far ++ first) ++ 10 ∷ [] = search rules in
    record {
      written = λ others rest.
          subst (AreDiagnosticTexts style name text options callers findings)
          (sym (append_assoc so_far first (10 ∷ others)) ∙ sym (append_assoc (so_far ++ first) (10 ∷ []) others) ∙ ap (λ t. t ++ others) (sym grown))
          (c.loop-finding.invariant.written (first ++ 10 ∷ others)
          (subst (λ its. AreDiagnosticTexts style name text options callers its (first ++ 10 ∷ others)) (sym dropped) (first, others, is_first, rest, refl)));
    }

pub returns : goal.returns
returns c =
    let findings = c.args.findings.now in
    let index = c.loop-finding.finding-index in
    let all : drop index findings ≡ [] = drop_all index findings c.loop-finding-test.false in
    subst (AreDiagnosticTexts c.args.style c.args.name.now c.args.text.now c.args.options c.args.callers.now findings) (append-nil (string_bytes c.loop-finding.all))
    (c.loop-finding.invariant.written [] (subst (λ its. AreDiagnosticTexts c.args.style c.args.name.now c.args.text.now c.args.options c.args.callers.now its []) (sym all) refl))
