use Rattle.std.proofs.Common.{rules, ◌≡◌, ◌∙◌, Some, ap, sym, subst}
use Rattle.std.proofs.lemmas.Option.{slice_get-get_or}
use Rattle.expand_text.specs.Expansion.{IsFirstFault}
use Rattle.expand_text.proofs.text.expand_text.Goals as goal

pub returns-in-Some-clause-err : goal.returns-in-Some-clause-err
returns-in-Some-clause-err c =
    let findings = c.in_ok-expanded.expanded.findings.items in
    let place = c.in-Some.place in
    let same : c.as_slice.result.now ≡ findings = search rules in
    let first : IsFirstFault findings place = subst (λ its. IsFirstFault its place) same c.in-Some.ensures in (
      c.in_ok-expanded.expanded,
      c.in_ok-expanded.ensures.ok,
      first.1 ∙ slice_get-get_or findings place c.remove.result (first.0) ∙ ap Some (sym c.remove.ensures.value),
    )
