use Rattle.std.proofs.Common.{rules, ◌≡◌, ◌∙◌, ◌+◌, suc, arith, true, false, drop, length, refl, ap}
use Rattle.expand_text.specs.Expansion.{first_fault}
use Rattle.expand_text.specs.Findings.{is_warning}
use Rattle.expand_text.proofs.FirstFaults.{fault_there, fault_behind, no_fault}
use Rattle.expand_text.proofs.text.first_fault.Goals as goal

pub loop-place-init : goal.loop-place-init
loop-place-init c = refl

pub returns-then-not-is_warning : goal.returns-then-not-is_warning
returns-then-not-is_warning c =
    let findings = c.args.findings.now in
    let place = c.loop-place.place in
    let it = c.index-findings-place.result in
    let no : is_warning it.fault ≡ false = search rules in
    (c.loop-place-test.true, c.loop-place.invariant ∙ fault_there findings place it c.loop-place-test.true c.index-findings-place.is no)

pub loop-place-preserved : goal.loop-place-preserved
loop-place-preserved c =
    let findings = c.args.findings.now in
    let place = c.loop-place.place in
    let it = c.index-findings-place.result in
    let yes : is_warning it.fault ≡ true = search rules in
    let next : suc place ≡ place + 1 = omega arith in
    c.loop-place.invariant ∙ fault_behind findings place it c.loop-place-test.true c.index-findings-place.is yes ∙ ap (λ n. first_fault (drop n findings)) next

pub returns : goal.returns
returns c =
    let findings = c.args.findings.now in
    let all : c.loop-place.place ≡ length findings = search (rules, arith) in
    c.loop-place.invariant ∙ ap (λ n. first_fault (drop n findings)) all ∙ no_fault findings
