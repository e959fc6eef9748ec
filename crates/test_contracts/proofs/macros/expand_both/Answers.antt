use Rattle.std.proofs.Common.{rules, ◌≡◌, inr, Err, subst}
use Rattle.tt.specs.SubtreeViews.{root_of}
use Rattle.tt.specs.Views.{trees_of}
use Rattle.test_contracts.specs.declared.macros.MacroFault.TheVariants.{Expansion}
use Rattle.mbe_rule.specs.Expansions.{IsExpandFault}
use Rattle.test_contracts.proofs.macros.expand_both.Goals as goal

pub returns-in_err-right-clause-fault : goal.returns-in_err-right-clause-fault
returns-in_err-right-clause-fault c =
    let rule = c.in_ok-rule.rule in
    let input = trees_of c.args.right in
    let fault = c.in_err-right.field-0.0 in
    let pattern : (root_of rule.pattern).children ≡ c.args.pattern.now.children = search rules in
    let template : root_of rule.template ≡ c.args.template.now = search rules in
    let is : c.from_residual-in_err-right.result ≡ Err (Expansion fault) = search rules in
    rw is
    (inr
    (subst (λ it. IsExpandFault it c.args.template.now input fault) pattern
    (subst (λ it. IsExpandFault (root_of rule.pattern).children it input fault) template c.in_err-right.ensures.fault)))
