use Rattle.std.proofs.Common.{◌≡◌, map, ap, ap₂, ◌∙◌}
use Rattle.mbe_matcher.specs.Binders.{where_of}
use Rattle.mbe_rules.specs.Arms.{variables}
use Rattle.mbe_rules.specs.Faults.{template_fault}
use Rattle.mbe_rules.proofs.Growing.{ok_so}
use Rattle.mbe_rules.proofs.arm.Arm.fault.Goals as goal

pub returns : goal.returns
returns c =
    ok_so c.fault.result
    (λ fault found arm is.
    let its : map where_of c.binders.result.now ≡ variables arm.pattern = ap (map where_of) c.binders.ensures ∙ is.matcher.variables in
    found ∙ ap₂ template_fault its is.template)
    c.fault.ensures
