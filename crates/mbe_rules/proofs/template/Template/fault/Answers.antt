use Rattle.std.proofs.Common.{rules, ◌≡◌, map, ap, ◌∙◌}
use Rattle.mbe_matcher.specs.Binders.{where_of}
use Rattle.mbe_rules.specs.Parts.{bit_of}
use Rattle.mbe_rules.specs.Validating.{validated_of}
use Rattle.mbe_rules.specs.Wholes.{AreWhole, whole_of}
use Rattle.mbe_rules.proofs.Growing.{ok_so}
use Rattle.mbe_rules.proofs.Validates.{validated_whole}
use Rattle.mbe_rules.proofs.template.Template.fault.Goals as goal

pub returns : goal.returns
returns c =
    let variables = map where_of c.args.binders.now in
    let parts = c.args.self.now.parts.items in
    let here : c.deref.result.now ≡ parts = search rules in
    let whole : AreWhole parts = c.args.self.now.whole in
    ok_so c.fault_of.result
    (λ fault found. found ∙ ap (λ its. (validated_of variables (map bit_of its)).fault) here ∙ ap (λ bits. (validated_of variables bits).fault) whole ∙ validated_whole variables (whole_of parts))
    c.fault_of.ensures
