use Rattle.std.proofs.Common.{rules, ◌≡◌, Some, length, ◌∙◌}
use Rattle.tt.specs.Expectations.{first_leaf_as, as_punct}
use Rattle.tt.specs.Gluing.{glued}
use Rattle.tt.specs.Iters.{rest_of}
use Rattle.mbe_pattern.proofs.GluedSizes.{glued_size}
use Rattle.mbe_pattern.proofs.units.unit_size.Goals as goal

pub returns-in-Ok-expect_glued_punct : goal.returns-in-Ok-expect_glued_punct
returns-in-Ok-expect_glued_punct c =
    let trees = rest_of c.args.trees in
    let punct = c.in-Ok.punct in
    let puncts = c.in-Ok-expect_glued_punct.puncts.items in
    let first : Some punct ≡ first_leaf_as as_punct trees = search rules in
    let glues : Some puncts ≡ glued trees = search rules in
    let is : c.len.result ≡ length puncts = search rules in
    is ∙ glued_size trees punct puncts first c.if-punct-eq39.false glues
