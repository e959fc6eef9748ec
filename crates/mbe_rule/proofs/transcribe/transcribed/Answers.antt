use Rattle.std.proofs.Common.{rules, ◌≡◌, Err, zip, map, ap, ap₂, subst, ◌∙◌}
use Rattle.tt.specs.Building.{BuilderState, Stack, bottom, built}
use Rattle.tt.specs.SubtreeViews.{root_of}
use Rattle.tt.specs.TreeFault.{IsTreeFault}
use Rattle.tt.specs.Views.{trees_of}
use Rattle.mbe_rule.specs.Instances.{expansion}
use Rattle.mbe_rule.proofs.transcribe.transcribed.Goals as goal

-- explicit: a builder in the scope has more fields than `search` goes through
pub returns-in_err-build-clause-fault : goal.returns-in_err-build-clause-fault
returns-in_err-build-clause-fault c =
    let failed : c.from_residual-in_err-build.result ≡ Err c.in_err-build.field-0.0.fault = search rules in
    let top = c.in_ok-fill.ensures.top ∙ ap (λ (s : BuilderState). s.top) c.in_ok-builder.ensures.ok ∙ c.top_subtree.ensures.delimiter in
    let same : built c.fill.new.builder ≡ expansion (root_of c.args.template) (zip c.args.names.now.keys (map trees_of c.args.taken.now)) =
    ap₂ (λ d (stack : Stack). record { delimiter = d; children = bottom stack }) top c.in_ok-fill.ensures.whole in
    rw failed (subst (λ root. IsTreeFault root c.in_err-build.field-0.0.fault) same c.in_err-build.ensures.fault)
