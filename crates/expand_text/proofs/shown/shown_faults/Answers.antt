use Rattle.std.proofs.Common.{rules, ◌≡◌, Ok, inl, map, ap, ap₂, subst, ◌∙◌}
use Rattle.std.specs.Prelude.{IfOk}
use Rattle.tt.specs.Forest.{Forest}
use Rattle.tt.specs.Iters.{rest_of}
use Rattle.tt.specs.Span.{start_of}
use Rattle.expand_items.specs.Items.{Definition, definition_of}
use Rattle.expand_text.specs.declared.defining.Rules.TheVariants as read
use Rattle.expand_text.specs.Defining.{IsRules}
use Rattle.expand_text.specs.Prepared.{prepared}
use Rattle.expand_text.specs.Shown.{shown_at}
use Rattle.mbe_rules.specs.Faults.{faults_of}
use Rattle.expand_text.proofs.shown.shown_faults.Goals as goal

pub returns : goal.returns
returns c =
    let it : Definition = definition_of c.args.definition.now in
    let trees : Forest = prepared c.args.root.now (rest_of c.args.definition.now.arms) in
    let found : c.rules_of.result ≡ Ok (read.Context c.in-Ok-Context.rules) = search rules in
    let (arms, limits, spelled, made) = subst (λ r. IfOk r (IsRules it trees)) found c.rules_of.ensures in
    let same : rest_of c.iter.result ≡ trees = search rules in
    let until : c.start_of-behind.result ≡ start_of it.delimiter.close.range = search rules in
    let here : c.deref.result.now ≡ c.in_ok-errors.errors.items = search rules in
    let shown : c.in_ok-errors.errors.items ≡ faults_of arms 0 = c.in_ok-errors.ensures arms made in
    inl
    (arms, limits, spelled, c.in_ok-faults.ensures ∙ ap₂ (λ f u. map (shown_at f u) c.deref.result.now) same until ∙ ap (map (shown_at trees (start_of it.delimiter.close.range))) (here ∙ shown))
