use Rattle.std.proofs.Common.{rules, ◌≡◌, refl, subst₂}
use Rattle.tt.specs.Building.{BuilderState}
use Rattle.tt.specs.Forest.{size}
use Rattle.tt.specs.Views.{trees_of}
use Rattle.expand_text.specs.Contexts.{Config, IsContext, IsOutside, config_of, inside_call, outside_call}
use Rattle.expand_text.specs.Expanding.{IsAdded}
use Rattle.expand_text.specs.Invocations.{entered_by, site_of}
use Rattle.expand_text.specs.Outcomes.{trees_left}
use Rattle.expand_text.proofs.expanding.expand_invocation.Goals as goal

pub returns-clause-placed : goal.returns-clause-placed
returns-clause-placed c before is =
    let config : Config = config_of c.args.config.now in
    let it = c.args.call.now in
    let old : BuilderState = c.args.builder.now in
    let tokens : c.len-tokens.result ≡ size c.args.tree.children = search rules in
    let entered : IsContext (entered_by config it c.args.tree before) c.enter_call.new.self =
    subst₂ (λ at n. IsContext (inside_call config it.name at n before) c.enter_call.new.self) c.start_of-at.ensures tokens (c.in_ok-outside.ensures.entered before is) in
    let outside : IsOutside before c.in_ok-outside.outside = c.in_ok-outside.ensures.outside before is in
    let (inside, left, are) = c.in_ok-expand_tree.ensures.expanded (entered_by config it c.args.tree before) entered in
    let added : IsAdded (site_of (trees_of c.args.whole) it) (trees_left are.outcome) c.in_ok-misplaced.misplaced old.stack c.end.new.builder.stack =
    c.in_ok-misplaced.ensures.added (trees_of c.args.whole) (trees_left are.outcome) old c.begin.new.builder c.attributes_in.ensures c.in_ok-outer.ensures c.in_ok-expand_tree.ensures.top are.added in (
      outside_call before inside,
      c.leave_call.ensures.known before inside outside left,
      record { inside = inside; outcome = are.outcome; expands_to = are.expands_to; added = added; behind = refl },
    )
