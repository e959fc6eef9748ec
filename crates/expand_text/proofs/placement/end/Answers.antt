use Rattle.std.proofs.Common.{rules, ◌≡◌, ◌≢◌, ◌<◌, ◌∙◌, Some, inr, ap, sym, subst, arith}
use Rattle.tt.specs.Building.{BuilderState, built, depth}
use Rattle.tt.specs.Stored.{IsWithinLimits}
use Rattle.tt.specs.TreeFault.{IsTreeFault}
use Rattle.tt.specs.Types.DelimiterKind.TheVariants.{Invisible}
use Rattle.tt.specs.Types.TtFault.TheVariants as limit
use Rattle.tt.specs.Views.{trees_of}
use Rattle.expand_items.specs.Attributes.{conditions_of}
use Rattle.expand_items.specs.Spreads.{IsPutUnder}
use Rattle.expand_text.specs.Expanding.{brackets_in, depth_outside}
use Rattle.expand_text.specs.Invocations.{site_of}
use Rattle.expand_text.specs.Macros.{tree_of}
use Rattle.expand_text.proofs.Placing.{added_under, apart_of, built_alone, is_too_large, kept_under, outside_apart, put_depth}
use Rattle.expand_text.proofs.placement.end.Goals as goal

pub returns-in-Err : goal.returns-in-Err
returns-in-Err c =
    let waits : c.args.outer ≡ Some c.in-Some.outer = search rules in
    let there : c.replace-apart.new.dest ≡ c.in-Some.outer = search rules in
    record {
      added = λ whole trees before begun attributes begins top added.
          let call = c.args.call.now in
          let apart : BuilderState = c.args.builder.now in
          let site = site_of whole call in
          let waits : c.args.outer ≡ Some c.in-Some.outer = search rules in
          let (same, empty) = apart_of (brackets_in call) call.delimiter before begun c.args.outer c.in-Some.outer waits begins in
          let there : c.replace-apart.new.dest ≡ c.in-Some.outer = search rules in
          let stack : c.replace-apart.new.dest.stack ≡ before.stack = ap (λ b. b.stack) (there ∙ same) in
          let some : 0 < call.attributes = omega (arith, c.if-call-eq0.false) in
          let whole_tree : built apart ≡ tree_of call.delimiter trees = built_alone (record call.delimiter { kind = Invisible }) begun apart trees empty top added in
          let why = c.in-Err.refused.fault in
          let past : IsTreeFault (built apart) why = search rules in
          let no_memory : why ≢ limit.Memory = search rules in
          (inr (is_too_large site trees some why (subst (λ r. IsTreeFault r why) whole_tree past, no_memory)), stack);
      depth = ap (λ b. depth b.stack) there ∙ sym (outside_apart (brackets_in c.args.call.now) c.in-Some.outer (depth c.args.builder.now.stack))
          ∙ ap (λ o. depth_outside c.args.call.now o (depth c.args.builder.now.stack)) (sym waits);
      top = search rules;
    }

pub returns-then-branch-clause-added : goal.returns-then-branch-clause-added
returns-then-branch-clause-added c whole trees before begun attributes begins top added =
    let call = c.args.call.now in
    let apart : BuilderState = c.args.builder.now in
    let site = site_of whole call in
    let waits : c.args.outer ≡ Some c.in-Some.outer = search rules in
    let (same, empty) = apart_of (brackets_in call) call.delimiter before begun c.args.outer c.in-Some.outer waits begins in
    let there : c.replace-apart.new.dest ≡ c.in-Some.outer = search rules in
    let stack : c.replace-apart.new.dest.stack ≡ before.stack = ap (λ b. b.stack) (there ∙ same) in
    let some : 0 < call.attributes = omega (arith, c.if-call-eq0.false) in
    let whole_tree : built apart ≡ tree_of call.delimiter trees = built_alone (record call.delimiter { kind = Invisible }) begun apart trees empty top added in
    let tree : c.in-Ok.tree ≡ tree_of call.delimiter trees = search rules ∙ whole_tree in
    let held : trees_of c.token_trees.result ≡ trees = search rules ∙ ap (λ r. r.children) tree in
    let within : IsWithinLimits (tree_of call.delimiter trees) = subst IsWithinLimits tree c.in-Ok.ensures.limits in
    let is_put = c.in_ok-put_under.field-0 in
    let under : IsPutUnder call.position.siblings call.delimiter (conditions_of site.attributes) trees is_put before.stack c.put_under.new.builder.stack =
    subst (λ s. IsPutUnder call.position.siblings call.delimiter (conditions_of site.attributes) trees is_put s c.put_under.new.builder.stack) stack
    (subst (λ f. IsPutUnder call.position.siblings call.delimiter (conditions_of site.attributes) f is_put c.replace-apart.new.dest.stack c.put_under.new.builder.stack) held
    (subst (λ f. IsPutUnder call.position.siblings call.delimiter (conditions_of f) (trees_of c.token_trees.result) is_put c.replace-apart.new.dest.stack c.put_under.new.builder.stack) attributes
    (subst (λ among. IsPutUnder among call.delimiter (conditions_of (trees_of c.args.attributes)) (trees_of c.token_trees.result) is_put c.replace-apart.new.dest.stack c.put_under.new.builder.stack) c.siblings.ensures
    c.in_ok-put_under.ensures.put))) in
    added_under site trees some within is_put before.stack c.put_under.new.builder.stack under c.if-branch.true

pub returns-then-branch-clause-depth : goal.returns-then-branch-clause-depth
returns-then-branch-clause-depth c =
    let waits : c.args.outer ≡ Some c.in-Some.outer = search rules in
    let there : c.replace-apart.new.dest ≡ c.in-Some.outer = search rules in
    let put = c.in_ok-put_under.ensures.put in
    put_depth put.put c.replace-apart.new.dest.stack c.put_under.new.builder.stack put.added ∙ ap (λ b. depth b.stack) there
    ∙ sym (outside_apart (brackets_in c.args.call.now) c.in-Some.outer (depth c.args.builder.now.stack)) ∙ ap (λ o. depth_outside c.args.call.now o (depth c.args.builder.now.stack)) (sym waits)

pub returns-clause-added : goal.returns-clause-added
returns-clause-added c whole trees before begun attributes begins top added =
    let call = c.args.call.now in
    let apart : BuilderState = c.args.builder.now in
    let site = site_of whole call in
    let waits : c.args.outer ≡ Some c.in-Some.outer = search rules in
    let (same, empty) = apart_of (brackets_in call) call.delimiter before begun c.args.outer c.in-Some.outer waits begins in
    let there : c.replace-apart.new.dest ≡ c.in-Some.outer = search rules in
    let stack : c.replace-apart.new.dest.stack ≡ before.stack = ap (λ b. b.stack) (there ∙ same) in
    let some : 0 < call.attributes = omega (arith, c.if-call-eq0.false) in
    let whole_tree : built apart ≡ tree_of call.delimiter trees = built_alone (record call.delimiter { kind = Invisible }) begun apart trees empty top added in
    let tree : c.in-Ok.tree ≡ tree_of call.delimiter trees = search rules ∙ whole_tree in
    let held : trees_of c.token_trees.result ≡ trees = search rules ∙ ap (λ r. r.children) tree in
    let within : IsWithinLimits (tree_of call.delimiter trees) = subst IsWithinLimits tree c.in-Ok.ensures.limits in
    let is_put = c.in_ok-put_under.field-0 in
    let under : IsPutUnder call.position.siblings call.delimiter (conditions_of site.attributes) trees is_put before.stack c.put_under.new.builder.stack =
    subst (λ s. IsPutUnder call.position.siblings call.delimiter (conditions_of site.attributes) trees is_put s c.put_under.new.builder.stack) stack
    (subst (λ f. IsPutUnder call.position.siblings call.delimiter (conditions_of site.attributes) f is_put c.replace-apart.new.dest.stack c.put_under.new.builder.stack) held
    (subst (λ f. IsPutUnder call.position.siblings call.delimiter (conditions_of f) (trees_of c.token_trees.result) is_put c.replace-apart.new.dest.stack c.put_under.new.builder.stack) attributes
    (subst (λ among. IsPutUnder among call.delimiter (conditions_of (trees_of c.args.attributes)) (trees_of c.token_trees.result) is_put c.replace-apart.new.dest.stack c.put_under.new.builder.stack) c.siblings.ensures
    c.in_ok-put_under.ensures.put))) in
    kept_under site trees some within is_put before.stack c.put_under.new.builder.stack under c.if-branch.false
