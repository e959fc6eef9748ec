use Rattle.std.proofs.Common.{rules, ◌≡◌, true, false, cond, ap, ap₂, sym, ◌∙◌, arith}
use Rattle.tt.specs.Building.{append}
use Rattle.tt.specs.Forest.{size, end}
use Rattle.tt.specs.Iters.{rest_of}
use Rattle.expand_items.proofs.Adding.{conditions_more, conditions_none}
use Rattle.expand_items.proofs.spread.add_conditions.Goals as goal
use Rattle.expand_items.proofs.Attributes.{attribute_fits}
use Rattle.expand_items.specs.Attributes.{conditions_of, is_at_attribute, is_at_condition}
use Rattle.std.proofs.Common.{subst}
use Rattle.tt.specs.Views.{trees_of}
use Rattle.expand_items.proofs.Wanting.{wants_appended}
use Rattle.expand_items.specs.Spreads.{IsWanting}

pub attributes-smaller : goal.attributes-smaller
attributes-smaller c =
    let trees = rest_of c.attributes.trees in
    let there : is_at_attribute trees ≡ true = search rules in
    omega (arith, ap size c.take-attribute.ensures.rest, attribute_fits trees there)

pub attributes-preserved : goal.attributes-preserved
attributes-preserved c =
    let trees = rest_of c.attributes.trees in
    let there : is_at_attribute trees ≡ true = search rules in
    let stack = c.attributes.builder.stack in
    record {
      added =
          ap₂ (λ f s. append (conditions_of f) s) c.take-attribute.ensures.rest
          (c.in_ok-add_condition.ensures.added ∙ ap (λ f. append (cond (is_at_condition f) f end) stack) c.take-attribute.ensures.taken)
          ∙ conditions_more trees there stack ∙ c.attributes.invariant.added;
      top = c.in_ok-add_condition.ensures.top ∙ c.attributes.invariant.top;
    }

pub returns-clause-added : goal.returns-clause-added
returns-clause-added c =
    let trees = rest_of c.attributes.trees in
    let none : is_at_attribute trees ≡ false = search rules in
    sym (conditions_none trees none c.attributes.builder.stack) ∙ c.attributes.invariant.added

pub returns-in_err-add_condition-clause-fault : goal.returns-in_err-add_condition-clause-fault
returns-in_err-add_condition-clause-fault c =
    let trees = rest_of c.attributes.trees in
    let one = trees_of c.take-attribute.result in
    let left = rest_of c.take-attribute.new.trees in
    let stack = c.attributes.builder.stack in
    let fault = c.in_err-add_condition.field-0.0 in
    let there : is_at_attribute trees ≡ true = search rules in
    let why : IsWanting (append (cond (is_at_condition one) one end) stack) fault = search rules in
    let whole : append (conditions_of left) (append (cond (is_at_condition one) one end) stack) ≡ append (conditions_of (trees_of c.args.attributes)) c.args.builder.now.stack =
    ap₂ (λ f g. append (conditions_of f) (append (cond (is_at_condition g) g end) stack)) c.take-attribute.ensures.rest c.take-attribute.ensures.taken
    ∙ conditions_more trees there stack ∙ c.attributes.invariant.added in
    let wants : IsWanting (append (conditions_of (trees_of c.args.attributes)) c.args.builder.now.stack) fault =
    subst (λ s. IsWanting s fault) whole (wants_appended (conditions_of left) (append (cond (is_at_condition one) one end) stack) fault why) in
    search (rules, wants)
