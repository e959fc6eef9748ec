use Rattle.std.proofs.Common.{rules, ◌≡◌, ◌+◌, suc, false, drop, length, get_or, refl, ap, ap₂, sym, ◌∙◌, arith}
use Rattle.tt.specs.Building.{append}
use Rattle.tt.specs.Iters.{rest_of}
use Rattle.tt.specs.Views.{trees_of}
use Rattle.expand_items.proofs.Adding.{spread_more, spread_end}
use Rattle.expand_items.specs.declared.part.Part.{Part}
use Rattle.expand_items.specs.Spreads.{before, put_part, spread}
use Rattle.expand_items.proofs.spread.add_parts.Goals as goal
use Rattle.expand_items.specs.Attributes.{conditions_of}
use Rattle.mbe_pattern.specs.Units.{front_trees}
use Rattle.std.proofs.Common.{subst}
use Rattle.tt.specs.Gluing.{after_trees}
use Rattle.expand_items.proofs.Wanting.{wants_appended}
use Rattle.expand_items.specs.Spreads.{IsWanting}

pub loop-place-preserved : goal.loop-place-preserved
loop-place-preserved c =
    let braces = c.args.braces in
    let conditions = conditions_of (trees_of c.args.attributes) in
    let parts = c.args.parts.now in
    let place = c.loop-place.place in
    let none : Part = record { len = 0; is_expression = false } in
    let part : Part = get_or parts place none in
    let trees = rest_of c.loop-place.trees in
    let stack = c.loop-place.builder.stack in
    let next : place + 1 ≡ suc place = omega arith in
    let grown : c.add_part.new.builder.stack ≡ append (put_part braces part.is_expression (front_trees part.len trees)) (append (before conditions place) stack) =
    c.in_ok-add_part.ensures.added ∙ ap₂ (λ f s. append (put_part braces part.is_expression f) s) c.take-its.ensures.taken c.in_ok-add_before.ensures.added in
    record {
      added =
          ap (λ n. append (spread braces conditions n (drop n parts) (rest_of c.take-its.new.trees)) c.add_part.new.builder.stack) next
          ∙ ap₂ (λ f s. append (spread braces conditions (suc place) (drop (suc place) parts) f) s) c.take-its.ensures.rest grown
          ∙ spread_more braces conditions parts place part none c.loop-place-test.true refl trees stack ∙ c.loop-place.invariant.added;
      top = c.in_ok-add_part.ensures.top ∙ c.in_ok-add_before.ensures.top ∙ c.loop-place.invariant.top;
    }

pub returns-clause-added : goal.returns-clause-added
returns-clause-added c =
    let parts = c.args.parts.now in
    let conditions = conditions_of (trees_of c.args.attributes) in
    let trees = rest_of c.loop-place.trees in
    let stack = c.loop-place.builder.stack in
    let all : c.loop-place.place ≡ length parts = search (rules, arith) in
    sym (ap (λ n. append (spread c.args.braces conditions n (drop n parts) trees) stack) all ∙ spread_end c.args.braces conditions parts trees stack)
    ∙ c.loop-place.invariant.added

pub returns-in_err-add_before-clause-fault : goal.returns-in_err-add_before-clause-fault
returns-in_err-add_before-clause-fault c =
    let braces = c.args.braces in
    let conditions = conditions_of (trees_of c.args.attributes) in
    let parts = c.args.parts.now in
    let place = c.loop-place.place in
    let none : Part = record { len = 0; is_expression = false } in
    let part : Part = get_or parts place none in
    let trees = rest_of c.loop-place.trees in
    let stack = c.loop-place.builder.stack in
    let fault = c.in_err-add_before.field-0.0 in
    let one = put_part braces part.is_expression (front_trees part.len trees) in
    let more = spread braces conditions (suc place) (drop (suc place) parts) (after_trees part.len trees) in
    let why : IsWanting (append (before conditions place) stack) fault = search rules in
    let wants : IsWanting (append (spread braces conditions 0 parts (rest_of c.args.trees)) c.args.builder.now.stack) fault =
    subst (λ s. IsWanting s fault) (spread_more braces conditions parts place part none c.loop-place-test.true refl trees stack ∙ c.loop-place.invariant.added)
    (wants_appended more (append one (append (before conditions place) stack)) fault (wants_appended one (append (before conditions place) stack) fault why)) in
    search (rules, wants)

pub returns-in_err-add_part-clause-fault : goal.returns-in_err-add_part-clause-fault
returns-in_err-add_part-clause-fault c =
    let braces = c.args.braces in
    let conditions = conditions_of (trees_of c.args.attributes) in
    let parts = c.args.parts.now in
    let place = c.loop-place.place in
    let none : Part = record { len = 0; is_expression = false } in
    let part : Part = get_or parts place none in
    let trees = rest_of c.loop-place.trees in
    let stack = c.loop-place.builder.stack in
    let fault = c.in_err-add_part.field-0.0 in
    let one = put_part braces part.is_expression (front_trees part.len trees) in
    let more = spread braces conditions (suc place) (drop (suc place) parts) (after_trees part.len trees) in
    let grown : append (put_part braces part.is_expression (trees_of c.take-its.result)) c.add_before.new.builder.stack ≡ append one (append (before conditions place) stack) =
    ap₂ (λ f s. append (put_part braces part.is_expression f) s) c.take-its.ensures.taken c.in_ok-add_before.ensures.added in
    let why : IsWanting (append (put_part braces part.is_expression (trees_of c.take-its.result)) c.add_before.new.builder.stack) fault = search rules in
    let wants : IsWanting (append (spread braces conditions 0 parts (rest_of c.args.trees)) c.args.builder.now.stack) fault =
    subst (λ s. IsWanting s fault) (spread_more braces conditions parts place part none c.loop-place-test.true refl trees stack ∙ c.loop-place.invariant.added)
    (wants_appended more (append one (append (before conditions place) stack)) fault (subst (λ s. IsWanting s fault) grown why)) in
    search (rules, wants)
