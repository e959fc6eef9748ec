use Rattle.std.proofs.Common.{rules, ◌≡◌, ◌∙◌, true, ap, ap₂, sym, arith}
use Rattle.tt.specs.Forest.{size}
use Rattle.tt.specs.Iters.{rest_of}
use Rattle.tt.specs.Moves.{after_tree}
use Rattle.expand_items.specs.Attributes.{is_at_attribute}
use Rattle.expand_items.specs.Cfg.{known_of}
use Rattle.expand_items.specs.Conditions.{attributes_say, brackets_say}
use Rattle.expand_items.specs.Predicates.{both}
use Rattle.expand_items.proofs.Kleene.{both_both}
use Rattle.expand_items.proofs.Saying.{attributes_first, attributes_less}
use Rattle.expand_items.proofs.condition.attributes_say.Goals as goal

pub attributes-smaller : goal.attributes-smaller
attributes-smaller c =
    let trees = rest_of c.attributes.trees in
    let there : is_at_attribute trees ≡ true = search rules in
    let sign : rest_of c.next.new.self ≡ after_tree trees = search rules in
    let behind : rest_of c.pass.new.trees ≡ after_tree (rest_of c.next.new.self) = search rules in
    omega (arith, attributes_less trees there, ap size (behind ∙ ap after_tree sign))

pub attributes-preserved : goal.attributes-preserved
attributes-preserved c =
    let known = known_of c.args.options.now in
    let trees = rest_of c.attributes.trees in
    let there : is_at_attribute trees ≡ true = search rules in
    let sign : rest_of c.next.new.self ≡ after_tree trees = search rules in
    let behind : rest_of c.pass.new.trees ≡ after_tree (rest_of c.next.new.self) = search rules in
    let says : c.both-says.result ≡ both c.attributes.says (brackets_say known (rest_of c.next.new.self)) = search rules in
    ap₂ both (says ∙ ap (λ f. both c.attributes.says (brackets_say known f)) sign) (ap (attributes_say known) (behind ∙ ap after_tree sign))
    ∙ both_both c.attributes.says (brackets_say known (after_tree trees)) (attributes_say known (after_tree (after_tree trees)))
    ∙ ap (both c.attributes.says) (sym (attributes_first known trees there)) ∙ c.attributes.invariant
