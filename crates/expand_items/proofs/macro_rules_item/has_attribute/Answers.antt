use Rattle.std.proofs.Common.{rules, ◌≡◌, ◌∙◌, true, false, ap, sym, arith}
use Rattle.std.specs.Prelude.{◌||◌}
use Rattle.tt.specs.Forest.{size}
use Rattle.tt.specs.Gluing.{after_trees}
use Rattle.tt.specs.Iters.{rest_of}
use Rattle.expand_items.specs.Attributes.{is_at_attribute}
use Rattle.expand_items.specs.MacroRulesItems.{has_attribute}
use Rattle.expand_items.specs.Positions.{is_at_attribute_of}
use Rattle.expand_items.proofs.Attributes.{attribute_fits, none_named, one_named}
use Rattle.expand_items.proofs.macro_rules_item.has_attribute.Goals as goal

pub returns-then-is_at_attribute_of : goal.returns-then-is_at_attribute_of
returns-then-is_at_attribute_of c =
    let word = c.args.word.now in
    let trees = rest_of c.loop-trees.trees in
    let there : is_at_attribute trees ≡ true = search rules in
    let behind : rest_of c.pass.new.trees ≡ after_trees 1 trees = search rules in
    let named : is_at_attribute_of word (rest_of c.pass.new.trees) ≡ true = search rules in
    sym (sym c.loop-trees.invariant ∙ one_named word trees there
    ∙ ap (λ b. b || has_attribute word (after_trees 2 trees)) (ap (is_at_attribute_of word) (sym behind) ∙ named))

pub loop-trees-smaller : goal.loop-trees-smaller
loop-trees-smaller c =
    let trees = rest_of c.loop-trees.trees in
    let there : is_at_attribute trees ≡ true = search rules in
    let behind : rest_of c.pass.new.trees ≡ after_trees 1 trees = search rules in
    let next : rest_of c.pass-in-loop-trees.new.trees ≡ after_trees 1 (rest_of c.pass.new.trees) = search rules in
    omega (arith, attribute_fits trees there, ap size (next ∙ ap (after_trees 1) behind))

pub loop-trees-preserved : goal.loop-trees-preserved
loop-trees-preserved c =
    let word = c.args.word.now in
    let trees = rest_of c.loop-trees.trees in
    let there : is_at_attribute trees ≡ true = search rules in
    let behind : rest_of c.pass.new.trees ≡ after_trees 1 trees = search rules in
    let other : is_at_attribute_of word (rest_of c.pass.new.trees) ≡ false = search rules in
    let next : rest_of c.pass-in-loop-trees.new.trees ≡ after_trees 1 (rest_of c.pass.new.trees) = search rules in
    let left : rest_of c.pass-in-loop-trees.new.trees ≡ after_trees 2 trees = next ∙ ap (after_trees 1) behind in
    ap (has_attribute word) left
    ∙ sym (one_named word trees there ∙ ap (λ b. b || has_attribute word (after_trees 2 trees)) (ap (is_at_attribute_of word) (sym behind) ∙ other))
    ∙ c.loop-trees.invariant

pub returns : goal.returns
returns c =
    let none : is_at_attribute (rest_of c.loop-trees.trees) ≡ false = search rules in
    sym (none_named c.args.word.now (rest_of c.loop-trees.trees) none) ∙ c.loop-trees.invariant
