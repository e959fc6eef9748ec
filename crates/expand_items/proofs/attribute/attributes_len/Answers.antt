use Rattle.std.proofs.Common.{rules, ◌≡◌, true, false, ap, arith}
use Rattle.tt.specs.Forest.{size}
use Rattle.tt.specs.Gluing.{after_trees}
use Rattle.tt.specs.Iters.{rest_of}
use Rattle.expand_items.specs.Attributes.{attributes_len, is_at_attribute}
use Rattle.expand_items.proofs.Attributes.{attribute_fits, no_attribute, one_attribute}
use Rattle.expand_items.proofs.attribute.attributes_len.Goals as goal

pub loop-trees-preserved : goal.loop-trees-preserved
loop-trees-preserved c =
    let trees = rest_of c.loop-trees.trees in
    let there : is_at_attribute trees ≡ true = search rules in
    let behind : rest_of c.pass.new.trees ≡ after_trees 2 trees = search rules in
    record {
      len = omega (arith, c.loop-trees.invariant.len, one_attribute trees there, ap attributes_len behind);
      fits = omega (arith, c.loop-trees.invariant.fits, attribute_fits trees there, ap size behind);
    }

pub returns : goal.returns
returns c =
    let none : is_at_attribute (rest_of c.loop-trees.trees) ≡ false = search rules in
    omega (arith, c.loop-trees.invariant.len, no_attribute (rest_of c.loop-trees.trees) none)
