use Rattle.std.proofs.Common.{rules, ◌≡◌, false, codes, ap, arith}
use Rattle.tt.specs.Forest.{size}
use Rattle.tt.specs.Iters.{rest_of}
use Rattle.tt.specs.Moves.{after_tree}
use Rattle.tt.specs.Siblings.{is_end}
use Rattle.expand_items.specs.Conditions.{comma_at}
use Rattle.expand_items.proofs.Saying.{comma_later, tree_size}
use Rattle.expand_items.proofs.condition.comma_at.Goals as goal
use Rattle.mbe_pattern.specs.Units.{is_at_punct}

pub trees-preserved : goal.trees-preserved
trees-preserved c =
    let trees = rest_of c.trees.trees in
    let some : is_end trees ≡ false = search rules in
    let other : is_at_punct (codes ",") trees ≡ false = search rules in
    let behind : rest_of c.next.new.self ≡ after_tree trees = search rules in
    record {
      len = omega (arith, c.trees.invariant.len, comma_later trees some other, ap comma_at behind);
      fits = omega (arith, c.trees.invariant.fits, tree_size trees some, ap size behind);
    }
