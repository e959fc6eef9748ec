use Rattle.std.proofs.Common.{rules, ◌≡◌, ◌+◌, ◌-◌, ◌<◌, ◌++◌, ◌∷◌, [], Some, None, ap₂, ◌∙◌, arith}
use Rattle.tt.specs.Expectations.{first_leaf_as, as_leaf}
use Rattle.tt.specs.Iters.{rest_of}
use Rattle.tt.specs.Moves.{after_tree}
use Rattle.mbe_pattern.specs.Units.{front_leaves}
use Rattle.mbe_pattern.proofs.Passing.{take_next, take_none}
use Rattle.mbe_pattern.proofs.dollar.front_leaves.Goals as goal

pub loop-preserved : goal.loop-preserved
loop-preserved c =
    let count = c.args.count in
    let i = c.loop.counter in
    let trees = rest_of c.loop.trees in
    let it = c.in-Ok.leaf in
    let lt : i < count = omega arith in
    let is : Some it ≡ first_leaf_as as_leaf trees = search rules in
    let rest : rest_of c.expect_leaf.new.self ≡ after_tree trees = search rules in
    let pushed : c.push.new.self.items ≡ c.loop.leaves.items ++ it ∷ [] = search rules in
    ap₂ (λ l t. l ++ front_leaves (count - (i + 1)) t) pushed rest
    ∙ take_next count i trees c.loop.leaves.items (front_leaves count (rest_of c.args.trees)) c.loop.invariant it lt is

pub returns-in_default : goal.returns-in_default
returns-in_default c =
    let trees = rest_of c.loop.trees in
    let is : None ≡ first_leaf_as as_leaf trees = search rules in
    take_none c.args.count c.loop.counter trees c.loop.leaves.items (front_leaves c.args.count (rest_of c.args.trees)) c.loop.invariant is
