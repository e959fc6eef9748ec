use Rattle.std.proofs.Common.{rules, ◌≡◌, ◌+◌, ◌-◌, ◌<◌, ◌≤◌, ap, sym, subst, ◌∙◌, arith}
use Rattle.tt.specs.Forest.{size}
use Rattle.tt.specs.Gluing.{after_trees}
use Rattle.tt.specs.Iters.{rest_of}
use Rattle.tt.specs.Moves.{after_tree}
use Rattle.mbe_pattern.proofs.Passing.{pass_next, pass_all, after_less}
use Rattle.mbe_pattern.proofs.front.pass.Goals as goal

pub loop-preserved : goal.loop-preserved
loop-preserved c =
    let count = c.args.count in
    let i = c.loop.counter in
    let lt : i < count = omega arith in
    let rest : rest_of c.next.new.self ≡ after_tree (rest_of c.loop.trees) = search rules in
    ap (after_trees (count - (i + 1))) rest ∙ sym (pass_next count i (rest_of c.loop.trees) lt) ∙ c.loop.invariant

pub returns-clause-rest : goal.returns-clause-rest
returns-clause-rest c =
    let le : c.args.count ≤ c.loop.counter = omega arith in
    sym (pass_all c.args.count c.loop.counter (rest_of c.loop.trees) le) ∙ c.loop.invariant

pub returns-clause-less : goal.returns-clause-less
returns-clause-less c =
    subst (λ t. size t ≤ size (rest_of c.args.trees.now)) (sym (sym (pass_all c.args.count c.loop.counter (rest_of c.loop.trees) (omega arith)) ∙ c.loop.invariant)) (after_less c.args.count (rest_of c.args.trees.now))
