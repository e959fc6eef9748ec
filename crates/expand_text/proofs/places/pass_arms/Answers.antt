use Rattle.std.proofs.Common.{◌≡◌, ◌+◌, ◌*◌, ap, sym, ◌∙◌, arith}
use Rattle.tt.specs.Gluing.{after_trees}
use Rattle.tt.specs.Iters.{rest_of}
use Rattle.expand_text.specs.Places.{arm_len}
use Rattle.expand_items.proofs.ManyTrees.{after_both}
use Rattle.expand_text.proofs.places.pass_arms.Goals as goal

pub loop-preserved : goal.loop-preserved
loop-preserved c =
    let trees = rest_of c.args.trees.now in
    let i = c.loop.counter in
    let one_more : i * arm_len + arm_len ≡ (i + 1) * arm_len = omega arith in
    c.pass.ensures.rest ∙ ap (after_trees arm_len) c.loop.invariant ∙ sym (after_both (i * arm_len) arm_len trees) ∙ ap (λ n. after_trees n trees) one_more

pub returns : goal.returns
returns c =
    let all : c.loop.counter ≡ c.args.count = omega arith in
    c.loop.invariant ∙ ap (λ n. after_trees (n * arm_len) (rest_of c.args.trees.now)) all
