use Rattle.std.proofs.Common.{◌≡◌, ◌-◌, ap, sym, arith}
use Rattle.tt_base.specs.Forest.{end, size}
use Rattle.tt_base.specs.Unflat.{join-end}
use Rattle.tt_view.proofs.tree_walk.TreeWalk.new.Goals as goal

pub through_front-requires : goal.through_front-requires
through_front-requires c =
    let trees = c.args.tree.children in
    let count : size trees ≡ c.len-len.result - 1 = omega (arith, c.len-len.ensures, ap (λ r. size r.children) c.packed.ensures) in
    (trees, (end, sym (join-end trees), count))

pub returns-clause-innermost : goal.returns-clause-innermost
returns-clause-innermost c =
    let trees = c.args.tree.children in
    let count : size trees ≡ c.len-len.result - 1 = omega (arith, c.len-len.ensures, ap (λ r. size r.children) c.packed.ensures) in
    c.through_front.ensures.innermost trees (end, sym (join-end trees), count)
