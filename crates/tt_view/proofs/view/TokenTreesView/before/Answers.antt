use Rattle.std.proofs.Common.{rules, ◌≡◌, ◌-◌, ap, sym, ◌∙◌, arith}
use Rattle.tt_base.specs.Forest.{size, join}
use Rattle.tt_pack.specs.ReaderOf.{ahead_of}
use Rattle.tt_view.proofs.Cuts.{trees_are}
use Rattle.tt_base.proofs.Joins.{size-join, join-assoc}
use Rattle.tt_view.proofs.view.TokenTreesView.before.Goals as goal

pub overflow_sub-result : goal.overflow_sub-result
overflow_sub-result c =
    let s = c.args.self in
    let r = c.args.rest in
    omega (arith, s.trees.1.1, r.trees.1.1, ap size c.requires.1, size-join c.requires.0 r.trees.0.0)

pub invariant_of-result : goal.invariant_of-result
invariant_of-result c =
    let s = c.args.self in
    let r = c.args.rest in
    record {
      trees = (
        (c.requires.0, join r.trees.0.0 s.trees.0.1),
        (
          s.trees.1.0 ∙ ap (λ f. join f s.trees.0.1) c.requires.1 ∙ join-assoc c.requires.0 r.trees.0.0 s.trees.0.1,
          omega (arith, s.trees.1.1, r.trees.1.1, ap size c.requires.1, size-join c.requires.0 r.trees.0.0),
        ),
      );
    }

pub returns : goal.returns
returns c =
    let s = c.args.self in
    let r = c.args.rest in
    let e : ahead_of s.reader ≡ join c.requires.0 (join r.trees.0.0 s.trees.0.1) = s.trees.1.0 ∙ ap (λ f. join f s.trees.0.1) c.requires.1 ∙ join-assoc c.requires.0 r.trees.0.0 s.trees.0.1 in
    let n : size c.requires.0 ≡ s.len - r.len = omega (arith, s.trees.1.1, r.trees.1.1, ap size c.requires.1, size-join c.requires.0 r.trees.0.0) in
    let is : c.result-2-1.given.0.0.0 ≡ c.requires.0 = search (rules, trees_are) in
    rw is (sym c.requires.1)
