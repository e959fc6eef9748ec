-- The first tree is the front that has the tokens of its view.
use Rattle.std.proofs.Common.{◌≡◌, ap, sym, ◌∙◌}
use Rattle.tt.specs.Forest.{size}
use Rattle.tt.specs.Moves.{after_tree}
use Rattle.tt.specs.Siblings.{first_tree}
use Rattle.tt_base.proofs.Joins.{tree_by_tree}
use Rattle.test_contracts.proofs.tree_walk.walk_first.Goals as goal
use Rattle.test_contracts.proofs.tree_walk.walk_first.Goals.{in-Some, in-None}

count : (c : goal.Joined-next_as_view) → size (first_tree c.args.tree.children) ≡ c.match-next_as_view.len
count c = elim c.match-next_as_view.branch [
  | in-Some w ↦ sym (w.len-is ∙ w.len-len.ensures ∙ ap size (w.in-Some.ensures.first ∙ ap first_tree c.iter.ensures))
  | in-None w ↦ ap (λ f. size (first_tree f)) (sym c.iter.ensures ∙ w.in-None.ensures.first) ∙ sym w.len-is
]

pub through_front-requires : goal.through_front-requires
through_front-requires c =
    let trees = c.args.tree.children in
    (first_tree trees, (after_tree trees, tree_by_tree trees, count c))

pub returns : goal.returns
returns c =
    let trees = c.args.tree.children in
    c.through_front.ensures.innermost (first_tree trees) (after_tree trees, tree_by_tree trees, count c.before)
