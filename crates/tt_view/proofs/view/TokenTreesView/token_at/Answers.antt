use Rattle.std.proofs.Common.{◌≡◌, ◌-◌, Some, ap, ap₂, sym, ◌∙◌, arith, rules}
use Rattle.std.specs.List.{slice_get}
use Rattle.tt_base.specs.Forest.{size, flat}
use Rattle.tt_base.specs.Moves.{first_token, after_tree}
use Rattle.tt_base.specs.Siblings.{children_of}
use Rattle.tt_view.specs.Views.{trees_of}
use Rattle.tt_view.proofs.FlatPlaces.{place_inside, place_behind}
use Rattle.tt_view.proofs.view.TokenTreesView.token_at.Goals as goal
use Rattle.tt_view.proofs.view.TokenTreesView.token_at.Goals.{then-left-below, else-left-below}

pub loop-token-preserved : goal.loop-token-preserved
loop-token-preserved c =
    let trees = trees_of c.loop-token.rest in
    let left = c.loop-token.left in
    let below = c.in-Some.below in
    let first : first_token trees ≡ Some c.in-Some.token = search rules in
    let held : trees_of below ≡ children_of trees = search rules in
    let others : trees_of c.next_tree.new.self ≡ after_tree trees = search rules in
    let count : below.len ≡ size (children_of trees) = sym below.trees.1.1 ∙ ap size held in
    elim c.if-left-below.branch [
      | then-left-below w ↦
          ap₂ (λ (view : _) n. slice_get (flat (trees_of view)) n) w.rest-is w.left-is
          ∙ ap (λ f. slice_get (flat f) (left - 1)) held
          ∙ place_inside trees c.in-Some.token left first c.if-left-eq0.false (omega (arith, w.if-left-below.true, count))
          ∙ c.loop-token.invariant
      | else-left-below w ↦
          ap₂ (λ (view : _) n. slice_get (flat (trees_of view)) n) w.rest-is w.left-is
          ∙ ap₂ (λ f n. slice_get (flat f) (left - 1 - n)) others count
          ∙ place_behind trees c.in-Some.token left first c.if-left-eq0.false (omega (arith, w.if-left-below.false, count))
          ∙ c.loop-token.invariant
    ]
