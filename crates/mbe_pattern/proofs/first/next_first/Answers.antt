use Rattle.std.proofs.Common.{rules, ◌≡◌, ◌-◌, false, Some, ap, subst, sym, ◌∙◌}
use Rattle.tt.specs.Forest.{leaf, size}
use Rattle.tt.specs.Gluing.{after_trees}
use Rattle.tt.specs.Iters.{rest_of, IsFirstElement}
use Rattle.tt.specs.Moves.{after_tree}
use Rattle.tt.specs.Types.TtElement.TheVariants as element
use Rattle.mbe_pattern.specs.Dollars.{AreLess}
use Rattle.mbe_pattern.specs.Placed.{placed_until}
use Rattle.mbe_pattern.specs.Placed as placed
use Rattle.mbe_pattern.specs.Spelling.{is_dollar}
use Rattle.mbe_pattern.specs.Units.{unit_size, unit_from, front_leaves}
use Rattle.mbe_pattern.specs.Validating.{IsFirst, held_in}
use Rattle.mbe_pattern.proofs.FirstSteps.{placed_token}
use Rattle.mbe_pattern.proofs.FirstTrees.{leaf_before}
use Rattle.mbe_pattern.proofs.first.next_first.Goals as goal

pub returns-then-is_dollar : goal.returns-then-is_dollar
returns-then-is_dollar c =
    let until = c.args.until in
    let trees = rest_of c.args.trees.now in
    let it = c.in-Some-Leaf.leaf in
    let found = c.in_ok-part-in-Some-Leaf.part in
    let others = rest_of c.dollar_first.new.siblings in
    let first : IsFirstElement trees (Some (element.Leaf it)) = search rules in
    let begins : trees ≡ leaf it (after_tree trees) = leaf_before trees it first in
    let rest : rest_of c.next.new.self ≡ after_tree trees = search rules in
    let same : leaf it (rest_of c.next.new.self) ≡ trees = ap (leaf it) rest ∙ sym begins in
    let was = c.in_ok-part-in-Some-Leaf.ensures in
    record {
      part = subst (λ t. IsFirst until t found others) same was.part;
      less = subst (λ t. AreLess (held_in found) (size others) (size t)) same was.less;
    }

pub returns-else-is_dollar-clause-part : goal.returns-else-is_dollar-clause-part
returns-else-is_dollar-clause-part c =
    let until = c.args.until in
    let trees = rest_of c.args.trees.now in
    let it = c.in-Some-Leaf.leaf in
    let others = rest_of c.pass.new.trees in
    let first : IsFirstElement trees (Some (element.Leaf it)) = search rules in
    let begins : trees ≡ leaf it (after_tree trees) = leaf_before trees it first in
    let plain : is_dollar it ≡ false = search rules in
    let seen : rest_of c.iter-before.result ≡ trees = search rules in
    let rest : rest_of c.next.new.self ≡ after_tree trees = search rules in
    let counted : c.unit_size-count.result ≡ unit_size (rest_of c.iter-before.result) = search rules in
    let one : c.unit_size-count.result ≡ unit_from it (after_tree trees) = counted ∙ ap unit_size (seen ∙ begins) in
    let less : c.saturating_sub.result ≡ c.unit_size-count.result - 1 = search rules in
    let passed : others ≡ after_trees c.saturating_sub.result (rest_of c.next.new.self) = search rules in
    let left : others ≡ after_trees (unit_from it (after_tree trees) - 1) (after_tree trees) =
    passed ∙ ap (λ n. after_trees n (rest_of c.next.new.self)) (less ∙ ap (λ n. n - 1) one) ∙ ap (after_trees (unit_from it (after_tree trees) - 1)) rest in
    let read : front_leaves (unit_from it (after_tree trees)) (leaf it (after_tree trees)) ≡ front_leaves c.unit_size-count.result trees =
    ap (λ n. front_leaves n (leaf it (after_tree trees))) (sym one) ∙ ap (front_leaves c.unit_size-count.result) (sym begins) in
    ap (placed_until until) begins ∙ placed_token until it (after_tree trees) others plain left ∙ ap (λ l. placed.token l (placed_until until others)) read
