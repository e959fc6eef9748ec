use Rattle.std.proofs.Common.{rules, ◌≡◌, ◌∙◌, Some, None, ap, ap₂, sym}
use Rattle.tt.specs.Iters.{rest_of, IsFirstElement}
use Rattle.tt.specs.Moves.{after_tree}
use Rattle.tt.specs.Types.TtElement.TheVariants as element
use Rattle.expand_items.specs.Operands.{operand_from}
use Rattle.expand_items.proofs.Rebuilding.{leaf_first, node_first, none_first}
use Rattle.expand_items.proofs.operand.operand_of.Goals as goal

pub trees-preserved-in-Leaf : goal.trees-preserved-in-Leaf
trees-preserved-in-Leaf c =
    let trees = rest_of c.trees.trees in
    let it = c.in-Leaf.leaf in
    let first : IsFirstElement trees (Some (element.Leaf it)) = search rules in
    let passed : rest_of c.next.new.self ≡ after_tree trees = search rules in
    ap₂ operand_from c.behind_leaf-operand.ensures passed ∙ ap (operand_from c.trees.operand) (sym (leaf_first trees it first)) ∙ c.trees.invariant

pub trees-preserved : goal.trees-preserved
trees-preserved c =
    let trees = rest_of c.trees.trees in
    let header = c.in-Subtree.header in
    let first : IsFirstElement trees (Some (element.Subtree header c.in-Subtree.field-1)) = search rules in
    let passed : rest_of c.next.new.self ≡ after_tree trees = search rules in
    ap₂ operand_from c.behind_subtree-operand.ensures passed ∙ ap (operand_from c.trees.operand) (sym (node_first trees header c.in-Subtree.field-1 first)) ∙ c.trees.invariant

pub returns : goal.returns
returns c =
    let trees = rest_of c.trees.trees in
    let first : IsFirstElement trees None = search rules in
    sym (ap (operand_from c.trees.operand) (none_first trees first)) ∙ c.trees.invariant
