-- What the first tree is, from what was read.
use Rattle.std.proofs.Common.{◌≡◌, Some, None, refl, ap, ap₂, sym}
use Rattle.tt.specs.Forest.{Forest, end, leaf, node}
use Rattle.tt.specs.Iters.{rest_of, IsFirstElement}
use Rattle.tt.specs.Moves.{after_tree}
use Rattle.tt.specs.Siblings.{children_of}
use Rattle.tt.specs.Types.Leaf.{Leaf}
use Rattle.tt.specs.Types.Subtree.{Subtree}
use Rattle.tt.specs.Types.TtElement.TheVariants as element
use Rattle.tt.specs.Types.TtIter.{TtIter}

-- Nothing is left.
pub none_first : (trees : Forest) → IsFirstElement trees None → trees ≡ end
none_first end p = refl
none_first (leaf it rest) p = absurd p
none_first (node delimiter children rest) p = absurd p

-- The first tree is a leaf.
pub leaf_before : (trees : Forest) (it : Leaf) → IsFirstElement trees (Some (element.Leaf it)) → trees ≡ leaf it (after_tree trees)
leaf_before end it p = absurd p
leaf_before (leaf other rest) it p = ap (λ l. leaf l rest) (sym p)
leaf_before (node delimiter children rest) it p = absurd p

-- The first tree is a subtree.
pub node_before : (trees : Forest) (header : Subtree) (below : TtIter) → IsFirstElement trees (Some (element.Subtree header below))
    → trees ≡ node header.delimiter (rest_of below) (after_tree trees)
node_before end header below p = absurd p
node_before (leaf it rest) header below p = absurd p
node_before (node delimiter children rest) header below p = ap₂ (λ d f. node d f rest) (sym p.0) (sym p.2)

-- What it holds.
pub children_first : (trees : Forest) (header : Subtree) (below : TtIter) → IsFirstElement trees (Some (element.Subtree header below)) → rest_of below ≡ children_of trees
children_first end header below p = absurd p
children_first (leaf it rest) header below p = absurd p
children_first (node delimiter children rest) header below p = p.2

-- A leaf holds nothing.
pub children_none : (trees : Forest) (it : Leaf) → IsFirstElement trees (Some (element.Leaf it)) → children_of trees ≡ end
children_none end it p = absurd p
children_none (leaf other rest) it p = refl
children_none (node delimiter children rest) it p = absurd p
