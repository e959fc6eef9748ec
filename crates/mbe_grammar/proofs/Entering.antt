-- The trees of the subtree that comes first.
use Rattle.std.proofs.Common.{◌≡◌, Some, None, refl}
use Rattle.tt.specs.Forest.{Forest, end, leaf, node}
use Rattle.tt.specs.Iters.{rest_of, IsFirstElement}
use Rattle.tt.specs.Moves.{after_tree}
use Rattle.tt.specs.Types.Leaf.{Leaf}
use Rattle.tt.specs.Types.Subtree.{Subtree}
use Rattle.tt.specs.Types.TtElement.TheVariants as element
use Rattle.tt.specs.Types.TtIter.{TtIter}
use Rattle.mbe_grammar.specs.Beginnings.{held}

pub held_subtree : (trees : Forest) (header : Subtree) (below : TtIter) → IsFirstElement trees (Some (element.Subtree header below)) → rest_of below ≡ held trees
held_subtree end header below first = absurd first
held_subtree (leaf it rest) header below first = absurd first
held_subtree (node delimiter children rest) header below first = first.2

-- Behind a leaf, or at the end, it is what is left.
pub held_leaf : (trees : Forest) (it : Leaf) → IsFirstElement trees (Some (element.Leaf it)) → after_tree trees ≡ held trees
held_leaf end it first = absurd first
held_leaf (leaf other rest) it first = refl
held_leaf (node delimiter children rest) it first = absurd first

pub held_none : (trees : Forest) → IsFirstElement trees None → after_tree trees ≡ held trees
held_none end first = refl
held_none (leaf it rest) first = absurd first
held_none (node delimiter children rest) first = absurd first
