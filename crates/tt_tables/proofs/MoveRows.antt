-- Moves and faults of some trees.
use Rattle.std.proofs.Common.{◌≡◌, ◌-◌, ◌^◌, ◌≤◌, refl}
use Rattle.tt_base.specs.declared.fault.TtFault.TheVariants.{NotOneSubtree}
use Rattle.tt_base.specs.declared.leaf.Leaf.{Leaf}
use Rattle.tt_base.specs.Forest.{Forest, Root, end, leaf, size, flat_root}
use Rattle.tt_tables.specs.Stored.{most_tokens}
use Rattle.tt_base.specs.Moves.{step_after}
use Rattle.tt_tables.specs.PackFault.{IsPackFault}

-- A token is one step, and the count stays at the largest number once it is that.
steps : (it : Leaf) (rest : Forest)
    → (step_after 0 (leaf it rest) ≡ 1) × (step_after 7 end ≡ 7) × (step_after (2 ^ 64 - 2) (leaf it rest) ≡ 2 ^ 64 - 1)
    × (step_after (2 ^ 64 - 1) (leaf it rest) ≡ 2 ^ 64 - 1)
steps it rest = (refl, refl, refl, refl)

-- The list of a tree is never refused as one that is not one subtree.
no_tree_is_none : (root : Root) → size root.children ≤ most_tokens → IsPackFault (flat_root root) NotOneSubtree → ⊥
no_tree_is_none root few fault = fault (root, refl, few)
