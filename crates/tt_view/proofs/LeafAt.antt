-- A leaf that is set in the flat list of a tree.
use Rattle.std.proofs.Common.{◌≡◌, ℕ, ◌≤◌, List, ◌∷◌, set, Some, ap, sym, ◌∙◌, append-nil, arith}
use Rattle.std.specs.List.{slice_get}
use Rattle.tt_base.specs.declared.fault.TtFault.{TtFault}
use Rattle.tt_base.specs.declared.fault.TtFault.TheVariants.{Memory, NoSuchPlace, NotALeaf}
use Rattle.tt_base.specs.declared.leaf.Leaf.{Leaf}
use Rattle.tt_base.specs.declared.token_tree.TokenTree.{TokenTree}
use Rattle.tt_base.specs.declared.token_tree.TokenTree.TheVariants as token
use Rattle.tt_base.specs.Edits.{HasLeafAt, leaf_set}
use Rattle.tt_base.specs.Forest.{Forest, Root, only, size, header, flat, flat_root}
use Rattle.tt_base.proofs.LeafSets.{flat-leaf_set, size-leaf_set}
use Rattle.tt_tables.specs.PackFault.{IsPackFault}
use Rattle.tt_view.specs.TreeFault.{IsTreeFault, IsSetFault}
use Rattle.tt_view.proofs.TreeFaults.{tree_fault}

-- The flat list of a tree, as a list of one.
pub flat-only : (root : Root) → flat (only root) ≡ flat_root root
flat-only root = ap (λ tokens. header root.delimiter (size root.children) ∷ tokens) (append-nil (flat root.children))

-- The token at a place of trees that are one tree.
pub stands_at : (trees : Forest) (root : Root) (place : ℕ) (it : TokenTree) → trees ≡ only root → slice_get (flat trees) place ≡ Some it
    → slice_get (flat_root root) place ≡ Some it
stands_at trees root place it is at = ap (λ tokens. slice_get tokens place) (sym (ap flat is ∙ flat-only root)) ∙ at

-- The list with the leaf is that of the tree with the leaf.
pub list_with_leaf : (trees : Forest) (root : Root) (place : ℕ) (it : Leaf) (old new : List TokenTree) → trees ≡ only root → HasLeafAt (flat_root root) place
    → old ≡ flat trees → new ≡ set old place (token.Leaf it) → new ≡ flat_root (leaf_set place it root)
list_with_leaf trees root place it old new is has all changed =
    changed ∙ ap (λ tokens. set tokens place (token.Leaf it)) (all ∙ ap flat is ∙ flat-only root) ∙ sym (flat-leaf_set place it root has)

-- If a leaf is at the place, the fault of the new tree is why the leaf is not set.
set_fault : (root : Root) (place : ℕ) (it : Leaf) (fault : TtFault) → HasLeafAt (flat_root root) place → IsTreeFault (leaf_set place it root) fault
    → IsSetFault root place it fault
set_fault root place it NoSuchPlace has cause = absurd cause
set_fault root place it NotALeaf has cause = absurd cause
set_fault root place it fault has cause = (has, cause)

-- Memory may run out.
pub no_memory : (root : Root) (place : ℕ) (it : Leaf) → HasLeafAt (flat_root root) place → IsSetFault root place it Memory
no_memory root place it has = (has, tt)

-- Why the list with the leaf is not packed.
pub set_refused : (root : Root) (place : ℕ) (it : Leaf) (tokens : List TokenTree) (fault : TtFault) → HasLeafAt (flat_root root) place
    → size root.children ≤ 4294967295 → tokens ≡ flat_root (leaf_set place it root) → IsPackFault tokens fault → IsSetFault root place it fault
set_refused root place it tokens fault has few is cause =
    set_fault root place it fault has (tree_fault (leaf_set place it root) tokens is (omega (arith, few, size-leaf_set place it root)) fault cause)
