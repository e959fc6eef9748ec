-- The trees that levels still show, the innermost level first.
use Rattle.std.proofs.Common.{◌≡◌, ◌+◌, ℕ, suc, Bool, true, false, List, [], ◌∷◌, Some, None, refl, ap, ap₂, sym}
use Rattle.tt_base.specs.Forest.{Forest, end, leaf, node, size}
use Rattle.tt_base.specs.Moves.{after_tree}
use Rattle.tt_base.specs.declared.delimiter.Subtree.{Subtree}
use Rattle.tt_base.specs.declared.leaf.Leaf.{Leaf}
use Rattle.tt_view.specs.Iters.{rest_of, IsFirstElement}
use Rattle.tt_view.specs.declared.iter.TtElement.TheVariants as element
use Rattle.tt_view.specs.declared.iter.TtIter.{TtIter}
use Rattle.syntax_unparse.specs.Marks.{shown, shown_as}

-- one, if it holds
abbrev pub one_if : Bool → ℕ
one_if true = 1
one_if false = 0

-- how many trees are left to show
abbrev pub shown_left : List TtIter → ℕ
shown_left [] = 0
shown_left (level ∷ outer) = shown (rest_of level) + shown_left outer

-- how many tokens are left
abbrev pub tokens_in : List TtIter → ℕ
tokens_in [] = 0
tokens_in (level ∷ outer) = size (rest_of level) + tokens_in outer

-- a leaf shows one tree
pub shown_leaf : (trees : Forest) (found : Leaf) → IsFirstElement trees (Some (element.Leaf found)) → shown trees ≡ suc (shown (after_tree trees))
shown_leaf end found p = absurd p
shown_leaf (leaf it rest) found p = refl
shown_leaf (node delimiter children rest) found p = absurd p

-- a subtree shows the trees that it counts as
pub shown_subtree : (trees : Forest) (subtree : Subtree) (below : TtIter) → IsFirstElement trees (Some (element.Subtree subtree below))
    → shown trees ≡ shown_as subtree.delimiter.kind (shown (rest_of below)) + shown (after_tree trees)
shown_subtree end subtree below p = absurd p
shown_subtree (leaf it rest) subtree below p = absurd p
shown_subtree (node delimiter children rest) subtree below p = ap₂ (λ d held. shown_as d.kind (shown held) + shown rest) (sym p.0) (sym p.2)

-- an end shows nothing
pub shown_end : (trees : Forest) → IsFirstElement trees None → shown trees ≡ 0
shown_end end p = refl
shown_end (leaf it rest) p = absurd p
shown_end (node delimiter children rest) p = absurd p

-- A leaf is one token.
pub size_leaf : (trees : Forest) (found : Leaf) → IsFirstElement trees (Some (element.Leaf found)) → size trees ≡ suc (size (after_tree trees))
size_leaf end found p = absurd p
size_leaf (leaf it rest) found p = refl
size_leaf (node delimiter children rest) found p = absurd p

-- A subtree is its header, its children and what follows.
pub size_subtree : (trees : Forest) (subtree : Subtree) (below : TtIter) → IsFirstElement trees (Some (element.Subtree subtree below))
    → size trees ≡ suc (size (rest_of below) + size (after_tree trees))
size_subtree end subtree below p = absurd p
size_subtree (leaf it rest) subtree below p = absurd p
size_subtree (node delimiter children rest) subtree below p = ap (λ held. suc (size held + size rest)) (sym p.2)

-- An end has no tokens.
pub size_end : (trees : Forest) → IsFirstElement trees None → size trees ≡ 0
size_end end p = refl
size_end (leaf it rest) p = absurd p
size_end (node delimiter children rest) p = absurd p
