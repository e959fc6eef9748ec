-- The trees of iterators and elements, and what a call of `next` does.
use Rattle.std.specs.Prelude.{◌≡◌, ℕ, zero, suc, Option, Some, None}
use Rattle.std.specs.Iterator.{YieldsFirstBy}
use Rattle.tt_base.specs.declared.delimiter.Subtree.{Subtree}
use Rattle.tt_base.specs.Forest.{Forest, end, leaf, node, size}
use Rattle.tt_base.specs.Moves.{after_tree, step_after}
use Rattle.tt_base.specs.Siblings.{Tree, tip, branch, list_of}
use Rattle.tt_view.specs.Views.{trees_of, steps_of_view}
use Rattle.tt_view.specs.declared.iter.TtIter.{TtIter}
use Rattle.tt_view.specs.declared.iter.TtElement.{TtElement}
use Rattle.tt_view.specs.declared.iter.TtElement.TheVariants as element
use Rattle.tt_view.specs.declared.iter.TtIterSavepoint.{TtIterSavepoint}

-- the trees that an iterator has left
abbrev pub rest_of : TtIter → Forest
rest_of iter = trees_of iter.inner

-- the number of tokens that it decoded
abbrev pub steps_of_iter : TtIter → ℕ
steps_of_iter iter = steps_of_view iter.inner

-- the trees that were left at a savepoint
abbrev pub saved_of : TtIterSavepoint → Forest
saved_of savepoint = trees_of savepoint.0

-- the tree of an element
abbrev pub tree_of : TtElement → Tree
tree_of (element.Leaf it) = tip it
tree_of (element.Subtree subtree below) = branch subtree.delimiter (rest_of below)

-- a header counts the tokens below it
abbrev pub IsCounted : TtElement → Type 0
IsCounted (element.Leaf it) = Unit {0}
IsCounted (element.Subtree subtree below) = subtree.len ≡ size (rest_of below)

-- the element is the first tree, or there is no tree; a header counts the tokens below it, and its iterator has the trees below it left
abbrev pub IsFirstElement : Forest → Option TtElement → Type 0
IsFirstElement end (Some found) = ⊥
IsFirstElement end None = Unit {0}
IsFirstElement (leaf it rest) (Some (element.Leaf found)) = found ≡ it
IsFirstElement (leaf it rest) (Some (element.Subtree subtree below)) = ⊥
IsFirstElement (leaf it rest) None = ⊥
IsFirstElement (node delimiter children rest) (Some (element.Leaf found)) = ⊥
IsFirstElement (node delimiter children rest) (Some (element.Subtree subtree below)) =
    (subtree.delimiter ≡ delimiter) × (subtree.len ≡ size children) × (rest_of below ≡ children)
IsFirstElement (node delimiter children rest) None = ⊥

-- one call of `next`: it returns the first tree, leaves the others, and takes one step
pub record GivesSibling (old : TtIter) (result : Option TtElement) (new : TtIter) : Type 0 where
  pub item : YieldsFirstBy tree_of (λ iter. list_of (rest_of iter)) old result new
  pub first : IsFirstElement (rest_of old) result
  pub rest : rest_of new ≡ after_tree (rest_of old)
  pub steps : steps_of_iter new ≡ step_after (steps_of_iter old) (rest_of old)

-- it passes one tree, if there is one, in one step
pub record PassesOne (old : TtIter) (new : TtIter) : Type 0 where
  pub rest : rest_of new ≡ after_tree (rest_of old)
  pub steps : steps_of_iter new ≡ step_after (steps_of_iter old) (rest_of old)

-- the steps after `n` trees, one for each
abbrev pub steps_after : ℕ → ℕ → Forest → ℕ
steps_after zero steps trees = steps
steps_after (suc n) steps trees = steps_after n (step_after steps trees) (after_tree trees)

-- the header of the first tree, which is a node, and the trees below it
abbrev pub IsFirstSubtree : Forest → Subtree → TtIter → Type 0
IsFirstSubtree trees subtree below = IsFirstElement trees (Some (element.Subtree subtree below))
