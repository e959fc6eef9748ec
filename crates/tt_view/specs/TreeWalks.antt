-- The trees that a walk has left at each level.
use Rattle.std.specs.Prelude.{◌≡◌, ℕ, Bool, true, false, List, [], ◌∷◌, Option, Some, None}
use Rattle.tt_base.specs.Forest.{Forest, join, size}
use Rattle.tt_base.specs.Moves.{first_token, after_tree}
use Rattle.tt_base.specs.Siblings.{children_of}
use Rattle.tt_base.specs.declared.delimiter.Subtree.{Subtree}
use Rattle.tt_base.specs.declared.token_tree.TokenTree.{TokenTree}
use Rattle.tt_base.specs.declared.token_tree.TokenTree.TheVariants as token
use Rattle.tt_view.specs.HeldPlaces.{trees_at, all_trees}
use Rattle.tt_view.specs.declared.tree_walk.TreeWalk.{TreeWalk}

-- the trees that are left of the innermost subtree
abbrev pub innermost : TreeWalk → Forest
innermost walk = trees_at walk.tree walk.place walk.held.0

-- the trees that are left of the subtrees around it, behind the one that was entered, the innermost first
abbrev pub outer_levels : TreeWalk → List Forest
outer_levels walk = all_trees walk.tree _ walk.held.1

-- these are the first trees, and have so many tokens
abbrev pub IsFront : (trees : Forest) → (len : ℕ) → (front : Forest) → Type 0
IsFront trees len front = (others : Forest) × (trees ≡ join front others) × (size front ≡ len)

-- the header of the first tree, if it is a subtree
abbrev pub header_of : Option TokenTree → Option Subtree
header_of None = None
header_of (Some (token.Leaf it)) = None
header_of (Some (token.Subtree header)) = Some header

abbrev pub first_header : Forest → Option Subtree
first_header trees = header_of (first_token trees)

-- the same trees are left
abbrev pub IsSame : (old new : TreeWalk) → Type 0
IsSame old new = (innermost new ≡ innermost old) × (outer_levels new ≡ outer_levels old)

-- the first tree is entered, if it is a subtree
abbrev pub IsEntered : (old : TreeWalk) → Option Subtree → (new : TreeWalk) → Type 0
IsEntered old None new = IsSame old new
IsEntered old (Some header) new =
    (innermost new ≡ children_of (innermost old)) × (outer_levels new ≡ after_tree (innermost old) ∷ outer_levels old)

-- the innermost subtree is left, if there is one around it
abbrev pub IsLeft : (old : TreeWalk) → Bool → (new : TreeWalk) → Type 0
IsLeft old false new = (outer_levels old ≡ []) × IsSame old new
IsLeft old true new = outer_levels old ≡ innermost new ∷ outer_levels new
