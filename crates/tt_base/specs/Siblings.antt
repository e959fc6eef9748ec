-- The trees of a list one by one.
use Rattle.std.specs.Prelude.{Bool, true, false, List, [], ◌∷◌}
use Rattle.tt_base.specs.declared.delimiter.Delimiter.{Delimiter}
use Rattle.tt_base.specs.declared.leaf.Leaf.{Leaf}
use Rattle.tt_base.specs.declared.span.Span.{Span}
use Rattle.tt_base.specs.Forest.{Forest, end, leaf, node}
use Rattle.tt_base.specs.Token.{leaf_span}

-- one tree
pub data Tree : Type 0 where
  tip : Leaf → Tree
  branch : Delimiter → Forest → Tree

-- the list of the trees, in order
abbrev pub list_of : Forest → List Tree
list_of end = []
list_of (leaf it rest) = tip it ∷ list_of rest
list_of (node delimiter children rest) = branch delimiter children ∷ list_of rest

-- the trees of these leaves
abbrev pub leaves : List Leaf → Forest
leaves [] = end
leaves (it ∷ others) = leaf it (leaves others)

-- whether there is no tree
abbrev pub is_end : Forest → Bool
is_end end = true
is_end (leaf it rest) = false
is_end (node delimiter children rest) = false

-- a leaf's span, or the open span of a node
abbrev pub tree_span : Tree → Span
tree_span (tip it) = leaf_span it
tree_span (branch delimiter children) = delimiter.open_span

-- the first tree, as a list of one
abbrev pub first_tree : Forest → Forest
first_tree end = end
first_tree (leaf it rest) = leaf it end
first_tree (node delimiter children rest) = node delimiter children end

-- the children of the first tree, none if it is a leaf
abbrev pub children_of : Forest → Forest
children_of end = end
children_of (leaf it rest) = end
children_of (node delimiter children rest) = children
