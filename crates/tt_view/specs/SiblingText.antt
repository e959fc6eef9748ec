-- The text of one tree among its siblings.
use Rattle.std.specs.Prelude.{ℕ, suc, ◌+◌, Bool, true, false, List, ◌++◌}
use Rattle.tt_base.specs.DebugText.{leaf_line, header_line, lines_text}
use Rattle.tt_base.specs.LeafText.{leaf_text}
use Rattle.tt_base.specs.Forest.{size}
use Rattle.tt_base.specs.Siblings.{Tree, tip, branch}
use Rattle.tt_base.specs.TreeText.{opening_text, closing_text, is_alone, space_after, siblings_text}

-- the text of a leaf; for a subtree what opens it, its children, what closes it
abbrev pub tree_text : Tree → List ℕ
tree_text (tip it) = leaf_text it
tree_text (branch delimiter children) =
    opening_text delimiter.kind ++ siblings_text is_alone false children ++ closing_text delimiter.kind

-- whether a space may follow the tree: always after a subtree
abbrev pub space_after_tree : Tree → Bool
space_after_tree (tip it) = space_after is_alone it
space_after_tree (branch delimiter children) = true

-- the lines of the tree at a depth; the first line has its indentation already
abbrev pub tree_lines : (depth : ℕ) → Tree → List ℕ
tree_lines depth (tip it) = leaf_line it
tree_lines depth (branch delimiter children) = header_line delimiter ++ lines_text true (suc depth) children

-- the number of tokens of the tree
abbrev pub tree_size : Tree → ℕ
tree_size (tip it) = 1
tree_size (branch delimiter children) = 1 + size children
