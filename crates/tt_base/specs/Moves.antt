-- Reads trees token by token: the first token, and the trees that are left after it.
use Rattle.std.specs.Prelude.{ℕ, ◌+◌, ◌-◌, ◌^◌, min, Option, Some, None}
use Rattle.tt_base.specs.declared.token_tree.TokenTree.{TokenTree}
use Rattle.tt_base.specs.declared.token_tree.TokenTree.TheVariants as token
use Rattle.tt_base.specs.Forest.{Forest, end, leaf, node, size, header, join}

-- the first token of trees
abbrev pub first_token : Forest → Option TokenTree
first_token end = None
first_token (leaf it rest) = Some (token.Leaf it)
first_token (node delimiter children rest) = Some (header delimiter (size children))

-- the trees after the first token; a node's children come next
abbrev pub after_token : Forest → Forest
after_token end = end
after_token (leaf it rest) = rest
after_token (node delimiter children rest) = join children rest

-- the trees after the first tree
abbrev pub after_tree : Forest → Forest
after_tree end = end
after_tree (leaf it rest) = rest
after_tree (node delimiter children rest) = rest

-- the steps after one more token, if there is one; the count stays at the largest `u64` once it is that
abbrev pub step_after : ℕ → Forest → ℕ
step_after steps end = steps
step_after steps (leaf it rest) = min (steps + 1) (2 ^ 64 - 1)
step_after steps (node delimiter children rest) = min (steps + 1) (2 ^ 64 - 1)
