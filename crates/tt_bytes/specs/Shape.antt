-- Tokens of which only the kind counts.
use Rattle.std.specs.Prelude.{◌≡◌}
use Rattle.tt_base.specs.declared.leaf.Leaf.{Leaf}
use Rattle.tt_base.specs.declared.token_tree.TokenTree.{TokenTree}
use Rattle.tt_base.specs.declared.token_tree.TokenTree.TheVariants as token

-- the token is a leaf
abbrev pub IsALeaf : TokenTree → Type 0
IsALeaf it = (leaf : Leaf) × (it ≡ token.Leaf leaf)
