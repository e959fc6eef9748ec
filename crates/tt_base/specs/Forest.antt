-- Trees of tokens, as a definition. No code builds them: memory has a tree as a flat list of tokens, or as bytes.
use Rattle.std.specs.Prelude.{◌≡◌, ℕ, suc, ◌+◌, ◌≤◌, List, [], ◌∷◌, ◌++◌}
use Rattle.tt_base.specs.declared.delimiter.Delimiter.{Delimiter}
use Rattle.tt_base.specs.declared.leaf.Leaf.{Leaf}
use Rattle.tt_base.specs.declared.token_tree.TokenTree.{TokenTree}
use Rattle.tt_base.specs.declared.token_tree.TokenTree.TheVariants as token

-- a list of trees, first to last; a tree is a leaf, or a node: a delimiter around trees of its own
pub data Forest : Type 0 where
  end : Forest
  leaf : Leaf → Forest → Forest
  node : Delimiter → Forest → Forest → Forest

-- a stored tree as a definition: one node
pub record Root : Type 0 where
  pub delimiter : Delimiter
  pub children : Forest

-- the root as a list of one tree
abbrev pub only : Root → Forest
only root = node root.delimiter root.children end

-- the number of leaves and nodes, at any depth
abbrev pub size : Forest → ℕ
size end = 0
size (leaf l rest) = suc (size rest)
size (node delimiter children rest) = suc (size children + size rest)

-- the token of a node: its delimiter, and the number of tokens below it
abbrev pub header : Delimiter → ℕ → TokenTree
header delimiter len = token.Subtree (record { delimiter = delimiter; len = len })

-- the flat list: the tokens in reading order, each header before all that its node holds
abbrev pub flat : Forest → List TokenTree
flat end = []
flat (leaf l rest) = token.Leaf l ∷ flat rest
flat (node delimiter children rest) = header delimiter (size children) ∷ (flat children ++ flat rest)

-- the flat list of a root
abbrev pub flat_root : Root → List TokenTree
flat_root root = header root.delimiter (size root.children) ∷ flat root.children

-- the list is whole: the flat list of some trees
abbrev pub IsWhole : List TokenTree → Type 0
IsWhole tokens = (trees : Forest) × (tokens ≡ flat trees)

-- the tokens are whole lists of these lengths, one after the other
abbrev pub AreLevels : List TokenTree → List ℕ → Type 0
AreLevels tokens [] = tokens ≡ []
AreLevels tokens (n ∷ ns) = (trees : Forest) × (rest : List TokenTree) × (tokens ≡ flat trees ++ rest) × (size trees ≡ n) × AreLevels rest ns

-- the list is that of one node, and its header can count the tokens below it
abbrev pub IsOneSubtree : List TokenTree → Type 0
IsOneSubtree tokens = (root : Root) × (tokens ≡ flat_root root) × (size root.children ≤ 4294967295)

-- the first trees, and then the others
abbrev pub join : Forest → Forest → Forest
join end others = others
join (leaf l rest) others = leaf l (join rest others)
join (node delimiter children rest) others = node delimiter children (join rest others)
