-- Trees rewritten by actions: one for each token that the callback sees.
use Rattle.std.specs.Prelude.{List, [], ◌∷◌, ◌++◌}
use Rattle.tt_base.specs.declared.token_tree.TokenTree.{TokenTree}
use Rattle.tt_base.specs.declared.token_tree.TokenTree.TheVariants as token
use Rattle.tt_base.specs.Forest.{Forest, end, leaf, node, size, header, join}

-- what happens to a token: it is kept, or trees take the place of the leaf or of the whole node
pub data Action : Type 0 where
  keep : Action
  replace : Forest → Action

-- the rewritten trees, and the actions that are left; a kept node is rewritten inside, and once no actions are left all is kept
abbrev pub rewrite : Forest → List Action → Forest × List Action
rewrite end actions = (end, actions)
rewrite (leaf it rest) [] = (leaf it rest, [])
rewrite (leaf it rest) (keep ∷ actions) = let after = rewrite rest actions in (leaf it after.0, after.1)
rewrite (leaf it rest) (replace trees ∷ actions) = let after = rewrite rest actions in (join trees after.0, after.1)
rewrite (node delimiter children rest) [] = (node delimiter children rest, [])
rewrite (node delimiter children rest) (keep ∷ actions) =
    let inside = rewrite children actions in
    let after = rewrite rest inside.1 in
    (node delimiter inside.0 after.0, after.1)
rewrite (node delimiter children rest) (replace trees ∷ actions) = let after = rewrite rest actions in (join trees after.0, after.1)

-- the tokens that the callback sees, each header with its own count: for a kept node its header and what it sees inside, for a replaced
-- node only its header
abbrev pub shown : Forest → List Action → List TokenTree
shown end actions = []
shown (leaf it rest) [] = token.Leaf it ∷ shown rest []
shown (leaf it rest) (action ∷ actions) = token.Leaf it ∷ shown rest actions
shown (node delimiter children rest) [] = header delimiter (size children) ∷ (shown children [] ++ shown rest [])
shown (node delimiter children rest) (keep ∷ actions) =
    header delimiter (size children) ∷ (shown children actions ++ shown rest (rewrite children actions).1)
shown (node delimiter children rest) (replace trees ∷ actions) = header delimiter (size children) ∷ shown rest actions
