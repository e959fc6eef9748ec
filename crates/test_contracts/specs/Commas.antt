-- Trees cut at their commas.
use Rattle.std.specs.Prelude.{◌==◌, Bool, false, codes, if◌then◌else◌}
use Rattle.tt.specs.Expectations.{first_leaf_as, as_punct, is_punct_of}
use Rattle.tt.specs.Forest.{Forest}
use Rattle.tt.specs.Moves.{after_tree}
use Rattle.tt.specs.Siblings.{Tree, tip, branch}
use Rattle.tt.specs.Types.Leaf.TheVariants as leaf_of

-- the tree is the punct `,`
abbrev pub is_comma : Tree → Bool
is_comma (tip (leaf_of.Literal literal)) = false
is_comma (tip (leaf_of.Punct punct)) = punct.char == 44
is_comma (tip (leaf_of.Ident ident)) = false
is_comma (branch delimiter children) = false

-- the trees after a comma, if one is first, and else all
abbrev pub after_comma : Forest → Forest
after_comma trees = if is_punct_of (codes ",") (first_leaf_as as_punct trees) then after_tree trees else trees
