-- Whether a name is in trees.
use Rattle.std.specs.Prelude.{ℕ, Bool, false, ◌||◌, List, bytes_eq}
use Rattle.tt.specs.Forest.{Forest, end, leaf, node}
use Rattle.tt.specs.Types.Leaf.{Leaf}
use Rattle.tt.specs.Types.Leaf.TheVariants as leaf_of

-- the leaf is an ident with that text
abbrev pub is_name : List ℕ → Leaf → Bool
is_name name (leaf_of.Literal literal) = false
is_name name (leaf_of.Punct punct) = false
is_name name (leaf_of.Ident ident) = bytes_eq ident.sym name

-- such an ident is in the trees, at any depth
abbrev pub names : List ℕ → Forest → Bool
names name end = false
names name (leaf it rest) = is_name name it || names name rest
names name (node delimiter children rest) = names name children || names name rest
