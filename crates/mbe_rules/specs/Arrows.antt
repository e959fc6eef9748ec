-- The puncts between the trees of arms.
use Rattle.std.specs.Prelude.{ℕ, Bool, false, nat_eq, if◌then◌else◌}
use Rattle.tt.specs.Forest.{Forest, end, leaf, node}
use Rattle.tt.specs.Moves.{after_tree}
use Rattle.tt.specs.Types.Leaf.{Leaf}
use Rattle.tt.specs.Types.Leaf.TheVariants as leaf_of
use Rattle.mbe_pattern.specs.Units.{unit_size}

-- a punct of that character
abbrev pub is_punct : (char : ℕ) → Leaf → Bool
is_punct char (leaf_of.Literal it) = false
is_punct char (leaf_of.Punct it) = nat_eq it.char char
is_punct char (leaf_of.Ident it) = false

-- the first tree is such a punct
abbrev pub is_punct_in : (char : ℕ) → Forest → Bool
is_punct_in char end = false
is_punct_in char (leaf it rest) = is_punct char it
is_punct_in char (node delimiter children rest) = false

-- `=>` comes first, as one token
abbrev pub is_arrow_in : Forest → Bool
is_arrow_in trees = if nat_eq (unit_size trees) 2 then (if is_punct_in 61 trees then is_punct_in 62 (after_tree trees) else false) else false

-- `;` comes first
abbrev pub is_semicolon_in : Forest → Bool
is_semicolon_in trees = is_punct_in 59 trees
