-- What a parser accepts as the first tree of a list.
use Rattle.std.specs.Prelude.{ℕ, Bool, true, false, ◌==◌, ◌∷◌, [], List, Option, Some, None, codes, bytes_eq, if◌then◌else◌}
use Rattle.std.specs.List.{list_any}
use Rattle.tt_base.specs.declared.ident.Ident.{Ident}
use Rattle.tt_base.specs.declared.leaf.Leaf.{Leaf}
use Rattle.tt_base.specs.declared.leaf.Leaf.TheVariants as leaf_kind
use Rattle.tt_base.specs.declared.punct.Punct.{Punct}
use Rattle.tt_base.specs.Forest.{Forest, end, leaf, node}

-- what f returns for the first tree, if that is a leaf
abbrev pub first_leaf_as : {X : Type 0} → (Leaf → Option X) → Forest → Option X
first_leaf_as f end = None
first_leaf_as f (leaf it rest) = f it
first_leaf_as f (node delimiter children rest) = None

-- the leaf itself
abbrev pub as_leaf : Leaf → Option Leaf
as_leaf it = Some it

-- the punct, if the leaf is one
abbrev pub as_punct : Leaf → Option Punct
as_punct (leaf_kind.Literal it) = None
as_punct (leaf_kind.Punct it) = Some it
as_punct (leaf_kind.Ident it) = None

-- the ident, also `_`, if the leaf is one
abbrev pub as_ident_or_underscore : Leaf → Option Ident
as_ident_or_underscore (leaf_kind.Literal it) = None
as_ident_or_underscore (leaf_kind.Punct it) = None
as_ident_or_underscore (leaf_kind.Ident it) = Some it

-- the ident, unless its text is `_`
abbrev pub unless_underscore : Option Ident → Option Ident
unless_underscore None = None
unless_underscore (Some it) = if bytes_eq it.sym (codes "_") then None else Some it

-- whether a text is `true` or `false`
abbrev pub is_truth_value : List ℕ → Bool
is_truth_value text = list_any (bytes_eq text) (codes "true" ∷ codes "false" ∷ [])

-- the leaf, if it is a literal or the ident `true` or `false`
abbrev pub as_literal : Leaf → Option Leaf
as_literal (leaf_kind.Literal it) = Some (leaf_kind.Literal it)
as_literal (leaf_kind.Punct it) = None
as_literal (leaf_kind.Ident it) = if is_truth_value it.sym then Some (leaf_kind.Ident it) else None

-- whether it is a punct of one of these characters
abbrev pub is_punct_of : (chars : List ℕ) → Option Punct → Bool
is_punct_of chars None = false
is_punct_of chars (Some it) = list_any (λ char. it.char == char) chars

-- whether the first tree is a node
abbrev pub is_at_node : Forest → Bool
is_at_node end = false
is_at_node (leaf it rest) = false
is_at_node (node delimiter children rest) = true
