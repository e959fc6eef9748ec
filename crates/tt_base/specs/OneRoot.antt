-- The root of a list of trees that is one subtree, and its children if it is invisible.
use Rattle.std.specs.Prelude.{Bool, true, false, Option, Some, None, if◌then◌else◌}
use Rattle.tt_base.specs.declared.delimiter.DelimiterKind.{DelimiterKind}
use Rattle.tt_base.specs.declared.delimiter.DelimiterKind.TheVariants.{Parenthesis, Brace, Bracket, Invisible, InvisibleOpaque}
use Rattle.tt_base.specs.Forest.{Forest, Root, end, leaf, node}

-- the root, if there is exactly one tree and it is a node
abbrev pub one_root : Forest → Option Root
one_root end = None
one_root (leaf it rest) = None
one_root (node delimiter children end) = Some (record { delimiter = delimiter; children = children })
one_root (node delimiter children (leaf it rest)) = None
one_root (node delimiter children (node other inner rest)) = None

-- whether it is invisible and not opaque
abbrev pub is_invisible : DelimiterKind → Bool
is_invisible Parenthesis = false
is_invisible Brace = false
is_invisible Bracket = false
is_invisible Invisible = true
is_invisible InvisibleOpaque = false

-- the root's children if it is invisible, otherwise the whole list
abbrev pub children_if_invisible : (whole : Forest) → Option Root → Forest
children_if_invisible whole None = whole
children_if_invisible whole (Some root) = if is_invisible root.delimiter.kind then root.children else whole

-- the children of one invisible subtree, or the list itself
abbrev pub stripped : Forest → Forest
stripped trees = children_if_invisible trees (one_root trees)
