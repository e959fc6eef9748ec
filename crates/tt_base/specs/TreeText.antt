-- What `Display` and `pretty` write for trees, as bytes.
use Rattle.std.specs.Prelude.{ℕ, Bool, true, false, List, [], ◌++◌, codes, if◌then◌else◌}
use Rattle.tt_base.specs.declared.delimiter.DelimiterKind.{DelimiterKind}
use Rattle.tt_base.specs.declared.delimiter.DelimiterKind.TheVariants.{Parenthesis, Brace, Bracket, Invisible, InvisibleOpaque}
use Rattle.tt_base.specs.declared.leaf.Leaf.{Leaf}
use Rattle.tt_base.specs.declared.leaf.Leaf.TheVariants as leaf
use Rattle.tt_base.specs.declared.punct.Spacing.{Spacing}
use Rattle.tt_base.specs.declared.punct.Spacing.TheVariants.{Alone, Joint, JointHidden}
use Rattle.tt_base.specs.Forest.{Forest, end, leaf as leaf_then, node}
use Rattle.tt_base.specs.LeafText.{leaf_text}

-- the text that opens a subtree
abbrev pub opening_text : DelimiterKind → List ℕ
opening_text Parenthesis = codes "("
opening_text Brace = codes "{"
opening_text Bracket = codes "["
opening_text Invisible = []
opening_text InvisibleOpaque = []

-- the text that closes it
abbrev pub closing_text : DelimiterKind → List ℕ
closing_text Parenthesis = codes ")"
closing_text Brace = codes "}"
closing_text Bracket = codes "]"
closing_text Invisible = []
closing_text InvisibleOpaque = []

-- one space, or nothing
abbrev pub space_if : Bool → List ℕ
space_if due = if due then codes " " else []

-- whether `Display` may write a space after a punct: only if it is alone
abbrev pub is_alone : Spacing → Bool
is_alone Alone = true
is_alone Joint = false
is_alone JointHidden = false

-- whether `pretty` may write a space after a punct: if it is not joint
abbrev pub is_not_joint : Spacing → Bool
is_not_joint Alone = true
is_not_joint Joint = false
is_not_joint JointHidden = true

-- whether a space may follow a leaf: always, unless it is a punct whose spacing allows none
abbrev pub space_after : (lets : Spacing → Bool) → Leaf → Bool
space_after lets (leaf.Literal literal) = true
space_after lets (leaf.Punct punct) = lets punct.spacing
space_after lets (leaf.Ident ident) = true

-- siblings in order, with a space between two if one may follow the first; `due` says whether one comes before the first sibling
abbrev pub siblings_text : (lets : Spacing → Bool) → (due : Bool) → Forest → List ℕ
siblings_text lets due end = []
siblings_text lets due (leaf_then leaf rest) = space_if due ++ leaf_text leaf ++ siblings_text lets (space_after lets leaf) rest
siblings_text lets due (node delimiter children rest) =
    space_if due ++ opening_text delimiter.kind ++ siblings_text lets false children ++ closing_text delimiter.kind ++ siblings_text lets true rest

-- what `Display` writes: no space after a joint or joint hidden punct
unfoldable pub display : Forest → List ℕ
display trees = siblings_text is_alone false trees

-- what `pretty` writes: no space after a joint punct
unfoldable pub pretty : Forest → List ℕ
pretty trees = siblings_text is_not_joint false trees
