-- Which leaves at the front of trees form one token, and when they are those of a pattern.
use Rattle.std.specs.Prelude.{◌≡◌, ◌==◌, ℕ, zero, suc, Bool, true, false, List, [], ◌∷◌, length, bytes_eq, Option, None, Some, is_some, if◌then◌else◌}
use Rattle.tt.specs.Expectations.{first_leaf_as, as_punct, as_ident_or_underscore, is_punct_of}
use Rattle.tt.specs.Forest.{Forest, end, leaf, node}
use Rattle.tt.specs.Gluing.{glued_from}
use Rattle.tt.specs.Moves.{after_tree}
use Rattle.tt.specs.Literal.{kind_of, text_of, suffix_of}
use Rattle.tt.specs.Types.DelimiterKind.{DelimiterKind}
use Rattle.tt.specs.Types.DelimiterKind.TheVariants as delimited
use Rattle.tt.specs.Types.Ident.{Ident}
use Rattle.tt.specs.Types.IdentIsRaw.{IdentIsRaw}
use Rattle.tt.specs.Types.IdentIsRaw.TheVariants.{No, Yes}
use Rattle.tt.specs.Types.Leaf.{Leaf}
use Rattle.tt.specs.Types.Leaf.TheVariants as leaf_of

-- the character `'`
abbrev pub quote : ℕ
quote = 39

-- the first tree is an ident
abbrev pub is_at_ident : Forest → Bool
is_at_ident trees = is_some (first_leaf_as as_ident_or_underscore trees)

-- the first tree is a punct of that character
abbrev pub is_at_punct : (chars : List ℕ) → Forest → Bool
is_at_punct chars trees = is_punct_of chars (first_leaf_as as_punct trees)

-- the first tree is the ident of that text, and is not raw
abbrev pub is_word : (text : List ℕ) → IdentIsRaw → List ℕ → Bool
is_word text No its = bytes_eq its text
is_word text Yes its = false

abbrev pub is_word_from : (text : List ℕ) → Option Ident → Bool
is_word_from text None = false
is_word_from text (Some it) = is_word text it.is_raw it.sym

abbrev pub is_at_word : (text : List ℕ) → Forest → Bool
is_at_word text trees = is_word_from text (first_leaf_as as_ident_or_underscore trees)

-- how many leaves a leaf forms a token with, before these siblings: glued puncts, a `'` and its ident, or the leaf alone
abbrev pub unit_from : Leaf → (behind : Forest) → ℕ
unit_from (leaf_of.Literal it) behind = 1
unit_from (leaf_of.Punct it) behind = if it.char == quote then (if is_at_ident behind then 2 else 1) else length (glued_from it behind)
unit_from (leaf_of.Ident it) behind = 1

-- how many trees the first unit has: those of a token, or one subtree
abbrev pub unit_size : Forest → ℕ
unit_size end = 1
unit_size (leaf it rest) = unit_from it rest
unit_size (node delimiter children rest) = 1

-- the first leaves at the front, at most that many; a subtree or the end stops them
abbrev pub front_leaves : ℕ → Forest → List Leaf
front_leaves zero trees = []
front_leaves (suc n) end = []
front_leaves (suc n) (leaf it rest) = it ∷ front_leaves n rest
front_leaves (suc n) (node delimiter children rest) = []

-- that many trees at the front, or fewer if the end comes before
abbrev pub front_trees : ℕ → Forest → Forest
front_trees zero trees = end
front_trees (suc n) end = end
front_trees (suc n) (leaf it rest) = leaf it (front_trees n rest)
front_trees (suc n) (node delimiter children rest) = node delimiter children (front_trees n rest)

-- the leaves of the first token; none if no leaf comes first
abbrev pub first_unit : Forest → List Leaf
first_unit trees = front_leaves (unit_size trees) trees

-- the leaves are the same; spans and spacing do not count
abbrev pub IsSameLeaf : Leaf → Leaf → Type 0
IsSameLeaf (leaf_of.Literal a) (leaf_of.Literal b) = (kind_of a ≡ kind_of b) × (text_of a ≡ text_of b) × (suffix_of a ≡ suffix_of b)
IsSameLeaf (leaf_of.Literal a) (leaf_of.Punct b) = ⊥
IsSameLeaf (leaf_of.Literal a) (leaf_of.Ident b) = ⊥
IsSameLeaf (leaf_of.Punct a) (leaf_of.Literal b) = ⊥
IsSameLeaf (leaf_of.Punct a) (leaf_of.Punct b) = a.char ≡ b.char
IsSameLeaf (leaf_of.Punct a) (leaf_of.Ident b) = ⊥
IsSameLeaf (leaf_of.Ident a) (leaf_of.Literal b) = ⊥
IsSameLeaf (leaf_of.Ident a) (leaf_of.Punct b) = ⊥
IsSameLeaf (leaf_of.Ident a) (leaf_of.Ident b) = (a.sym ≡ b.sym) × (a.is_raw ≡ b.is_raw)

-- the first tree is a leaf that is the same
abbrev pub IsLeafLike : Leaf → Forest → Type 0
IsLeafLike it end = ⊥
IsLeafLike it (leaf other rest) = IsSameLeaf it other
IsLeafLike it (node delimiter children rest) = ⊥

-- the first trees are leaves that are the same, one by one
abbrev pub AreLeavesLike : List Leaf → Forest → Type 0
AreLeavesLike [] trees = Unit {0}
AreLeavesLike (it ∷ others) trees = IsLeafLike it trees × AreLeavesLike others (after_tree trees)

-- the first token has exactly these leaves
abbrev pub IsUnitLike : List Leaf → Forest → Type 0
IsUnitLike its trees = (unit_size trees ≡ length its) × AreLeavesLike its trees

-- the first tree is a subtree of that kind
abbrev pub IsNodeOf : DelimiterKind → Forest → Type 0
IsNodeOf kind end = ⊥
IsNodeOf kind (leaf it rest) = ⊥
IsNodeOf kind (node delimiter children rest) = delimiter.kind ≡ kind

-- braces
abbrev pub is_brace : DelimiterKind → Bool
is_brace delimited.Parenthesis = false
is_brace delimited.Brace = true
is_brace delimited.Bracket = false
is_brace delimited.Invisible = false
is_brace delimited.InvisibleOpaque = false
