-- The marks of trees: leaves and brackets, in order.
use Rattle.std.specs.Prelude.{ℕ, suc, ◌+◌, List, [], ◌∷◌, ◌++◌, Option, None, Some, nat_lt, if◌then◌else◌}
use Rattle.tt_base.specs.Forest.{Forest, end, leaf, node, size}
use Rattle.tt_base.specs.declared.delimiter.DelimiterKind.{DelimiterKind}
use Rattle.tt_base.specs.declared.delimiter.DelimiterKind.TheVariants as delimits
use Rattle.tt_base.specs.declared.leaf.Leaf.{Leaf}
use Rattle.syntax_parse.specs.declared.bracket.Bracket.{Bracket}
use Rattle.syntax_parse.specs.declared.bracket.Bracket.TheVariants.{Parenthesis, Brace, Square}

-- a leaf with its place in the flat list, or a bracket
pub data Mark : Type 0 where
  word : (at : ℕ) → Leaf → Mark
  opening : Bracket → Mark
  closing : Bracket → Mark

-- how many trees a subtree counts as: an invisible one is replaced by its children
abbrev pub shown_as : DelimiterKind → (held : ℕ) → ℕ
shown_as delimits.Parenthesis held = 1
shown_as delimits.Brace held = 1
shown_as delimits.Bracket held = 1
shown_as delimits.Invisible held = held
shown_as delimits.InvisibleOpaque held = 1

-- how many trees are left after each invisible subtree is replaced by its children
abbrev pub shown : Forest → ℕ
shown end = 0
shown (leaf it rest) = suc (shown rest)
shown (node delimiter children rest) = shown_as delimiter.kind (shown children) + shown rest

-- the brackets of a subtree, by how many trees it holds: an opaque one has parentheses around two or more
abbrev pub brackets_of : DelimiterKind → (held : ℕ) → Option Bracket
brackets_of delimits.Parenthesis held = Some Parenthesis
brackets_of delimits.Brace held = Some Brace
brackets_of delimits.Bracket held = Some Square
brackets_of delimits.Invisible held = None
brackets_of delimits.InvisibleOpaque held = if nat_lt 1 held then Some Parenthesis else None

-- the mark that opens a subtree, if it has brackets
abbrev pub opens : Option Bracket → List Mark
opens None = []
opens (Some pair) = opening pair ∷ []

-- the mark that closes a subtree, if it has brackets
abbrev pub closes : Option Bracket → List Mark
closes None = []
closes (Some pair) = closing pair ∷ []

-- the marks of trees whose first token has place `at` in the flat list
abbrev pub marks : (at : ℕ) → Forest → List Mark
marks at end = []
marks at (leaf it rest) = word at it ∷ marks (at + 1) rest
marks at (node delimiter children rest) =
    opens (brackets_of delimiter.kind (shown children))
    ++ (marks (at + 1) children
    ++ (closes (brackets_of delimiter.kind (shown children)) ++ marks ((at + 1) + size children) rest))
