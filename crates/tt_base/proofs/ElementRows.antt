-- Small elements as a parser accepts them, puncts that are one operator, and the children of an invisible root, row by row.
use Rattle.std.proofs.Common.{◌≡◌, ℕ, [], ◌∷◌, List, map, codes, refl, Option, Some, None, true, false}
use Rattle.tt_base.specs.declared.delimiter.DelimiterKind.TheVariants.{Parenthesis, Brace, Bracket, Invisible}
use Rattle.tt_base.specs.declared.punct.Punct.{Punct}
use Rattle.tt_base.specs.declared.punct.Spacing.TheVariants.{Alone, Joint}
use Rattle.tt_base.specs.declared.token_tree.TokenTree.TheVariants as token
use Rattle.tt_base.specs.Expectations.{first_leaf_as, as_leaf, as_punct, as_ident_or_underscore, as_literal, unless_underscore, is_punct_of, is_at_node}
use Rattle.tt_base.specs.Forest.{Forest, end, leaf, node}
use Rattle.tt_base.specs.Gluing.{glued}
use Rattle.tt_base.specs.OneRoot.{stripped}
use Rattle.tt_base.specs.Siblings.{tip, branch, tree_span}
use Rattle.tt_base.specs.Token.{delimiter, first_span}
use Rattle.tt_base.specs.Walk.{passes, opens, closes, subtree_of, two_leaves_at}
use Rattle.tt_base.proofs.Samples.{span, punct, ident, subtree}

-- puncts of these characters, all joint but the last
abbrev joined : List ℕ → Forest
joined [] = end
joined (char ∷ []) = leaf (punct char Alone) end
joined (char ∷ next ∷ rest) = leaf (punct char Joint) (joined (next ∷ rest))

-- the characters of puncts
abbrev chars_of : Option (List Punct) → List ℕ
chars_of None = []
chars_of (Some puncts) = map (λ it. it.char) puncts

-- the characters of the operator at the front
abbrev as_one : List ℕ → List ℕ
as_one chars = chars_of (glued (joined chars))

-- each assignment and comparison, and the nine others
all_twos : map as_one (codes "-=" ∷ codes "!=" ∷ codes "*=" ∷ codes "/=" ∷ codes "&=" ∷ codes "%=" ∷ codes "^=" ∷ codes "+=" ∷ codes "<=" ∷ codes "=="
    ∷ codes ">=" ∷ codes "|=" ∷ codes "->" ∷ codes "=>" ∷ codes ">>" ∷ codes "<-" ∷ codes "::" ∷ codes ".." ∷ codes "&&" ∷ codes "<<" ∷ codes "||" ∷ [])
    ≡ codes "-=" ∷ codes "!=" ∷ codes "*=" ∷ codes "/=" ∷ codes "&=" ∷ codes "%=" ∷ codes "^=" ∷ codes "+=" ∷ codes "<=" ∷ codes "=="
    ∷ codes ">=" ∷ codes "|=" ∷ codes "->" ∷ codes "=>" ∷ codes ">>" ∷ codes "<-" ∷ codes "::" ∷ codes ".." ∷ codes "&&" ∷ codes "<<" ∷ codes "||" ∷ []
all_twos = refl

all_threes : map as_one (codes "..." ∷ codes "..=" ∷ codes "<<=" ∷ codes ">>=" ∷ []) ≡ codes "..." ∷ codes "..=" ∷ codes "<<=" ∷ codes ">>=" ∷ []
all_threes = refl

-- characters in no table are single operators, also a quote
no_twos : map as_one (codes "<+" ∷ codes "=<" ∷ codes "'a" ∷ codes "~=" ∷ codes "=!" ∷ []) ≡ codes "<" ∷ codes "=" ∷ codes "'" ∷ codes "~" ∷ codes "=" ∷ []
no_twos = refl

-- an ident, an underscore and a truth value
a_is_an_ident : unless_underscore (first_leaf_as as_ident_or_underscore (leaf (ident (codes "a")) end)) ≡ first_leaf_as as_ident_or_underscore (leaf (ident (codes "a")) end)
a_is_an_ident = refl

underscore_is_no_ident : unless_underscore (first_leaf_as as_ident_or_underscore (leaf (ident (codes "_")) end)) ≡ None
underscore_is_no_ident = refl

true_is_a_literal : first_leaf_as as_literal (leaf (ident (codes "true")) end) ≡ Some (ident (codes "true"))
true_is_a_literal = refl

false_is_a_literal : first_leaf_as as_literal (leaf (ident (codes "false")) end) ≡ Some (ident (codes "false"))
false_is_a_literal = refl

a_is_no_literal : first_leaf_as as_literal (leaf (ident (codes "a")) end) ≡ None
a_is_no_literal = refl

-- a dollar and a hash
dollar : is_punct_of (codes "$") (first_leaf_as as_punct (leaf (punct 36 Alone) end)) ≡ true
dollar = refl

hash_is_no_dollar : is_punct_of (codes "$") (first_leaf_as as_punct (leaf (punct 35 Alone) end)) ≡ false
hash_is_no_dollar = refl

-- a subtree is no leaf
subtree_is_no_leaf : first_leaf_as as_leaf (subtree Brace end) ≡ None
subtree_is_no_leaf = refl

subtree_is_a_node : is_at_node (subtree Brace end) ≡ true
subtree_is_a_node = refl

-- a subtree's first span is its open span
opens_first : tree_span (branch (delimiter Brace (span 3 1) (span 8 1)) end) ≡ span 3 1
opens_first = refl

subtree_token_opens_first : first_span (token.Subtree (subtree_of (delimiter Brace (span 3 1) (span 8 1)) 0)) ≡ span 3 1
subtree_token_opens_first = refl

leaf_token_span_first : first_span (token.Leaf (ident (codes "a"))) ≡ span 0 1
leaf_token_span_first = refl

leaf_span_first : tree_span (tip (ident (codes "a"))) ≡ span 0 1
leaf_span_first = refl

-- two leaves are read in their order; the end of a subtree is no leaf
two_leaves : two_leaves_at (passes (ident (codes "a")) ∷ passes (ident (codes "b")) ∷ []) ≡ Some (ident (codes "a") ∷ ident (codes "b") ∷ [])
two_leaves = refl

parted_by_an_end : two_leaves_at (passes (ident (codes "a")) ∷ closes (subtree_of (delimiter Brace (span 0 1) (span 2 1)) 1) ∷ passes (ident (codes "b")) ∷ []) ≡ None
parted_by_an_end = refl

parted_by_an_opening : two_leaves_at (passes (ident (codes "a")) ∷ opens (subtree_of (delimiter Brace (span 0 1) (span 2 1)) 1) ∷ passes (ident (codes "b")) ∷ []) ≡ None
parted_by_an_opening = refl

-- one leaf is not two, and a subtree with a leaf inside is not
one_leaf_at_the_end : two_leaves_at (passes (ident (codes "a")) ∷ []) ≡ None
one_leaf_at_the_end = refl

behind_an_opening : two_leaves_at (opens (subtree_of (delimiter Brace (span 0 1) (span 2 1)) 1) ∷ passes (ident (codes "a")) ∷ passes (ident (codes "b")) ∷ []) ≡ None
behind_an_opening = refl

behind_an_end : two_leaves_at (closes (subtree_of (delimiter Brace (span 0 1) (span 2 1)) 0) ∷ passes (ident (codes "a")) ∷ passes (ident (codes "b")) ∷ []) ≡ None
behind_an_end = refl

-- only an invisible root is removed, and only once
strips_invisible : stripped (subtree Invisible (subtree Invisible (leaf (ident (codes "a")) end))) ≡ subtree Invisible (leaf (ident (codes "a")) end)
strips_invisible = refl

keeps_parentheses : stripped (subtree Parenthesis (leaf (ident (codes "a")) end)) ≡ subtree Parenthesis (leaf (ident (codes "a")) end)
keeps_parentheses = refl

keeps_braces : stripped (subtree Brace (leaf (ident (codes "a")) end)) ≡ subtree Brace (leaf (ident (codes "a")) end)
keeps_braces = refl

keeps_brackets : stripped (subtree Bracket (leaf (ident (codes "a")) end)) ≡ subtree Bracket (leaf (ident (codes "a")) end)
keeps_brackets = refl

keeps_two_trees : stripped (node (delimiter Invisible (span 0 1) (span 1 1)) end (leaf (ident (codes "a")) end)) ≡ node (delimiter Invisible (span 0 1) (span 1 1)) end (leaf (ident (codes "a")) end)
keeps_two_trees = refl
