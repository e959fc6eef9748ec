-- Edits and rewritings of small trees.
use Rattle.std.proofs.Common.{◌≡◌, ℕ, List, [], ◌∷◌, codes, refl}
use Rattle.tt_base.specs.declared.delimiter.DelimiterKind.TheVariants.{Parenthesis, Brace, Bracket, Invisible}
use Rattle.tt_base.specs.declared.leaf.Leaf.{Leaf}
use Rattle.tt_base.specs.declared.punct.Spacing.TheVariants.{Alone}
use Rattle.tt_base.specs.declared.token_tree.TokenTree.{TokenTree}
use Rattle.tt_base.specs.declared.token_tree.TokenTree.TheVariants as token
use Rattle.tt_base.specs.Token.{delimiter, delim_span}
use Rattle.tt_base.specs.Edits.{with_kind, with_spans, leaf_set, respanned}
use Rattle.tt_base.specs.Forest.{Forest, end, leaf, node, Root, flat, header}
use Rattle.tt_base.specs.Rewriting.{Action, keep, replace, rewrite, shown}
use Rattle.tt_base.proofs.Samples.{span, punct, ident, subtree}

abbrev a : Leaf
a = ident (codes "a")

abbrev b : Leaf
b = ident (codes "b")

-- ;
abbrev semicolon : Leaf
semicolon = punct 59 Alone

-- [ b ]
abbrev other : Forest
other = subtree Bracket (leaf b end)

-- ( a ; )
abbrev first_run : Forest
first_run = subtree Parenthesis (leaf a (leaf semicolon end))

kept_and_put : (rewrite first_run (keep ∷ replace other ∷ [])).0 ≡ subtree Parenthesis (node (delimiter Bracket (span 0 1) (span 1 1)) (leaf b end) (leaf semicolon end))
kept_and_put = refl

top_put : (rewrite first_run (replace other ∷ [])).0 ≡ other
top_put = refl

top_removed : (rewrite first_run (replace end ∷ [])).0 ≡ end
top_removed = refl

-- ( a ; ) and another tree after it: actions that are left go on there
two_trees : rewrite (node (delimiter Parenthesis (span 0 1) (span 1 1)) (leaf a end) (leaf b end)) (keep ∷ keep ∷ replace end ∷ keep ∷ [])
    ≡ (node (delimiter Parenthesis (span 0 1) (span 1 1)) (leaf a end) end, keep ∷ [])
two_trees = refl

-- a top around braces around a and b; b is removed
abbrev nested : Forest
nested = subtree Invisible (subtree Brace (leaf a (leaf b end)))

abbrev removing_b : List Action
removing_b = keep ∷ keep ∷ keep ∷ replace end ∷ []

b_removed : (rewrite nested removing_b).0 ≡ subtree Invisible (subtree Brace (leaf a end))
b_removed = refl

abbrev top : ℕ → TokenTree
top count = header (delimiter Invisible (span 0 1) (span 1 1)) count

abbrev brace : ℕ → TokenTree
brace count = header (delimiter Brace (span 0 1) (span 1 1)) count

counts_shown : shown nested removing_b ≡ top 3 ∷ brace 2 ∷ token.Leaf a ∷ token.Leaf b ∷ []
counts_shown = refl

counts_after : flat (rewrite nested removing_b).0 ≡ top 2 ∷ brace 1 ∷ token.Leaf a ∷ []
counts_after = refl

-- the callback sees neither the trees of a replaced node nor those in its place
not_shown : shown nested (keep ∷ replace other ∷ []) ≡ top 3 ∷ brace 2 ∷ []
not_shown = refl

-- without actions, the callback sees all tokens and all are kept
all_shown : shown nested [] ≡ top 3 ∷ brace 2 ∷ token.Leaf a ∷ token.Leaf b ∷ []
all_shown = refl

all_kept : (rewrite nested []).0 ≡ nested
all_kept = refl

-- the first run's tree as a root
abbrev root : Root
root = record { delimiter = delimiter Parenthesis (span 0 1) (span 1 1); children = leaf a (leaf semicolon end) }

comma_set : leaf_set 2 (punct 44 Alone) root ≡ record { delimiter = delimiter Parenthesis (span 0 1) (span 1 1); children = leaf a (leaf (punct 44 Alone) end) }
comma_set = refl

top_stays : leaf_set 0 (punct 44 Alone) root ≡ root
top_stays = refl

-- inside a node and after it
set_inside : leaf_set 3 a (record { delimiter = delimiter Invisible (span 0 1) (span 1 1); children = subtree Brace (leaf a (leaf b end)) })
    ≡ record { delimiter = delimiter Invisible (span 0 1) (span 1 1); children = subtree Brace (leaf a (leaf a end)) }
set_inside = refl

set_behind : leaf_set 2 a (record { delimiter = delimiter Invisible (span 0 1) (span 1 1); children = node (delimiter Brace (span 0 1) (span 1 1)) end (leaf b end) })
    ≡ record { delimiter = delimiter Invisible (span 0 1) (span 1 1); children = node (delimiter Brace (span 0 1) (span 1 1)) end (leaf a end) }
set_behind = refl

kind_set : with_kind Brace root ≡ record { delimiter = delimiter Brace (span 0 1) (span 1 1); children = root.children }
kind_set = refl

spans_set : with_spans (delim_span (span 5 1) (span 7 2)) root ≡ record { delimiter = delimiter Parenthesis (span 5 1) (span 7 2); children = root.children }
spans_set = refl

all_respanned : respanned (λ _. span 4 2) first_run ≡ node (delimiter Parenthesis (span 4 2) (span 4 2)) (respanned (λ _. span 4 2) (leaf a (leaf semicolon end))) end
all_respanned = refl
