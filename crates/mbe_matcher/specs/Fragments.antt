-- What a fragment takes.
use Rattle.std.specs.Prelude.{ℕ, Bool, true, false, ◌&&◌, ◌||◌, not, Option, None, Some, codes, is_some, if◌then◌else◌}
use Rattle.tt.specs.Expectations.{first_leaf_as, as_ident_or_underscore, unless_underscore}
use Rattle.tt.specs.Forest.{Forest, end, leaf, node}
use Rattle.tt.specs.Gluing.{after_trees}
use Rattle.tt.specs.Moves.{after_tree}
use Rattle.tt.specs.Siblings.{is_end}
use Rattle.tt.specs.Types.DelimiterKind.{DelimiterKind}
use Rattle.tt.specs.Types.DelimiterKind.TheVariants as delimited
use Rattle.tt.specs.Types.Leaf.{Leaf}
use Rattle.tt.specs.Types.Leaf.TheVariants as leaf_of
use Rattle.mbe_matcher.specs.GrammarReach.{grammar_reach, is_block}
use Rattle.mbe_pattern.specs.declared.pattern.Fragment.{Fragment}
use Rattle.mbe_pattern.specs.declared.pattern.Fragment.TheVariants as fragment
use Rattle.mbe_pattern.specs.Spelling.{is_parenthesis}
use Rattle.mbe_pattern.specs.Units.{is_at_ident, is_at_punct, unit_size, is_word, is_at_word, is_brace, front_trees}

-- a literal, or a truth value, which is not raw
abbrev pub is_literal_leaf : Leaf → Bool
is_literal_leaf (leaf_of.Literal it) = true
is_literal_leaf (leaf_of.Punct it) = false
is_literal_leaf (leaf_of.Ident it) = is_word (codes "true") it.is_raw it.sym || is_word (codes "false") it.is_raw it.sym

-- the first tree is a literal or a truth value
abbrev pub is_at_literal : Forest → Bool
is_at_literal end = false
is_at_literal (leaf it rest) = is_literal_leaf it
is_at_literal (node delimiter children rest) = false

-- a `-` and a literal or a truth value come first
abbrev pub is_at_negative : Forest → Bool
is_at_negative trees = is_at_punct (codes "-") trees && is_at_literal (after_tree trees)

-- a literal or a truth value comes first, or follows a `-`
abbrev pub begins_literal : Forest → Bool
begins_literal trees = is_at_literal trees || is_at_negative trees

-- how many trees a literal has
abbrev pub literal_size : Forest → ℕ
literal_size trees = if is_at_negative trees then 2 else 1

-- such a literal and nothing else
abbrev pub is_literal : Forest → Bool
is_literal trees = begins_literal trees && is_end (after_trees (literal_size trees) trees)

-- one tree without printed delimiters
abbrev pub is_opaque : DelimiterKind → Bool
is_opaque delimited.Parenthesis = false
is_opaque delimited.Brace = false
is_opaque delimited.Bracket = false
is_opaque delimited.Invisible = false
is_opaque delimited.InvisibleOpaque = true

-- the first tree is an opaque subtree that holds a literal and nothing else
abbrev pub is_at_held_literal : Forest → Bool
is_at_held_literal end = false
is_at_held_literal (leaf it rest) = false
is_at_held_literal (node delimiter children rest) = is_opaque delimiter.kind && is_literal children

-- a `'` and an ident come first
abbrev pub is_at_lifetime : Forest → Bool
is_at_lifetime trees = is_at_punct (codes "'") trees && is_at_ident (after_tree trees)

-- the first tree is a block
abbrev pub is_at_block : Forest → Bool
is_at_block end = false
is_at_block (leaf it rest) = false
is_at_block (node delimiter children rest) = is_brace delimiter.kind && is_block children

-- `in` and what follows it, or `crate`, `self` or `super` alone
abbrev pub is_scope : (inside : Forest) → Bool
is_scope inside =
    is_at_word (codes "in") inside
    || ((is_at_word (codes "crate") inside || (is_at_word (codes "self") inside || is_at_word (codes "super") inside)) && is_end (after_tree inside))

-- the first tree is a subtree in parentheses that holds such a scope
abbrev pub is_at_scope : Forest → Bool
is_at_scope end = false
is_at_scope (leaf it rest) = false
is_at_scope (node delimiter children rest) = is_parenthesis delimiter.kind && is_scope children

-- how many trees a visibility has: 2 for `pub` with such parentheses, 1 for `pub` alone, or 0
abbrev pub visibility_size : Forest → ℕ
visibility_size trees = if is_at_word (codes "pub") trees then (if is_at_scope (after_tree trees) then 2 else 1) else 0

-- the fragment takes the trees at the front: an ident other than `_`; a literal or a truth value, also after `-` and as an opaque subtree;
-- a lifetime; a block; a visibility, or nothing before any tree; any token or subtree; or what Rust's grammar takes
abbrev pub takes : Fragment → Forest → Bool
takes fragment.Ident trees = is_some (unless_underscore (first_leaf_as as_ident_or_underscore trees))
takes fragment.Literal trees = begins_literal trees || is_at_held_literal trees
takes fragment.Lifetime trees = is_at_lifetime trees
takes fragment.Block trees = is_at_block trees
takes fragment.Vis trees = not (is_end trees)
takes fragment.Tt trees = not (is_end trees)
takes (fragment.Grammar which) trees = is_some (grammar_reach which trees)

-- that number, or one
abbrev pub or_one : Option ℕ → ℕ
or_one None = 1
or_one (Some n) = n

-- how many trees the fragment takes
abbrev pub reach : Fragment → Forest → ℕ
reach fragment.Ident trees = 1
reach fragment.Literal trees = literal_size trees
reach fragment.Lifetime trees = 2
reach fragment.Block trees = 1
reach fragment.Vis trees = visibility_size trees
reach fragment.Tt trees = unit_size trees
reach (fragment.Grammar which) trees = or_one (grammar_reach which trees)

-- the trees that the fragment takes; `left_by` is the trees after them
abbrev pub taken : Fragment → Forest → Forest
taken which trees = front_trees (reach which trees) trees

abbrev pub left_by : Fragment → Forest → Forest
left_by which trees = after_trees (reach which trees) trees
