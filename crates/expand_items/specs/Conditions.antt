-- What attributes say of the statement or the item behind them: `#[cfg(..)]`, and `#[cfg_attr(..)]` that contains it.
use Rattle.std.specs.Prelude.{ℕ, suc, ◌&&◌, not, Bool, true, false, Option, None, Some, codes, if◌then◌else◌}
use Rattle.tt.specs.Forest.{Forest, end, leaf, node}
use Rattle.tt.specs.Moves.{after_tree}
use Rattle.tt.specs.Types.Leaf.{Leaf}
use Rattle.expand_items.specs.Attributes.{is_attribute_sign}
use Rattle.expand_items.specs.Cfg.{Known}
use Rattle.expand_items.specs.Positions.{behind_leaf, is_bracket}
use Rattle.expand_items.specs.Predicates.{both, check, either, is_sign, negated}
use Rattle.expand_items.specs.declared.position.Position.{Position}
use Rattle.mbe_pattern.specs.Spelling.{is_parenthesis}
use Rattle.mbe_pattern.specs.Units.{front_trees, is_at_word}

-- the number of trees before the first `,`
abbrev pub comma_at : Forest → ℕ
comma_at end = 0
comma_at (leaf it rest) = if is_sign 44 it then 0 else suc (comma_at rest)
comma_at (node delimiter children rest) = suc (comma_at rest)

-- `cfg` before these trees: what the predicate in the parentheses says; open if there are none
abbrev pub cfg_says : Known → (behind : Forest) → Option Bool
cfg_says known end = None
cfg_says known (leaf it rest) = None
cfg_says known (node delimiter children rest) = if is_parenthesis delimiter.kind then check known children else None

-- what an attribute says: `cfg(..)` what its predicate says, other words true; a `cfg_attr(..)` in another one is open
abbrev pub meta_says : Known → Forest → Option Bool
meta_says known trees =
    if is_at_word (codes "cfg") trees then cfg_says known (after_tree trees)
    else (if is_at_word (codes "cfg_attr") trees then None else Some true)

-- what all attributes of a list say together that have a `,` before them
abbrev pub metas_say : Known → (is_behind_comma : Bool) → Forest → Option Bool
metas_say known behind_comma end = Some true
metas_say known true (leaf it rest) = both (meta_says known (leaf it rest)) (metas_say known (is_sign 44 it) rest)
metas_say known false (leaf it rest) = metas_say known (is_sign 44 it) rest
metas_say known behind_comma (node delimiter children rest) = metas_say known false rest

-- `cfg_attr` before these trees: true if the predicate is false, and else what the attributes behind it say
abbrev pub cfg_attr_says : Known → (behind : Forest) → Option Bool
cfg_attr_says known end = None
cfg_attr_says known (leaf it rest) = None
cfg_attr_says known (node delimiter children rest) =
    if is_parenthesis delimiter.kind then either (negated (check known (front_trees (comma_at children) children))) (metas_say known false children) else None

-- what the contents of the brackets of an attribute say
abbrev pub condition_says : Known → (inside : Forest) → Option Bool
condition_says known inside =
    if is_at_word (codes "cfg_attr") inside then cfg_attr_says known (after_tree inside) else meta_says known inside

-- what the brackets say that come first; true if there are none
abbrev pub brackets_say : Known → Forest → Option Bool
brackets_say known end = Some true
brackets_say known (leaf it rest) = Some true
brackets_say known (node delimiter children rest) = if is_bracket delimiter.kind then condition_says known children else Some true

-- what the attributes that come first say together
abbrev pub attributes_say : Known → Forest → Option Bool
attributes_say known end = Some true
attributes_say known (node delimiter children rest) = Some true
attributes_say known (leaf it end) = Some true
attributes_say known (leaf it (leaf next rest)) = Some true
attributes_say known (leaf it (node delimiter children rest)) =
    if is_attribute_sign it && is_bracket delimiter.kind then both (condition_says known children) (attributes_say known rest) else Some true

-- what is known to be true, and what is known to be false
abbrev pub is_true : Option Bool → Bool
is_true None = false
is_true (Some it) = it

abbrev pub is_false : Option Bool → Bool
is_false None = false
is_false (Some it) = not it

-- a condition begins with this leaf, before these trees, and is not known to be true
abbrev pub is_open_condition : Known → Leaf → Forest → Bool
is_open_condition known it trees = is_attribute_sign it && not (is_true (brackets_say known trees))

-- the position after a leaf, before these trees
abbrev pub behind_leaf_under : Known → Leaf → Forest → Position → Position
behind_leaf_under known it trees position = behind_leaf (is_open_condition known it trees) it trees position
