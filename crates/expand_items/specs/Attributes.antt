-- Attributes, and calls behind them.
use Rattle.std.specs.Prelude.{ℕ, ◌+◌, ◌&&◌, not, Bool, true, false, List, codes, if◌then◌else◌}
use Rattle.tt.specs.Forest.{Forest, end, leaf, node, join}
use Rattle.tt.specs.Gluing.{after_trees}
use Rattle.tt.specs.Moves.{after_tree}
use Rattle.tt.specs.Types.Leaf.{Leaf}
use Rattle.expand_items.specs.Items.{Call, Item, defines, calls, inactive, other, item_in}
use Rattle.expand_items.specs.Positions.{is_at_attribute_of, is_at_brackets, is_bracket, is_statement}
use Rattle.expand_items.specs.Predicates.{is_sign}
use Rattle.expand_items.specs.declared.position.Position.{Position}
use Rattle.mbe_pattern.specs.Units.{is_at_punct}

-- the number of trees of an attribute: `#` and brackets
abbrev pub attribute_len : ℕ
attribute_len = 2

-- a `#`
abbrev pub is_attribute_sign : Leaf → Bool
is_attribute_sign it = is_sign 35 it

-- an attribute comes first: `#` and brackets
abbrev pub is_at_attribute : Forest → Bool
is_at_attribute end = false
is_at_attribute (leaf it rest) = is_attribute_sign it && is_at_brackets rest
is_at_attribute (node delimiter children rest) = false

-- the number of trees of the attributes that come first
abbrev pub attributes_len : Forest → ℕ
attributes_len end = 0
attributes_len (node delimiter children rest) = 0
attributes_len (leaf it end) = 0
attributes_len (leaf it (leaf next rest)) = 0
attributes_len (leaf it (node delimiter children rest)) = if is_attribute_sign it && is_bracket delimiter.kind then attribute_len + attributes_len rest else 0

-- a condition comes first
abbrev pub is_at_condition : Forest → Bool
is_at_condition trees = is_at_punct (codes "#") trees && is_at_attribute_of (codes "cfg") (after_tree trees)

-- trees before others, or those alone
abbrev pub before_if : (is_there : Bool) → (trees others : Forest) → Forest
before_if true trees others = join trees others
before_if false trees others = others

-- the conditions among the attributes that come first
abbrev pub conditions_of : Forest → Forest
conditions_of end = end
conditions_of (node delimiter children rest) = end
conditions_of (leaf it end) = end
conditions_of (leaf it (leaf next rest)) = end
conditions_of (leaf it (node delimiter children rest)) =
    if is_at_attribute (leaf it (node delimiter children rest))
    then before_if (is_at_condition (leaf it (node delimiter children rest))) (leaf it (node delimiter children end)) (conditions_of rest)
    else end

-- the first attribute comes first, at the beginning of a statement or an item
abbrev pub begins_attributes : Position → Forest → Bool
begins_attributes position trees = position.is_start && (not position.is_attributed && is_at_attribute trees)

-- so many trees of attributes are a part of a call
abbrev pub with_attributes : (len : ℕ) → Call → Call
with_attributes len it = record it { attributes = len; len = len + it.len }

-- what follows so many trees of attributes, before these trees: a call that is a statement or an item has the attributes as a part
abbrev pub item_behind : Position → (attributes : ℕ) → (trees : Forest) → Item → Item
item_behind position attributes trees (defines it) = other
item_behind position attributes trees (calls it) =
    if is_statement attributes it.delimiter.kind (after_trees it.len trees) position then calls (with_attributes attributes it) else other
item_behind position attributes trees (inactive len) = other
item_behind position attributes trees other = other

-- what comes first at a position: nothing in the brackets that an attribute gets; a call that is a statement or an item contains the
-- attributes before it
abbrev pub item_at : (root : List ℕ) → Position → Forest → Item
item_at root position trees =
    if position.is_verbatim then other
    else (if begins_attributes position trees
    then item_behind position (attributes_len trees) (after_trees (attributes_len trees) trees) (item_in root (after_trees (attributes_len trees) trees))
    else item_in root trees)
