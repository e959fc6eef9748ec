-- Statements and items under a condition that is false, and what comes first at a position.
use Rattle.std.specs.Prelude.{◌≡◌, ℕ, ◌&&◌, not, Bool, true, false, List, length, Option, None, Some, codes, option_map}
use Rattle.tt.specs.Forest.{Forest}
use Rattle.tt.specs.Gluing.{after_trees}
use Rattle.tt.specs.Siblings.{list_of}
use Rattle.expand_items.specs.Attributes.{is_at_attribute, item_at}
use Rattle.expand_items.specs.Cfg.{Known}
use Rattle.expand_items.specs.Conditions.{attributes_say, brackets_say, is_false}
use Rattle.expand_items.specs.Items.{Item, inactive}
use Rattle.expand_items.specs.Parts.{IsPart}
use Rattle.expand_items.specs.Positions.{is_at_inner}
use Rattle.expand_items.specs.declared.part.Part.{Part}
use Rattle.expand_items.specs.declared.position.Position.{Position}
use Rattle.mbe_pattern.specs.Units.{is_at_punct}

-- `#` comes first, and the first attribute of a statement or an item may begin there
abbrev pub begins_sign : Position → Forest → Bool
begins_sign position trees = position.is_start && (not position.is_attributed && is_at_punct (codes "#") trees)

-- an inner attribute comes first that is false for all siblings
abbrev pub is_rest_inactive : Known → Forest → Bool
is_rest_inactive known trees = is_at_inner trees && is_false (brackets_say known (after_trees 2 trees))

-- attributes come first that are false for the statement or the item behind them
abbrev pub is_part_inactive : Known → Forest → Bool
is_part_inactive known trees = is_at_attribute trees && is_false (attributes_say known trees)

-- the number of trees under a false condition that come first: all that are left behind an inner attribute; those of a statement or an item,
-- if the grammar knows one there
pub data IsInactive : Known → Position → Forest → Option ℕ → Type 0 where
  elsewhere : {known : Known} {position : Position} {trees : Forest} → begins_sign position trees ≡ false → IsInactive known position trees None
  active : {known : Known} {position : Position} {trees : Forest} → is_rest_inactive known trees ≡ false → is_part_inactive known trees ≡ false
      → IsInactive known position trees None
  rest : {known : Known} {position : Position} {trees : Forest} → begins_sign position trees ≡ true → is_rest_inactive known trees ≡ true
      → IsInactive known position trees (Some (length (list_of trees)))
  part : {known : Known} {position : Position} {trees : Forest} {found : Option Part} → begins_sign position trees ≡ true → is_part_inactive known trees ≡ true
      → IsPart position.siblings trees found → IsInactive known position trees (option_map (λ it. it.len) found)

-- what comes first: so many trees under a false condition, or else something else
abbrev pub item_unless : (inactive_len : Option ℕ) → Item → Item
item_unless None it = it
item_unless (Some len) it = inactive len

-- what comes first at a position: conditions count unless the position is in what an attribute gets
pub data IsItemAt (known : Known) (root : List ℕ) (position : Position) (trees : Forest) (it : Item) : Type 0 where
  verbatim : position.is_verbatim ≡ true → it ≡ item_at root position trees → IsItemAt known root position trees it
  unless_inactive : (len : Option ℕ) → position.is_verbatim ≡ false → IsInactive known position trees len
      → it ≡ item_unless len (item_at root position trees) → IsItemAt known root position trees it
