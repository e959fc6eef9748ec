-- Definitions of macros with the attributes before them, and their places in a text.
use Rattle.std.specs.Prelude.{◌≡◌, ◌&&◌, ◌||◌, ℕ, Bool, false, List, [], ◌∷◌, Option, map, option_map, if◌then◌else◌}
use Rattle.tt.specs.Forest.{Forest, end, leaf, node}
use Rattle.tt.specs.Gluing.{after_trees}
use Rattle.expand_items.specs.declared.macro_rules_item.MacroRulesItem as rust
use Rattle.expand_items.specs.Attributes.{attributes_len, is_attribute_sign}
use Rattle.expand_items.specs.Items.{Definition, definition_in, definition_of}
use Rattle.expand_items.specs.Positions.{is_attribute_of, is_bracket}
use Rattle.mbe_grammar.specs.Beginnings.{Beginning, AreFirstBeginnings}
use Rattle.mbe_grammar.specs.Names.{start, items, tokens, macro_rules_item, loose_macro_rules_item}

-- a definition of a macro behind so many trees of attributes
pub record MacroRulesItem : Type 0 where
  pub attributes : ℕ
  pub definition : Definition

abbrev pub behind_attributes : (attributes : ℕ) → Definition → MacroRulesItem
behind_attributes attributes it = record { attributes = attributes; definition = it }

-- the definition that comes first, behind the attributes that come first
abbrev pub macro_rules_item_in : Forest → Option MacroRulesItem
macro_rules_item_in trees = option_map (behind_attributes (attributes_len trees)) (definition_in (after_trees (attributes_len trees) trees))

-- one of the attributes that come first begins with a word
abbrev pub has_attribute : (word : List ℕ) → Forest → Bool
has_attribute word end = false
has_attribute word (node delimiter children rest) = false
has_attribute word (leaf it end) = false
has_attribute word (leaf it (leaf next rest)) = false
has_attribute word (leaf it (node delimiter children rest)) =
    if is_attribute_sign it && is_bracket delimiter.kind then is_attribute_of word delimiter.kind children || has_attribute word rest else false

-- what trees are read as: a file, or else any tokens
abbrev pub readings : List ℕ
readings = start items ∷ start tokens ∷ []

-- the places of the definitions in trees, each as the number of tokens from there to the end of the trees
abbrev pub ArePlaces : Forest → (places : List ℕ) → Type 0
ArePlaces trees places =
    (found : List Beginning) × AreFirstBeginnings readings (start macro_rules_item ∷ start loose_macro_rules_item ∷ []) trees found
    × (places ≡ map (λ it. it.left) found)

-- what the value of the code means
abbrev pub macro_rules_item_of : rust.MacroRulesItem → MacroRulesItem
macro_rules_item_of it = behind_attributes it.attributes (definition_of it.definition)
