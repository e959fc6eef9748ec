-- The definitions of macros in trees, at all depths.
use Rattle.std.specs.Prelude.{◌≡◌, ◌-◌, ◌++◌, ℕ, zero, suc, List, [], ◌∷◌, Option, None, Some}
use Rattle.tt.specs.Forest.{Forest, end, leaf, node}
use Rattle.tt.specs.Iters.{rest_of}
use Rattle.tt.specs.Moves.{after_tree}
use Rattle.tt.specs.Types.DelimiterKind.{DelimiterKind}
use Rattle.tt.specs.Types.Leaf.{Leaf}
use Rattle.tt.specs.Types.TtIter.{TtIter}
use Rattle.expand_items.specs.Cfg.{Known}
use Rattle.expand_items.specs.Conditions.{behind_leaf_under}
use Rattle.expand_items.specs.Inactive.{IsItemAt}
use Rattle.expand_items.specs.Items.{Definition, Item, defines, calls, inactive, other, definition_of}
use Rattle.expand_items.specs.Positions.{behind_subtree, first_in}
use Rattle.expand_items.specs.declared.definitions.Defined as rust
use Rattle.expand_items.specs.declared.definitions.Level as level_in_code
use Rattle.expand_items.specs.declared.position.Position.{Position}

-- a definition of a macro, and its position
pub record Defined : Type 0 where
  pub definition : Definition
  pub position : Position

-- the definition that comes first
abbrev pub defined_by : Position → Item → List Defined
defined_by position (defines it) = record { definition = it; position = position } ∷ []
defined_by position (calls it) = []
defined_by position (inactive len) = []
defined_by position other = []

-- the number of trees of what comes first
abbrev pub item_len : Item → ℕ
item_len (defines it) = it.len
item_len (calls it) = it.len
item_len (inactive len) = len
item_len other = 0

-- what comes first, unless so many trees are passed
abbrev pub IsItemIf : Known → (root : List ℕ) → Position → (passed : ℕ) → Forest → Item → Type 0
IsItemIf known root position zero trees it = IsItemAt known root position trees it
IsItemIf known root position (suc passed) trees it = it ≡ other

-- how many trees are passed then: those of what comes first
abbrev pub passed_by : (passed : ℕ) → Item → ℕ
passed_by zero it = item_len it
passed_by (suc passed) it = suc passed

-- what a subtree contains is looked at, unless that is passed
abbrev pub Unless : (passed : ℕ) → (List Defined → Type 0) → List Defined → Type 0
Unless zero Are found = Are found
Unless (suc passed) Are found = found ≡ []

-- these are all definitions in trees at a position, of which so many are passed
abbrev pub AreDefinitions : Known → (root : List ℕ) → Position → (passed : ℕ) → Forest → List Defined → Type 0
AreDefinitions known root position passed end found = found ≡ []
AreDefinitions known root position passed (leaf it rest) found =
    (first : Item) × (others : List Defined) × IsItemIf known root position passed (leaf it rest) first
    × AreDefinitions known root (behind_leaf_under known it rest position) (passed_by passed first - 1) rest others
    × (found ≡ defined_by position first ++ others)
AreDefinitions known root position passed (node delimiter children rest) found =
    (inside others : List Defined) × Unless passed (AreDefinitions known root (first_in delimiter.kind position) 0 children) inside
    × AreDefinitions known root (behind_subtree delimiter.kind position) (passed - 1) rest others
    × (found ≡ inside ++ others)

-- the trees of a subtree that are left, the position before them, and how many are passed
pub record Level : Type 0 where
  pub rest : Forest
  pub position : Position
  pub passed : ℕ

-- the first tree is passed: a leaf, or a subtree of a kind
abbrev pub past_leaf : Known → Leaf → Level → Level
past_leaf known it level =
    record { rest = after_tree level.rest; position = behind_leaf_under known it (after_tree level.rest) level.position; passed = level.passed - 1 }

abbrev pub past_subtree : DelimiterKind → Level → Level
past_subtree kind level = record { rest = after_tree level.rest; position = behind_subtree kind level.position; passed = level.passed - 1 }

-- what the values of the code mean
abbrev pub defined_of : rust.Defined → Defined
defined_of it = record { definition = definition_of it.definition; position = it.position }

abbrev pub level_of : level_in_code.Level → Level
level_of it = record { rest = rest_of it.rest; position = it.position; passed = it.passed }

-- the definition that comes first is found, unless it is passed
abbrev pub IsFound : Known → (root : List ℕ) → (old : level_in_code.Level) → (before : List Defined) → (new : level_in_code.Level) → (after : List Defined) → Type 0
IsFound known root old before new after =
    (first : Item) × IsItemIf known root old.position old.passed (rest_of old.rest) first × (after ≡ before ++ defined_by old.position first)
    × (new.passed ≡ passed_by old.passed first)

-- the level of the children of a subtree of a kind, unless that is passed
abbrev pub IsInside : DelimiterKind → (children : TtIter) → Position → (passed : ℕ) → Option level_in_code.Level → Type 0
IsInside kind children position zero None = ⊥
IsInside kind children position zero (Some it) = level_of it ≡ record { rest = rest_of children; position = first_in kind position; passed = 0 }
IsInside kind children position (suc passed) it = it ≡ None
