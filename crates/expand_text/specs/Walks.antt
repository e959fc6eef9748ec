-- A walk through trees that define and call macros.
use Rattle.std.specs.Prelude.{◌≡◌, ◌+◌, ◌*◌, ◌-◌, ℕ, Bool, true, false, suc, List, [], ◌∷◌, map, reverse, Option, None, Some, if◌then◌else◌}
use Rattle.tt.specs.Forest.{Forest, Root, end, size}
use Rattle.tt.specs.Gluing.{after_trees}
use Rattle.tt.specs.Moves.{after_tree}
use Rattle.tt.specs.TreeWalks.{innermost, outer_levels}
use Rattle.tt.specs.Types.Delimiter.{Delimiter}
use Rattle.tt.specs.Types.DelimiterKind.{DelimiterKind}
use Rattle.tt.specs.Types.Leaf.{Leaf}
use Rattle.tt.specs.Types.Span.{Span}
use Rattle.expand_items.specs.declared.position.Position.{Position}
use Rattle.mbe_pattern.specs.Units.{front_trees, is_brace}
use Rattle.expand_text.specs.declared.part.Part.{Part}
use Rattle.expand_text.specs.declared.walk.Level as rust
use Rattle.expand_text.specs.declared.walk.Walk.{Walk}
use Rattle.expand_text.specs.Meaning.{ExpandsTo, plain_behind, plain_behind_part, takes_in}
use Rattle.expand_text.specs.Kept.{kept_behind}
use Rattle.expand_text.specs.Parts.{trees_in}
use Rattle.expand_items.specs.Cfg.{Known}
use Rattle.expand_items.specs.Conditions.{behind_leaf_under}
use Rattle.expand_items.specs.Inactive.{IsItemAt}
use Rattle.expand_items.specs.Items.{Item, Call}
use Rattle.expand_text.specs.Contexts.{Config, Context, left_in_scope}
use Rattle.expand_text.specs.Outcomes.{Outcome, passes, enters, stays, becomes}
use Rattle.expand_items.specs.Positions.{first_inside, behind, behind_subtree, keeps_macros}

-- the trees of a subtree that are left, the position before them, how many are taken as they are, where the subtree closes, and how many
-- macros stay in scope after it, if not all
pub record Level : Type 0 where
  pub rest : Forest
  pub position : Position
  pub plain : ℕ
  pub close : Span
  pub kept : Option ℕ

-- what the values of the code mean: the innermost level comes first
abbrev pub level_at : Forest → rust.Level → Level
level_at trees it = record { rest = trees; position = it.position; plain = it.plain; close = it.close; kept = it.kept }

abbrev pub levels_at : List Forest → List rust.Level → List Level
levels_at [] levels = []
levels_at (trees ∷ others) [] = []
levels_at (trees ∷ others) (it ∷ levels) = level_at trees it ∷ levels_at others levels

abbrev pub first_level : Walk → Level
first_level walk = level_at (innermost walk.trees) walk.level

abbrev pub outer_of : Walk → List Level
outer_of walk = levels_at (outer_levels walk.trees) (reverse walk.outer.items)

abbrev pub levels_of : Walk → List Level
levels_of walk = first_level walk ∷ outer_of walk

-- the first tree is passed: a leaf, or a subtree of a kind
abbrev pub past_leaf : Known → Leaf → Level → Level
past_leaf known it level =
    record level {
      rest = after_tree level.rest;
      position = behind_leaf_under known it (after_tree level.rest) level.position;
      plain = plain_behind it (after_tree level.rest) level.plain;
    }

abbrev pub past_subtree : DelimiterKind → Level → Level
past_subtree kind level = record level { rest = after_tree level.rest; position = behind_subtree kind level.position; plain = level.plain - 1 }

-- so many trees are passed, which end a statement or an item if `ends`
abbrev pub past : (len : ℕ) → (ends : Bool) → Level → Level
past len ends level = record level { rest = after_trees len level.rest; position = behind ends level.position }

-- the `;` that comes first is passed, if it is taken
abbrev pub past_semicolon : (takes : Bool) → Level → Level
past_semicolon takes level =
    record level {
      rest = if takes then after_tree level.rest else level.rest;
      position = if takes then behind true level.position else level.position;
    }

-- an item or a statement of so many trees is passed
abbrev pub past_part : (len : ℕ) → Level → Level
past_part len level =
    record level { rest = after_trees len level.rest; position = behind true level.position; plain = plain_behind_part len level.rest }

-- a call, of which an arm made that tree, is passed, and the `;` after it if that is a part of it
abbrev pub past_call : Call → Root → Level → Level
past_call it tree level =
    past_semicolon (takes_in level.position it level.rest tree) (past it.len (is_brace it.delimiter.kind) level)

-- a part that comes first, and the levels behind it
abbrev pub front_in : Part → List Level → Forest
front_in it [] = end
front_in it (level ∷ outer) = front_trees (trees_in it) level.rest

abbrev pub past_in : Part → List Level → List Level
past_in it [] = []
past_in it (level ∷ outer) =
    record level { rest = after_trees (trees_in it) level.rest; position = it.position; plain = it.plain } ∷ outer

-- so many of the first trees are taken as they are
abbrev pub with_plain : ℕ → List Level → List Level
with_plain plain [] = []
with_plain plain (level ∷ outer) = record level { plain = plain } ∷ outer

-- what the rest of each level expands to, the innermost first
abbrev pub Ends : Config → (in_text : Bool) → (limit : ℕ) → List Level → (before after : Context) → List Outcome → Type 0
Ends config in_text limit [] before after [] = before ≡ after
Ends config in_text limit [] before after (it ∷ others) = ⊥
Ends config in_text limit (level ∷ outer) before after [] = ⊥
Ends config in_text limit (level ∷ outer) before after (it ∷ others) =
    (inside : Context) × ExpandsTo config in_text limit level.position level.plain before level.rest inside it × Ends config in_text limit outer (left_in_scope level.kept inside) after others

-- what levels expand to, with something first in the innermost
abbrev pub first_leaf : Leaf → List Outcome → List Outcome
first_leaf it [] = []
first_leaf it (others ∷ outer) = passes it others ∷ outer

abbrev pub first_subtree : Delimiter → List Outcome → List Outcome
first_subtree delimiter [] = []
first_subtree delimiter (held ∷ []) = []
first_subtree delimiter (held ∷ others ∷ outer) = enters delimiter held others ∷ outer

abbrev pub first_stay : Forest → List Outcome → List Outcome
first_stay trees [] = []
first_stay trees (others ∷ outer) = stays trees others ∷ outer

abbrev pub first_becomes : (attributes : Forest) → (first last : Span) → (put : Forest) → List Outcome → List Outcome
first_becomes attributes first last put [] = []
first_becomes attributes first last put (others ∷ outer) = stays attributes (becomes first last put others) ∷ outer

-- the levels and what is known become others, and what those expand to, so grown, is what these expand to
abbrev pub Leads : Config → (in_text : Bool) → (limit : ℕ) → List Level → Context → (grown : List Outcome → List Outcome) → List Level → Context → Type 0
Leads config in_text limit levels context grown nexts others =
    (after : Context) (outcomes : List Outcome) → Ends config in_text limit nexts others after outcomes → Ends config in_text limit levels context after (grown outcomes)

-- where levels close
abbrev pub closes_of : List Level → List Span
closes_of levels = map (λ level. level.close) levels

-- how much is left to do
abbrev pub work_in : List Level → ℕ
work_in [] = 0
work_in (level ∷ outer) = suc (2 * size level.rest + work_in outer)

-- the level before sibling trees
abbrev pub begun : Position → Forest → (close : Span) → Level
begun position trees close = record { rest = trees; position = position; plain = 0; close = close; kept = None }

-- the first tree of the innermost level, a subtree, is entered
abbrev pub inside : Delimiter → (children behind : Forest) → Position → Option ℕ → Level
inside delimiter children behind position kept =
    record { rest = children; position = first_inside delimiter.kind behind position; plain = 0; close = delimiter.close; kept = kept }

abbrev pub entered : Delimiter → (children : Forest) → (macros : ℕ) → List Level → List Level
entered delimiter children macros [] = []
entered delimiter children macros (level ∷ outer) =
    inside delimiter children (after_tree level.rest) level.position (kept_behind (keeps_macros delimiter.kind children level.position) macros) ∷ past_subtree delimiter.kind level ∷ outer

-- the level that is left, and the outer levels
abbrev pub IsLeft : Walk → Option Span → Walk → Type 0
IsLeft old None new = outer_of old ≡ []
IsLeft old (Some close) new = (close ≡ old.level.close) × (outer_of old ≡ levels_of new)

-- the item comes first
abbrev pub IsFirst : Item → Config → Level → Type 0
IsFirst it config level = IsItemAt config.known config.root level.position level.rest it

-- the item comes first, no tree is to be taken as it is, and calls are still expanded
pub record IsAtItem (it : Item) (config : Config) (level : Level) (context : Context) : Type 0 where
  pub first : level.plain ≡ 0
  pub goes_on : context.is_over ≡ false
  pub item : IsFirst it config level
