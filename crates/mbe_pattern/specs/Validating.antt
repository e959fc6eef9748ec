-- What is left of a pattern that is judged, part by part.
use Rattle.std.specs.Prelude.{◌≡◌, ◌&&◌, ◌||◌, not, ℕ, Bool, true, false, List, [], ◌∷◌, map, reverse, Option, None, Some, is_some, if◌then◌else◌}
use Rattle.tt.specs.Forest.{Forest, size}
use Rattle.tt.specs.Iters.{rest_of}
use Rattle.mbe_pattern.specs.declared.error.PatternError.{PatternError}
use Rattle.mbe_pattern.specs.declared.first.First.{First}
use Rattle.mbe_pattern.specs.declared.first.First.TheVariants as first
use Rattle.mbe_pattern.specs.declared.validation.Validation.{Validation}
use Rattle.mbe_pattern.specs.declared.validation.Level.{Level}
use Rattle.mbe_pattern.specs.declared.validation.Opened.{Opened}
use Rattle.mbe_pattern.specs.declared.pattern.Fragment.{Fragment}
use Rattle.mbe_pattern.specs.declared.pattern.RepeatKind.{RepeatKind}
use Rattle.mbe_pattern.specs.Faults.{or_else, names_with, name_fault, separator_fault, empty_fault}
use Rattle.mbe_pattern.specs.Patterns.{may_take_none, may_be_none}
use Rattle.mbe_pattern.specs.Placed.{Placed, placed_until}
use Rattle.mbe_pattern.specs.Placed as placed
use Rattle.mbe_pattern.specs.Units.{front_leaves}

-- the pattern of which this part was read at the front of the trees, and which goes on with the others
abbrev pub begun_with : Forest → First → (others : Placed) → Placed
begun_with trees first.End others = placed.nothing
begun_with trees (first.Variable at it) others = placed.variable at it others
begun_with trees (first.Wrong why it) others = placed.wrong why it others
begun_with trees (first.Token count) others = placed.token (front_leaves count trees) others
begun_with trees (first.Subtree kind inner until) others = placed.subtree kind (placed_until until (rest_of inner)) others
begun_with trees (first.Repetition at inner until tail) others =
    placed.repetition at (placed_until until (rest_of inner)) tail.separator.items tail.kind others

-- the pattern of the trees begins with the part that was read, and goes on with that of the rest
abbrev pub IsFirst : (until : ℕ) → (trees : Forest) → First → (rest : Forest) → Type 0
IsFirst until trees first rest = placed_until until trees ≡ begun_with trees first (placed_until until rest)

-- how many tokens a part holds, if there is a part
abbrev pub held_in : First → Option ℕ
held_in first.End = None
held_in (first.Variable at it) = Some 0
held_in (first.Wrong why it) = Some 0
held_in (first.Token count) = Some 0
held_in (first.Subtree kind inner until) = Some (size (rest_of inner))
held_in (first.Repetition at inner until tail) = Some (size (rest_of inner))

-- what is left of a subtree or a repetition, the repetition, and whether all of it so far may take no tree
pub record LevelLeft : Type 0 where
  pub rest : Placed
  pub closing : Option Opened
  pub is_open : Bool

abbrev pub level_left : Level → LevelLeft
level_left level = record { rest = placed_until level.until (rest_of level.rest); closing = level.closing; is_open = level.is_open }

-- the levels that are left, the innermost first
abbrev pub levels_left : List Level → List LevelLeft
levels_left levels = map level_left (reverse levels)

-- the names so far, the first fault so far, and the levels that are left
pub record State : Type 0 where
  pub names : List (List ℕ)
  pub fault : Option PatternError
  pub levels : List LevelLeft

abbrev pub state_of : Validation → State
state_of validated = record { names = validated.names.keys; fault = validated.fault; levels = levels_left validated.levels.items }

-- the fault at the end of a level: the repetition, if it may take no tree and no fault was found before it began
abbrev pub fault_at_end : Option Opened → (is_empty : Bool) → Option PatternError → Option PatternError
fault_at_end None is_empty fault = fault
fault_at_end (Some it) is_empty fault = if it.is_sound then or_else (empty_fault it.at is_empty) fault else fault

-- whether all of the level around it may then take no tree
abbrev pub is_open_behind : Option Opened → (is_empty : Bool) → (is_open : Bool) → Bool
is_open_behind None is_empty is_open = is_open
is_open_behind (Some it) is_empty is_open = is_open && (may_be_none it.kind || is_empty)

-- a level of this, and the level after a required part
abbrev pub level_of : Placed → Option Opened → (is_open : Bool) → LevelLeft
level_of rest closing is_open = record { rest = rest; closing = closing; is_open = is_open }

abbrev pub full : LevelLeft → LevelLeft
full level = level_of level.rest level.closing false

-- the levels around one that is at its end
abbrev pub levels_behind : Option Opened → (is_empty : Bool) → List LevelLeft → List LevelLeft
levels_behind closing is_empty [] = []
levels_behind closing is_empty (next ∷ outer) = level_of next.rest next.closing (is_open_behind closing is_empty next.is_open) ∷ outer

-- the level after a variable of that fragment
abbrev pub taken : Fragment → LevelLeft → LevelLeft
taken which level = level_of level.rest level.closing (level.is_open && may_take_none which)

-- a level is at its end
abbrev pub ended : LevelLeft → State → State
ended level state =
    record { names = state.names; fault = fault_at_end level.closing level.is_open state.fault; levels = levels_behind level.closing level.is_open state.levels }

-- one level more
abbrev pub with_level : LevelLeft → State → State
with_level level state = record { names = state.names; fault = state.fault; levels = level ∷ state.levels }

-- one more fault, if there is one; it counts if none was found before
abbrev pub with_fault : Option PatternError → State → State
with_fault fault state = record { names = state.names; fault = or_else state.fault fault; levels = state.levels }

-- one more name
abbrev pub with_name : (at : ℕ) → List ℕ → State → State
with_name at name state =
    record { names = names_with name state.names; fault = or_else state.fault (name_fault at name state.names); levels = state.levels }

-- a repetition that begins, given the fault before it
abbrev pub opened_with : (at : ℕ) → RepeatKind → (fault : Option PatternError) → Opened
opened_with at kind fault = record { at = at; kind = kind; is_sound = not (is_some fault) }

-- what a repetition holds, and the level around it
abbrev pub begun : (at : ℕ) → RepeatKind → (held : Placed) → LevelLeft → State → State
begun at kind held level state = with_level (level_of held (Some (opened_with at kind state.fault)) true) (with_level level state)

-- the state after a part of a level, given what is left of the level
abbrev pub stepped : First → LevelLeft → State → State
stepped first.End level state = ended level state
stepped (first.Variable at it) level state = with_level (taken it.fragment level) (with_name at it.name state)
stepped (first.Wrong why it) level state = with_level (full level) (with_fault (Some why) state)
stepped (first.Token count) level state = with_level (full level) state
stepped (first.Subtree kind inner until) level state = with_level (level_of (placed_until until (rest_of inner)) None true) (with_level (full level) state)
stepped (first.Repetition at inner until tail) level state =
    begun at tail.kind (placed_until until (rest_of inner)) level (with_fault (separator_fault at tail.separator.items tail.kind) state)
