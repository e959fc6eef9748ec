-- What may come first in the open levels of a pattern, by its pieces from the last to the first.
use Rattle.std.specs.Prelude.{◌&&◌, ◌||◌, Bool, true, false, List, [], ◌∷◌, ◌++◌, map, reverse, Option, None, option_to_list, if◌then◌else◌}
use Rattle.mbe_pattern.specs.declared.pattern.RepeatKind.{RepeatKind}
use Rattle.mbe_pattern.specs.Patterns.{may_be_none}
use Rattle.mbe_follow.specs.declared.judge.FollowFault.{FollowFault}
use Rattle.mbe_follow.specs.declared.judge.Judge as rust
use Rattle.mbe_follow.specs.declared.judge.Reach as rust_reach
use Rattle.mbe_follow.specs.declared.layout.Piece.{Piece}
use Rattle.mbe_follow.specs.declared.layout.Piece.TheVariants as piece
use Rattle.mbe_follow.specs.declared.next.Next.{Next}
use Rattle.mbe_follow.specs.Following.{variable_next, first_refused, fault_with}

-- what may come first in the rest of a level; whether the end of the level may come first, and the separator there
pub record Reach : Type 0 where
  pub firsts : List Next
  pub is_open : Bool
  pub separator : Option Next

-- what may come next, given what comes behind the level
abbrev pub before : Reach → (behind : List Next) → List Next
before level behind = level.firsts ++ (if level.is_open then option_to_list level.separator ++ behind else [])

-- what may come next, given the levels, the innermost first
abbrev pub all_before : List Reach → List Next
all_before [] = []
all_before (level ∷ outer) = before level (all_before outer)

-- the faults, the innermost level, and the others, the innermost first
pub record Judged : Type 0 where
  pub faults : List FollowFault
  pub level : Reach
  pub outer : List Reach

abbrev pub judged : List FollowFault → Reach → List Reach → Judged
judged faults level outer = record { faults = faults; level = level; outer = outer }

-- a level at its end
abbrev pub ending : (is_open : Bool) → (separator : Option Next) → Reach
ending is_open separator = record { firsts = []; is_open = is_open; separator = separator }

-- the level before a part that is always there
abbrev pub required : Next → Reach → Reach
required next level = record { firsts = next ∷ []; is_open = false; separator = level.separator }

-- the level before a repetition of that kind, given what may come first in it
abbrev pub around : RepeatKind → (inner : Reach) → Reach → Reach
around kind inner level =
    record {
      firsts = inner.firsts ++ (if inner.is_open then option_to_list inner.separator else []) ++ (if may_be_none kind || inner.is_open then level.firsts else []);
      is_open = (may_be_none kind || inner.is_open) && level.is_open;
      separator = level.separator;
    }

-- the beginning of a repetition, and of a subtree
abbrev pub begun : RepeatKind → List FollowFault → Reach → List Reach → Judged
begun kind faults inner [] = judged faults inner []
begun kind faults inner (level ∷ outer) = judged faults (around kind inner level) outer

abbrev pub entered : Next → List FollowFault → Reach → List Reach → Judged
entered next faults inner [] = judged faults inner []
entered next faults inner (level ∷ outer) = judged faults (required next level) outer

-- one more piece; the pieces come from the last to the first
abbrev pub judged_with : Piece → Judged → Judged
judged_with (piece.Variable number which) it =
    judged (fault_with number which (first_refused which (all_before (it.level ∷ it.outer))) ++ it.faults) (required (variable_next number which) it.level) it.outer
judged_with (piece.Token next) it = judged it.faults (required next it.level) it.outer
judged_with (piece.Enter next) it = entered next it.faults it.level it.outer
judged_with piece.Leave it = judged it.faults (ending false None) (it.level ∷ it.outer)
judged_with (piece.Begin kind) it = begun kind it.faults it.level it.outer
judged_with (piece.Close separator) it = judged it.faults (ending true separator) (it.level ∷ it.outer)

-- no piece was judged
abbrev pub nothing_judged : Judged
nothing_judged = judged [] (ending false None) []

-- all pieces
abbrev pub judged_of : List Piece → Judged
judged_of [] = nothing_judged
judged_of (it ∷ others) = judged_with it (judged_of others)

-- what the code keeps
abbrev pub reach_of : rust_reach.Reach → Reach
reach_of level = record { firsts = level.firsts.items; is_open = level.is_open; separator = level.separator }

abbrev pub judged_by : rust.Judge → Judged
judged_by it = judged (reverse it.faults.items) (reach_of it.level) (map reach_of (reverse it.outer.items))
