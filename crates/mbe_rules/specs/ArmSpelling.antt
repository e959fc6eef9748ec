-- How the arms of a macro are read, one after the other.
use Rattle.std.specs.Prelude.{Bool, true, false, List, ◌++◌}
use Rattle.tt.specs.Forest.{Forest}
use Rattle.mbe_rules.specs.Arms.{Arm, Spell}

-- some arms were read; others are left if `is_more`
abbrev pub IsReadSoFar : (is_more : Bool) → (all : Forest) → (so_far : List Arm) → (left : Forest) → Type 0
IsReadSoFar true all so_far left = (more : List Arm) → Spell left more → Spell all (so_far ++ more)
IsReadSoFar false all so_far left = Spell all so_far
