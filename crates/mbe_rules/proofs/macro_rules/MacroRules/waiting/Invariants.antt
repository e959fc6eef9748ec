-- The parts so far and those of the arms that are left are the parts of all arms.
use Rattle.std.proofs.Common.{◌-◌, ◌≤◌, ◌++◌, List, drop, length}
use Rattle.tt.specs.Iters.{rest_of}
use Rattle.mbe_rules.specs.declared.macro_rules.ArmPart.{ArmPart}
use Rattle.mbe_rules.specs.Arms.{Arm}
use Rattle.mbe_rules.specs.Expansions.{AreMade}
use Rattle.mbe_rules.specs.Waiting.{AreWaitingIn}
use Rattle.mbe_rules.proofs.macro_rules.MacroRules.waiting.Given as goal

abbrev pub invariant-loop-arm : goal.invariant-loop-arm
invariant-loop-arm l =
    record {
      few : l.number ≤ length l.self.arms.items;
      parts :
          (arms : List Arm) → AreMade arms l.self.arms.items → (more : List ArmPart)
          → AreWaitingIn (drop l.number arms) l.number (rest_of l.input) l.at more → AreWaitingIn arms 0 (rest_of l.input) l.at (l.all.items ++ more);
    }

abbrev pub decreases-loop-arm : goal.decreases-loop-arm
decreases-loop-arm l = length l.self.arms.items - l.number
