-- The faults so far and those of the arms that are left are the faults of all arms.
use Rattle.std.proofs.Common.{◌≡◌, ◌-◌, ◌≤◌, ◌++◌, List, drop, length}
use Rattle.mbe_rules.specs.Arms.{Arm}
use Rattle.mbe_rules.specs.Expansions.{AreMade}
use Rattle.mbe_rules.specs.Faults.{faults_of}
use Rattle.mbe_rules.proofs.macro_rules.MacroRules.faults.Given as goal

abbrev pub invariant-loop-arm : goal.invariant-loop-arm
invariant-loop-arm l =
    record {
      few : l.number ≤ length l.self.arms.items;
      faults : (arms : List Arm) → AreMade arms l.self.arms.items → l.faults.items ++ faults_of (drop l.number arms) l.number ≡ faults_of arms 0;
    }

abbrev pub decreases-loop-arm : goal.decreases-loop-arm
decreases-loop-arm l = length l.self.arms.items - l.number
