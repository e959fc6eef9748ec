-- The answer of the arms that are left is the answer of all arms.
use Rattle.std.proofs.Common.{◌-◌, ◌≤◌, List, drop, length}
use Rattle.tt.specs.Iters.{rest_of}
use Rattle.mbe_rules.specs.declared.rules_error.ExpandError.{ExpandError}
use Rattle.mbe_rules.specs.declared.macro_rules.Expansion.{Expansion}
use Rattle.mbe_rules.specs.Arms.{Arm}
use Rattle.mbe_rules.specs.Expansions.{AreMade, IsExpansion, IsExpandErrorWithin}
use Rattle.mbe_rules.proofs.macro_rules.MacroRules.expand_with.Given as goal

abbrev pub invariant-loop-arm : goal.invariant-loop-arm
invariant-loop-arm l =
    record {
      few : l.number ≤ length l.self.arms.items;
      answers :
          (arms : List Arm) → AreMade arms l.self.arms.items → (result : Expansion)
          → IsExpansion (drop l.number arms) l.number l.farthest (rest_of l.input) result → IsExpansion arms 0 0 (rest_of l.input) result;
      refuses :
          (arms : List Arm) → AreMade arms l.self.arms.items → (error : ExpandError)
          → IsExpandErrorWithin l.limit (drop l.number arms) l.number (rest_of l.input) error → IsExpandErrorWithin l.limit arms 0 (rest_of l.input) error;
    }

abbrev pub decreases-loop-arm : goal.decreases-loop-arm
decreases-loop-arm l = length l.self.arms.items - l.number
