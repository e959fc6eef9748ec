-- The arms that are made are those read so far, and a fault of an arm that is left is its fault among all arms.
use Rattle.std.proofs.Common.{◌≡◌, ◌+◌, ℕ, suc, true, List, length, if◌then◌else◌}
use Rattle.tt.specs.Forest.{size}
use Rattle.tt.specs.Iters.{rest_of}
use Rattle.mbe_rules.specs.declared.rules_error.ArmFault.{ArmFault}
use Rattle.mbe_rules.specs.Arms.{Arm}
use Rattle.mbe_rules.specs.Expansions.{AreMade}
use Rattle.mbe_rules.specs.ArmFaults.{IsFaultAt}
use Rattle.mbe_rules.specs.ArmSpelling.{IsReadSoFar}
use Rattle.mbe_rules.proofs.macro_rules.MacroRules.new.Given as goal

abbrev pub invariant-loop-is_more : goal.invariant-loop-is_more
invariant-loop-is_more l =
    record {
      until : l.until ≡ size (rest_of l.fn.arms);
      so_far : List Arm;
      made : AreMade so_far l.made.items;
      spelled : IsReadSoFar l.is_more (rest_of l.fn.arms) so_far (rest_of l.arms);
      faults :
          l.is_more ≡ true → (arm : ℕ) → (fault : ArmFault) → IsFaultAt l.until (rest_of l.arms) arm fault
          → IsFaultAt l.until (rest_of l.fn.arms) (length l.made.items + arm) fault;
    }

abbrev pub decreases-loop-is_more : goal.decreases-loop-is_more
decreases-loop-is_more l = if l.is_more then suc (size (rest_of l.arms)) else 0
