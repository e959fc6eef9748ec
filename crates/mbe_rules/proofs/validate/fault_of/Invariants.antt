-- The parts that are passed, from the last, are judged.
use Rattle.std.proofs.Common.{◌≡◌, ◌≤◌, drop, length, map}
use Rattle.mbe_matcher.specs.Binders.{where_of}
use Rattle.mbe_rules.specs.Validating.{validated_by, validated_of}
use Rattle.mbe_rules.specs.Parts.{bit_of}
use Rattle.mbe_rules.proofs.validate.fault_of.Given as goal

abbrev pub invariant-loop-left : goal.invariant-loop-left
invariant-loop-left l =
    record {
      few : l.left ≤ length l.parts;
      made : validated_by l.validated ≡ validated_of (map where_of l.binders) (map bit_of (drop l.left l.parts));
    }

abbrev pub decreases-loop-left : goal.decreases-loop-left
decreases-loop-left l = l.left
