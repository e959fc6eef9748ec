-- The parts so far, and those to come.
use Rattle.std.proofs.Common.{◌≡◌, ◌++◌, map, drop}
use Rattle.mbe_rules.specs.Waiting.{in_arm}
use Rattle.mbe_rules.proofs.macro_rules.add_parts.Given as goal

abbrev pub invariant-loop-part : goal.invariant-loop-part
invariant-loop-part l = l.all.items ++ map (in_arm l.arm) (drop l.part-index l.parts) ≡ l.fn.all.items ++ map (in_arm l.arm) l.parts
