-- The names of the parts so far.
use Rattle.std.proofs.Common.{◌≡◌, List, map, take}
use Rattle.std.specs.Prelude.{string_bytes}
use Rattle.expand_text.specs.Expecting.{parts_named}
use Rattle.expand_text.proofs.expecting.parts_named.Given as goal
use Rattle.mbe_rules.specs.Arms.{Arm}
use Rattle.mbe_rules.specs.Expansions.{AreMade}

abbrev pub invariant-loop-part : goal.invariant-loop-part
invariant-loop-part l = (arms : List Arm) → AreMade arms l.rules.arms.items → map string_bytes l.texts.items ≡ parts_named arms (take l.part-index l.parts)
