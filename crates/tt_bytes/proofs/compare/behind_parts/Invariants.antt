use Rattle.std.proofs.Common.{List, ℕ, Option, drop}
use Rattle.std.specs.Borrow.{Bor}
use Rattle.std.specs.List.{AllByRecursion}
use Rattle.tt_bytes.specs.Behind.{IsBehind}
use Rattle.tt_bytes.specs.Format.{parts_bytes, PartFits}
use Rattle.tt_bytes.proofs.compare.behind_parts.Given as goal

abbrev pub invariant-loop-part : goal.invariant-loop-part
invariant-loop-part l =
    (result : Option (Bor (List ℕ))) → IsBehind (AllByRecursion PartFits (drop l.part-index l.parts)) (parts_bytes (drop l.part-index l.parts)) l.rest result
    → IsBehind (AllByRecursion PartFits l.parts) (parts_bytes l.parts) l.from result
