-- No part so far is the one that is looked for.
use Rattle.std.proofs.Common.{◌≡◌, false, take}
use Rattle.std.specs.List.{list_any}
use Rattle.tt_tables.specs.Uses.{same_part}
use Rattle.tt_pack.proofs.few.find_part.Given as goal

abbrev pub invariant-loop-index : goal.invariant-loop-index
invariant-loop-index l = list_any (λ other. same_part other l.part) (take l.index l.parts) ≡ false
