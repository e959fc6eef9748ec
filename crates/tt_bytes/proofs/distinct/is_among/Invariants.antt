-- The value is among all exactly if it was found or is among those to come.
use Rattle.std.proofs.Common.{◌≡◌, ◌||◌, drop}
use Rattle.std.specs.List.{list_any}
use Rattle.tt_bytes.proofs.distinct.is_among.Given as goal

abbrev pub invariant-loop-other : goal.invariant-loop-other
invariant-loop-other g l =
    (l.found || list_any (λ other. g.T.PartialEq.eq other l.value) (drop l.other-index l.others)) ≡ list_any (λ other. g.T.PartialEq.eq other l.value) l.others
