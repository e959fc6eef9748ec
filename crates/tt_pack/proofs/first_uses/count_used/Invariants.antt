-- The numbers so far are counted.
use Rattle.std.proofs.Common.{◌≡◌, ◌≤◌, nat_lt, count_by, take}
use Rattle.tt_pack.proofs.first_uses.count_used.Given as goal

abbrev pub invariant-loop-index : goal.invariant-loop-index
invariant-loop-index l = (l.used ≡ count_by (nat_lt 0) (take l.index l.numbers)) × (l.used ≤ l.index)
