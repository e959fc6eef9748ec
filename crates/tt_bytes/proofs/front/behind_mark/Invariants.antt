use Rattle.std.proofs.Common.{◌≡◌, ◌≤◌, drop, length}
use Rattle.tt_bytes.specs.Format.{mark}
use Rattle.tt_bytes.specs.Front.{behind_mark}
use Rattle.tt_bytes.proofs.front.behind_mark.Given as goal

abbrev pub invariant-loop-at : goal.invariant-loop-at
invariant-loop-at l =
    record {
      read : behind_mark l.at (drop l.at mark) l.rest ≡ behind_mark 0 mark l.bytes;
      len : length l.rest ≤ length l.bytes;
    }
