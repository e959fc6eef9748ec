use Rattle.std.proofs.Common.{◌≡◌, ◌≤◌, ◌-◌, length}
use Rattle.tt_bytes.proofs.Reading.{before}
use Rattle.tt_bytes.specs.Front.{parts_from}
use Rattle.tt_bytes.proofs.front.split_parts.Given as goal

abbrev pub invariant-loop : goal.invariant-loop
invariant-loop l =
    record {
      read : before l.parts.items (parts_from l.all (l.count - l.counter) l.rest) ≡ parts_from l.all l.count l.from;
      len : length l.rest ≤ length l.from;
    }
