use Rattle.std.proofs.Common.{◌≡◌, ◌≤◌, ◌-◌, length}
use Rattle.tt_bytes.proofs.Reading.{before}
use Rattle.tt_bytes.specs.Front.{texts_from}
use Rattle.tt_bytes.proofs.front.split_symbols.Given as goal

abbrev pub invariant-loop : goal.invariant-loop
invariant-loop l =
    record {
      read : before l.symbols.items (texts_from l.all (l.count - l.counter) l.rest) ≡ texts_from l.all l.count l.from;
      len : length l.rest ≤ length l.from;
    }
