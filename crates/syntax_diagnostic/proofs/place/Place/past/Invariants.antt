-- The bytes passed and the bytes to come are all bytes, and each number grows by at most one for each byte passed.
use Rattle.std.proofs.Common.{◌≡◌, ◌+◌, ◌≤◌, drop}
use Rattle.std.specs.List.{fold}
use Rattle.syntax_diagnostic.specs.Place.{next_place}
use Rattle.syntax_diagnostic.proofs.place.Place.past.Given as goal

abbrev pub invariant-loop-byte : goal.invariant-loop-byte
invariant-loop-byte l =
    (fold next_place l.place (drop l.byte-index l.fn.bytes) ≡ fold next_place l.fn.self l.fn.bytes)
    × (l.place.line ≤ l.fn.self.line + l.byte-index) × (l.place.column ≤ l.fn.self.column + l.byte-index)
