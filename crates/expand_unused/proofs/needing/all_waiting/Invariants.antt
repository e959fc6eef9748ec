-- All parts so far that may go wait.
use Rattle.std.proofs.Common.{map, take}
use Rattle.expand_unused.specs.Parts.{part_of}
use Rattle.expand_unused.specs.Waiting.{waiting_in, IsWaiting}
use Rattle.expand_unused.proofs.needing.all_waiting.Given as goal

abbrev pub invariant-loop-part : goal.invariant-loop-part
invariant-loop-part l = IsWaiting (map part_of (take l.part-index l.parts)) (waiting_in l.waiting)
