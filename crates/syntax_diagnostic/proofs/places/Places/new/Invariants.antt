-- The place of the block that comes next, and those of all before it.
use Rattle.std.proofs.Common.{◌≡◌, ◌+◌, map}
use Rattle.std.specs.List.{range_with_len}
use Rattle.syntax_diagnostic.specs.Marks.{mark}
use Rattle.syntax_diagnostic.proofs.places.Places.new.Given as goal

abbrev pub invariant-loop-block : goal.invariant-loop-block
invariant-loop-block l = (l.place ≡ mark l.fn.text l.block) × (l.marks.items ≡ map (mark l.fn.text) (range_with_len 0 (l.block + 1)))
