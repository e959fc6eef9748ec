-- The words so far, and those to come, are all words.
use Rattle.std.proofs.Common.{◌≡◌, ◌++◌, map, drop}
use Rattle.expand_unused.specs.Parts.{part_of}
use Rattle.expand_unused.specs.Waiting.{words_outside}
use Rattle.expand_unused.proofs.needing.words_outside.Given as goal

abbrev pub invariant-loop-part : goal.invariant-loop-part
invariant-loop-part l = l.words.items ++ words_outside (map part_of (drop l.part-index l.parts)) ≡ words_outside (map part_of l.parts)
