-- The cuts that are left fit, and the text with all of them is the wanted text.
use Rattle.std.proofs.Common.{◌≡◌, map, drop}
use Rattle.expand_unused.specs.Parts.{part_of}
use Rattle.expand_unused.specs.Without.{cuts}
use Rattle.expand_unused.specs.Waiting.{waits_in}
use Rattle.syntax_edit.specs.Texts.{begun, writing_of, with_all, FitAll}
use Rattle.expand_unused.proofs.cutting.without.Given as goal

abbrev pub invariant-loop-part : goal.invariant-loop-part
invariant-loop-part l =
    record {
      fits : FitAll (cuts (waits_in l.unneeded) (map part_of (drop l.part-index l.parts))) (writing_of l.output);
      text : with_all (cuts (waits_in l.unneeded) (map part_of (drop l.part-index l.parts))) (writing_of l.output)
          ≡ with_all (cuts (waits_in l.unneeded) (map part_of l.parts)) (begun l.text);
    }
