use Rattle.std.proofs.Common.{◌≡◌, List, ◌++◌, All, map, length}
use Rattle.app_language.specs.Reading.{spaced}
use Rattle.app_language.proofs.command.part.ManyPart.read.Given as goal

abbrev pub invariant-loop-rest : goal.invariant-loop-rest
invariant-loop-rest g l = record {
  read : l.text ≡ spaced (map g.W.Word.spelling l.items.items) ++ l.rest;
  fits : All g.W.Word.fits l.items.items;
  goes_on : (all : List _) → All g.W.Word.fits all → l.text ≡ spaced (map g.W.Word.spelling all)
      → (more : List _) × All g.W.Word.fits more × (l.rest ≡ spaced (map g.W.Word.spelling more));
}

abbrev pub decreases-loop-rest : goal.decreases-loop-rest
decreases-loop-rest g l = length l.rest
