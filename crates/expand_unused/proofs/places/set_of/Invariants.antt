-- The set has the places so far.
use Rattle.std.proofs.Common.{take}
use Rattle.expand_unused.specs.Places.{defined_in, HasPlaces}
use Rattle.expand_unused.proofs.places.set_of.Given as goal

abbrev pub invariant-loop-place : goal.invariant-loop-place
invariant-loop-place l = HasPlaces (take l.place-index l.places) (defined_in l.set)
