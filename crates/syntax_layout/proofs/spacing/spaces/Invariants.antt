-- The gaps so far, and those of the rest, are those of the text.
use Rattle.std.proofs.Common.{◌≤◌, length, map}
use denote.Text.{Utf8}
use denote.Shadow.{shadow}
use Rattle.syntax_layout.proofs.SpaceGaps.{AreSpacesAhead}
use Rattle.syntax_layout.proofs.spacing.spaces.Given as goal

abbrev pub invariant-loop-rest : goal.invariant-loop-rest
invariant-loop-rest l = shadow (Utf8 l.rest) × record {
  within : length l.rest ≤ length l.fn.text;
  ahead : AreSpacesAhead l.fn.text (map (λ g. g.now) l.gaps.items) l.passed l.touching l.rest;
}

abbrev pub decreases-loop-rest : goal.decreases-loop-rest
decreases-loop-rest l = length l.rest
