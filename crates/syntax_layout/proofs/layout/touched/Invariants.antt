-- What is touched for sure of what is left is what is touched of the text.
use Rattle.std.proofs.Common.{◌≤◌, length}
use denote.Text.{Utf8}
use denote.Shadow.{shadow}
use Rattle.syntax_layout.proofs.Ahead.{IsTouchAhead}
use Rattle.syntax_layout.proofs.layout.touched.Given as goal

abbrev pub invariant-loop-rest : goal.invariant-loop-rest
invariant-loop-rest l = shadow (Utf8 l.rest) × record {
  within : length l.rest ≤ length l.fn.text;
  ahead : IsTouchAhead l.fn.kind l.fn.before l.fn.gap l.fn.text l.touching l.rest;
}

abbrev pub decreases-loop-rest : goal.decreases-loop-rest
decreases-loop-rest l = length l.rest
