-- The tokens up to what is left are blank.
use Rattle.std.proofs.Common.{◌≤◌, length}
use denote.Text.{Utf8}
use denote.Shadow.{shadow}
use Rattle.syntax_layout.proofs.Ahead.{IsGapAhead}
use Rattle.syntax_layout.proofs.gap.is_gap.Given as goal

abbrev pub invariant-loop-rest : goal.invariant-loop-rest
invariant-loop-rest l = shadow (Utf8 l.rest) × record {
  within : length l.rest ≤ length l.fn.text;
  ahead : IsGapAhead l.fn.text l.rest l.ends_in_line;
}

abbrev pub decreases-loop-rest : goal.decreases-loop-rest
decreases-loop-rest l = length l.rest
