-- Any tokens of the rest complete those of the text.
use Rattle.std.proofs.Common.{◌≤◌, ◌+◌, length}
use denote.Shadow.{shadow}
use denote.Text.{Utf8}
use Rattle.app_files.specs.RecursionLimit.{open_in}
use Rattle.app_files.proofs.LimitAhead.{IsAhead}
use Rattle.app_files.proofs.recursion_limit.recursion_limit_of.Given as goal

abbrev pub invariant-loop-rest : goal.invariant-loop-rest
invariant-loop-rest l = shadow (Utf8 l.rest) × record {
  few : open_in l.front + length l.rest ≤ length l.fn.text;
  ahead : IsAhead l.fn.text l.rest l.front;
}

abbrev pub decreases-loop-rest : goal.decreases-loop-rest
decreases-loop-rest l = length l.rest
