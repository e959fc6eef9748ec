-- What was written, and what is written of the rest, is what is written of the text.
use Rattle.std.proofs.Common.{◌≡◌, ◌+◌, ◌<◌, ◌≤◌, false, length, map}
use Rattle.std.specs.Prelude.{string_bytes}
use denote.Text.{Utf8}
use denote.Shadow.{shadow}
use Rattle.syntax_layout.proofs.Ahead.{IsLayoutAhead}
use Rattle.syntax_layout.proofs.layout.laid_out.Given as goal

abbrev pub invariant-loop-rest : goal.invariant-loop-rest
invariant-loop-rest l = shadow (Utf8 l.rest) × record {
  within : l.used + length l.rest ≤ length l.fn.text;
  shorter : length l.last.text.now ≤ length l.fn.text;
  some : l.last.is_none ≡ false → 0 < length l.last.text.now;
  ahead : IsLayoutAhead l.fn.text (map (λ g. g.now) l.fn.gaps) (string_bytes l.laid) l.last.is_none l.last.touches l.last.kind l.last.text.now l.used l.rest;
}

abbrev pub decreases-loop-rest : goal.decreases-loop-rest
decreases-loop-rest l = length l.rest
