-- Only spaces were passed.
use Rattle.std.proofs.Common.{◌≡◌, length}
use denote.Text.{Utf8}
use denote.Shadow.{shadow}
use Rattle.syntax_layout.specs.Documented.{first_line_end}
use Rattle.syntax_layout.proofs.attribute.first_line_end.Given as goal

abbrev pub invariant-loop-more : goal.invariant-loop-more
invariant-loop-more l = shadow (Utf8 l.rest) × (first_line_end l.fn.text ≡ first_line_end l.rest)

abbrev pub decreases-loop-more : goal.decreases-loop-more
decreases-loop-more l = length l.rest
