use Rattle.std.proofs.Common.{◌≡◌, ◌+◌, ◌≤◌, length}
use denote.Text.{Utf8}
use denote.Shadow.{shadow}
use Rattle.std.specs.Str.{chars}
use Rattle.syntax_lex.specs.Closing.{behind_comment}
use Rattle.syntax_lex.proofs.closing.past_comment.Given as goal

abbrev pub invariant-loop-c : goal.invariant-loop-c
invariant-loop-c l =
    shadow (Utf8 l.rest) × (behind_comment l.inner (chars l.rest) ≡ behind_comment 0 (chars l.fn.text)) × (l.inner + length l.rest ≤ length l.fn.text)

abbrev pub decreases-loop-c : goal.decreases-loop-c
decreases-loop-c l = length l.rest
