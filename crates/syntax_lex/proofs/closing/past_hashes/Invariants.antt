use Rattle.std.proofs.Common.{◌≡◌, ◌+◌, ◌-◌, ◌≤◌, length, drop}
use denote.Text.{Utf8}
use denote.Shadow.{shadow}
use Rattle.std.specs.Str.{chars}
use Rattle.syntax_lex.specs.Closing.{hashes_of}
use Rattle.syntax_lex.proofs.closing.past_hashes.Given as goal

abbrev pub invariant-loop-count : goal.invariant-loop-count
invariant-loop-count l =
    shadow (Utf8 l.rest) × (l.count + hashes_of (chars l.rest) ≡ hashes_of (chars l.fn.text)) × (chars l.rest ≡ drop l.count (chars l.fn.text)) × (l.count ≤ l.most) × (length l.rest ≤ length l.fn.text)

abbrev pub decreases-loop-count : goal.decreases-loop-count
decreases-loop-count l = l.most - l.count
