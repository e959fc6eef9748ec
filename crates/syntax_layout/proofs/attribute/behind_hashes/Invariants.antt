-- So many hashes were passed.
use Rattle.std.proofs.Common.{◌≡◌, ◌++◌, replicate}
use denote.Text.{Utf8}
use denote.Shadow.{shadow}
use Rattle.syntax_layout.proofs.attribute.behind_hashes.Given as goal

abbrev pub invariant-loop-number : goal.invariant-loop-number
invariant-loop-number l = shadow (Utf8 l.rest) × (l.fn.text ≡ replicate l._number 35 ++ l.rest)
