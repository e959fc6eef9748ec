use Rattle.std.proofs.Common.{◌≡◌, ◌-◌, ◌≤◌, length, drop}
use Rattle.std.specs.Str.{chars, IsUtf8}
use Rattle.syntax_lex.specs.Class.{passes}
use Rattle.syntax_lex.specs.Front.{behind}
use Rattle.syntax_lex.proofs.runs.past.Given as goal

-- the rest is a text, and its run ends where that of the whole ends
abbrev pub invariant-loop-at : goal.invariant-loop-at
invariant-loop-at l =
    (l.at ≤ length l.fn.text) × IsUtf8 (drop l.at l.fn.text) × (behind (passes l.class) (chars (drop l.at l.fn.text)) ≡ behind (passes l.class) (chars l.fn.text))

abbrev pub decreases-loop-at : goal.decreases-loop-at
decreases-loop-at l = length l.fn.text - l.at
