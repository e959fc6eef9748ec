use Rattle.std.proofs.Common.{◌≡◌, ◌-◌, drop, length}
use Rattle.syntax_edit.specs.Lines.{behind_line}
use Rattle.syntax_edit.proofs.lines.first_end.Given as goal

abbrev pub invariant-loop-end : goal.invariant-loop-end
invariant-loop-end l = behind_line l.is_last l.text ≡ behind_line l.is_last (drop l.end l.text)

abbrev pub decreases-loop-end : goal.decreases-loop-end
decreases-loop-end l = length l.bytes - l.end
