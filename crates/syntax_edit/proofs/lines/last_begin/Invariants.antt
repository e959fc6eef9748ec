use Rattle.std.proofs.Common.{◌≡◌, ◌≤◌, take, length}
use Rattle.syntax_edit.specs.Lines.{before_line}
use Rattle.syntax_edit.proofs.lines.last_begin.Given as goal

abbrev pub invariant-loop-begin : goal.invariant-loop-begin
invariant-loop-begin l = (l.begin ≤ length l.text) × (before_line l.is_first l.text ≡ before_line l.is_first (take l.begin l.text))

abbrev pub decreases-loop-begin : goal.decreases-loop-begin
decreases-loop-begin l = l.begin
