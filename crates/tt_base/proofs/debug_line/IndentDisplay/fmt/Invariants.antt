-- As many levels are written as turns are done.
use Rattle.std.specs.Fmt.{HasWritten, IsPlainFormatter}
use Rattle.tt_base.specs.DebugText.{indent}
use Rattle.tt_base.proofs.debug_line.IndentDisplay.fmt.Given as goal

abbrev pub invariant-loop : goal.invariant-loop
invariant-loop g l = IsPlainFormatter l.initial.f → HasWritten g.W.Write.write_str_gives l.initial.f (indent l.counter) l.f
