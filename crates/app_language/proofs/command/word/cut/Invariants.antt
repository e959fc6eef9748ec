use Rattle.std.proofs.Common.{take}
use Rattle.app_language.specs.Reading.{Lacks}
use Rattle.app_language.proofs.command.word.cut.Given as goal

abbrev pub invariant-loop-i : goal.invariant-loop-i
invariant-loop-i l = Lacks l.byte (take l.i l.text)
