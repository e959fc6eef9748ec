use Rattle.std.proofs.Common.{take}
use Rattle.app_language.specs.Reading.{Lacks}
use Rattle.app_language.proofs.command.word.first_word.Given as goal

abbrev pub invariant-loop-i : goal.invariant-loop-i
invariant-loop-i l = Lacks 32 (take l.i l.text)
