use Rattle.std.proofs.Common.{◌≡◌, drop}
use Rattle.syntax_diagnostic.specs.Diagnostic.{widest}
use Rattle.syntax_diagnostic.proofs.diagnostic.widest.Given as goal

abbrev pub invariant-loop-note : goal.invariant-loop-note
invariant-loop-note l = widest l.longest (drop l.note-index l.notes) ≡ widest l.width l.notes
