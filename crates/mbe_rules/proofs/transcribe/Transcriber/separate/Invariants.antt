-- The leaves that are passed are written.
use Rattle.std.proofs.Common.{take}
use Rattle.tt.specs.Siblings.{leaves}
use Rattle.mbe_rules.specs.Filling.{Grows}
use Rattle.mbe_rules.proofs.transcribe.Transcriber.separate.Given as goal

abbrev pub invariant-loop-leaf : goal.invariant-loop-leaf
invariant-loop-leaf l = Grows (leaves (take l.leaf-index l.separator)) l.fn.self l.self
