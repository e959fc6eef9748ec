-- As many # are written as turns are done.
use Rattle.std.specs.Fmt.{HasWritten, IsPlainFormatter}
use Rattle.tt_base.specs.LeafText.{hashes}
use Rattle.tt_base.proofs.literal_text.HashesDisplay.fmt.Given as goal

abbrev pub invariant-loop : goal.invariant-loop
invariant-loop g l = IsPlainFormatter l.initial.f → HasWritten g.W.Write.write_str_gives l.initial.f (hashes l.counter) l.f
