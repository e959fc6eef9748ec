-- What may be written of the rest completes what may be written of the text.
use Rattle.std.proofs.Common.{length}
use Rattle.std.specs.Prelude.{string_bytes}
use denote.Text.{Utf8}
use denote.Shadow.{shadow}
use Rattle.syntax_layout.proofs.WrittenAhead.{IsWrittenAhead}
use Rattle.syntax_layout.proofs.documenting.documented.Given as goal

abbrev pub invariant-loop-rest : goal.invariant-loop-rest
invariant-loop-rest l = shadow (Utf8 l.kept) × shadow (Utf8 l.rest) × IsWrittenAhead l.fn.text l.begins (string_bytes l.written) l.kept l.rest

abbrev pub decreases-loop-rest : goal.decreases-loop-rest
decreases-loop-rest l = length l.rest
