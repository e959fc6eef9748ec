use Rattle.std.proofs.Common.{arith}
use Rattle.std.proofs.lemmas.Str.{IsCharBoundary-after_ascii}
use Rattle.syntax_edit.proofs.lines.first_end.Goals as goal

-- A character of ASCII precedes the end.
pub returns-then-byte-eq10-clause-boundary : goal.returns-then-byte-eq10-clause-boundary
returns-then-byte-eq10-clause-boundary c =
    IsCharBoundary-after_ascii c.args.text.now c.loop-end.end c.utf8.text
    (grind (arith, c.loop-end-test.true, c.as_bytes-bytes.ensures.value))
    (grind (arith, c.if-byte-eq10.true, c.as_bytes-bytes.ensures.value))
