use Rattle.std.proofs.Common.{◌≡◌, ◌-◌, ◌+◌, arith, subst}
use Rattle.std.proofs.lemmas.Str.{IsCharBoundary-after_ascii}
use Rattle.std.specs.Str.{IsCharBoundary}
use Rattle.syntax_edit.proofs.lines.last_begin.Goals as goal

-- A character of ASCII precedes the beginning.
pub returns-then-byte-eq10-clause-boundary : goal.returns-then-byte-eq10-clause-boundary
returns-then-byte-eq10-clause-boundary c =
    let begin = c.loop-begin.begin in
    let some : (begin - 1) + 1 ≡ begin = grind (arith, c.loop-begin-test.true) in
    let (within, begins) = subst (IsCharBoundary c.args.text.now) some
    (IsCharBoundary-after_ascii c.args.text.now (begin - 1) c.utf8.text
    (grind (arith, c.loop-begin-test.true, c.loop-begin.invariant))
    (grind (arith, c.if-byte-eq10.true, c.as_bytes-bytes.ensures.value))) in
    (within, λ some. begins)
