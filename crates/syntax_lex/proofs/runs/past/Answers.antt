use Rattle.std.proofs.Common.{◌≡◌, ◌+◌, ◌<◌, [], length, drop, sym, ap, ◌∙◌, arith}
use Rattle.std.proofs.lemmas.List.{nil_from_length, length-drop}
use Rattle.std.proofs.lemmas.Str.{IsCharBoundary-from_drop, chars-nil}
use Rattle.std.specs.Prelude.{slice_index}
use Rattle.std.specs.Str.{chars}
use Rattle.syntax_lex.specs.Class.{passes}
use Rattle.syntax_lex.specs.Front.{behind}
use Rattle.syntax_lex.proofs.ByteFacts.{ascii_step, behind_no, behind_yes}
use Rattle.syntax_lex.proofs.runs.past.Goals as goal

pub range_from-requires : goal.range_from-requires
range_from-requires c = λ _. IsCharBoundary-from_drop c.args.text.now c.loop-at.at c.loop-at.invariant.0 c.loop-at.invariant.1

pub returns-then-not-passes-clause-rest : goal.returns-then-not-passes-clause-rest
returns-then-not-passes-clause-rest c =
    let text = c.args.text.now in
    let at = c.loop-at.at in
    let byte = ap (λ bs. slice_index bs at) c.as_bytes-bytes.ensures.value in
    let step = ascii_step text at c.loop-at.invariant.1 (omega (arith, c.loop-at-test.true, c.as_bytes-bytes.ensures.len)) (omega (arith, byte, c.if-byte-ge128.false)) in
    let other = ap (passes c.args.class) (sym byte) ∙ sym c.if-not-passes.ensures in
    ap chars c.range_from-then-not-passes.ensures.value
    ∙ sym (behind_no (passes c.args.class) (slice_index text at) (chars (drop (at + 1) text)) (chars (drop at text)) step.1 other)
    ∙ c.loop-at.invariant.2

pub loop-at-preserved : goal.loop-at-preserved
loop-at-preserved c =
    let text = c.args.text.now in
    let at = c.loop-at.at in
    let byte = ap (λ bs. slice_index bs at) c.as_bytes-bytes.ensures.value in
    let within : at < length text = omega (arith, c.loop-at-test.true, c.as_bytes-bytes.ensures.len) in
    let step = ascii_step text at c.loop-at.invariant.1 within (omega (arith, byte, c.if-byte-ge128.false)) in
    let same = ap (passes c.args.class) (sym byte) ∙ sym c.if-not-passes.ensures in (
      omega (arith, within),
      step.0,
      behind_yes (passes c.args.class) (slice_index text at) (chars (drop (at + 1) text)) (chars (drop at text)) step.1 same ∙ c.loop-at.invariant.2,
    )

pub returns-clause-rest : goal.returns-clause-rest
returns-clause-rest c =
    let text = c.args.text.now in
    let at = c.loop-at.at in
    let none : drop at text ≡ [] = nil_from_length (drop at text) (length-drop at text ∙ omega (arith, c.loop-at-test.false, c.as_bytes-bytes.ensures.len)) in
    chars-nil ∙ sym (ap (λ bs. behind (passes c.args.class) (chars bs)) none ∙ ap (behind (passes c.args.class)) chars-nil) ∙ c.loop-at.invariant.2
