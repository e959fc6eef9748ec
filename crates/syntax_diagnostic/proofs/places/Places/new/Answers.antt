use Rattle.std.proofs.Common.{◌≡◌, ◌+◌, ◌-◌, ◌*◌, drop, sym, ap, ◌∙◌, arith}
use Rattle.std.proofs.lemmas.List.{length-take}
use Rattle.std.proofs.lemmas.List.FromFn.{map-range_with_len_more}
use Rattle.syntax_diagnostic.proofs.PlaceFacts.{line_small, column_small, next_mark}
use Rattle.syntax_diagnostic.specs.Marks.{mark}
use Rattle.syntax_diagnostic.proofs.places.Places.new.Goals as goal

pub past-place-requires-clause-line : goal.past-place-requires-clause-line
past-place-requires-clause-line c =
    let small = line_small c.args.text.now (c.loop-block.block * 64) in
    let same = ap (λ place. place.line) c.loop-block.invariant.0 in
    omega (arith, small, same, c.loop-block-test.true, c.as_bytes-bytes.ensures.len, length-take (c.loop-block.block * 64 + 64 - c.loop-block.block * 64) (drop (c.loop-block.block * 64) c.as_bytes-bytes.result.now))

pub past-place-requires-clause-column : goal.past-place-requires-clause-column
past-place-requires-clause-column c =
    let small = column_small c.args.text.now (c.loop-block.block * 64) in
    let same = ap (λ place. place.column) c.loop-block.invariant.0 in
    omega (arith, small, same, c.loop-block-test.true, c.as_bytes-bytes.ensures.len, length-take (c.loop-block.block * 64 + 64 - c.loop-block.block * 64) (drop (c.loop-block.block * 64) c.as_bytes-bytes.result.now))

pub loop-block-preserved : goal.loop-block-preserved
loop-block-preserved c =
    let text = c.args.text.now in
    let block = c.loop-block.block in
    let next : c.past-place.result ≡ mark text (block + 1) = c.past-place.ensures ∙ rw (c.loop-block.invariant.0, c.as_bytes-bytes.ensures.value) (next_mark text block) in
    (next, rw (c.in_ok-push-2.ensures.items, c.loop-block.invariant.1, next) (sym (map-range_with_len_more (mark text) 0 (block + 1) (block + 1) (omega arith))))
