use Rattle.std.proofs.Common.{◌+◌, ◌≤◌, ◌++◌, length, ap, ◌∙◌, arith}
use Rattle.tt_codec.specs.Overwriting.{overwritten}
use Rattle.tt_codec.specs.SpanNumbers.{word}
use Rattle.tt_codec.proofs.Overwriting.{overwritten_twice}
use Rattle.tt_codec.proofs.span.SpanNumbers.overwrite.Goals as goal

pub returns : goal.returns
returns c =
    let offset = c.args.offset in
    let old = c.args.bytes.now in
    let words = c.heavy_words-first.result in
    let inside : offset ≤ length old = omega (arith, c.requires.room) in
    c.overwrite_word-3.ensures
    ∙ ap (overwritten (offset + 8) (word words.2))
    (c.overwrite_word-2.ensures
    ∙ ap (overwritten (offset + 4) (word words.1)) c.overwrite_word.ensures
    ∙ overwritten_twice offset (word words.0) (word words.1) old inside)
    ∙ overwritten_twice offset (word words.0 ++ word words.1) (word words.2) old inside
    ∙ ap (λ new. overwritten offset new old) c.heavy_words-first.ensures
