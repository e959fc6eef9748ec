use Rattle.std.proofs.Common.{◌≡◌, ◌+◌, ◌*◌, ◌<◌, ◌++◌, ◌∷◌, [], length, set, drop, refl, ap, ◌∙◌, arith}
use Rattle.tt_codec.specs.Kinds.{delimiter_number}
use Rattle.tt_codec.specs.Overwriting.{overwritten}
use Rattle.tt_codec.specs.SpanNumbers.{word, heavy_span, span_bytes}
use Rattle.tt_codec.proofs.Overwriting.{overwritten_next, set_next}
use Rattle.tt_codec.proofs.entry.HeaderEntry.overwrite.Goals as goal

pub returns : goal.returns
unfolding span_bytes
returns c =
    let it = c.args.self in
    let old = c.args.bytes.now in
    let kind = 5 + delimiter_number it.kind * 8 in
    let opening = heavy_span 0 it.opening in
    let closing = heavy_span 0 it.closing in
    let control : c.control.result ≡ kind = c.control.ensures ∙ omega arith in
    let inside : 12 < length old = omega (arith, c.requires.room) in
    let first : set c.overwrite.new.bytes 12 c.control.result ≡ (opening ++ kind ∷ []) ++ drop 13 old =
    ap (λ b. set b 12 c.control.result) c.overwrite.ensures ∙ ap (λ k. set (opening ++ drop 12 old) 12 k) control ∙ set_next opening old 12 kind refl inside in
    let second : c.overwrite-2.new.bytes ≡ ((opening ++ kind ∷ []) ++ closing) ++ drop 25 old =
    c.overwrite-2.ensures ∙ ap (overwritten 13 closing) first ∙ overwritten_next (opening ++ kind ∷ []) closing old 13 refl in
    let third : c.overwrite_word.new.bytes ≡ (((opening ++ kind ∷ []) ++ closing) ++ word it.len) ++ drop 29 old =
    c.overwrite_word.ensures ∙ ap (overwritten 25 (word it.len)) second ∙ overwritten_next ((opening ++ kind ∷ []) ++ closing) (word it.len) old 25 refl in
    c.overwrite_word-2.ensures
    ∙ ap (overwritten 29 (word it.child_bytes)) third
    ∙ overwritten_next (((opening ++ kind ∷ []) ++ closing) ++ word it.len) (word it.child_bytes) old 29 refl
