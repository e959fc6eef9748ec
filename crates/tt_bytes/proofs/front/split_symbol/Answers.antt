use Rattle.std.proofs.Common.{rules, ◌≡◌, ◌≤◌, ◌+◌, ◌-◌, Some, Err, length, inr, take, drop, ap, sym, subst, ◌∙◌, arith}
use Rattle.std.specs.Prelude.{IsUtf8}
use Rattle.std.specs.Str.Lossy.{utf8_valid_len}
use Rattle.tt_bytes.specs.declared.fault.BytesFault.TheVariants.{NoText}
use Rattle.tt_bytes.specs.Front.{◌>>◌, or_short, text_of}
use Rattle.tt_bytes.proofs.Reading.{text_there, no_text_there}
use Rattle.tt_codec.specs.Read.{word_at}
use Rattle.tt_bytes.proofs.front.split_symbol.Goals as goal

pub returns-in-Ok-new-clause-value : goal.returns-in-Ok-new-clause-value
returns-in-Ok-new-clause-value c =
    let read : word_at c.args.from.now ≡ Some (c.in-Some.count, c.in-Some.rest.now) = search rules in
    let room : c.in-Some.count ≤ length c.in-Some.rest.now = search (rules, arith) in
    let front : c.in-Some-split_at_checked.bytes.now ≡ take c.in-Some.count c.in-Some.rest.now = search rules in
    let back : c.in-Some-split_at_checked.behind.now ≡ drop c.in-Some.count c.in-Some.rest.now = search rules in
    let text : c.in-Ok-new.symbol ≡ c.in-Some-split_at_checked.bytes.now = c.in-Ok-new.ensures.ok ∙ c.in-Ok.ensures.cases.0 in
    ap (λ r. or_short c.args.all r >> λ count. text_of c.args.all count.0 count.1) read
    ∙ text_there c.args.all c.in-Some.count c.in-Some.rest.now _ _ room (text ∙ front) back (subst IsUtf8 (sym text) c.in-Ok.ensures.cases.1)

pub returns-in-Err-clause-value : goal.returns-in-Err-clause-value
returns-in-Err-clause-value c =
    let read : word_at c.args.from.now ≡ Some (c.in-Some.count, c.in-Some.rest.now) = search rules in
    let room : c.in-Some.count ≤ length c.in-Some.rest.now = search (rules, arith) in
    let front : c.in-Some-split_at_checked.bytes.now ≡ take c.in-Some.count c.in-Some.rest.now = search rules in
    let upto : c.valid_up_to.result ≡ utf8_valid_len (take c.in-Some.count c.in-Some.rest.now) = c.valid_up_to.ensures ∙ c.in-Err.ensures.valid_len ∙ ap utf8_valid_len front in
    inr (
    ap (λ r. or_short c.args.all r >> λ count. text_of c.args.all count.0 count.1) read
    ∙ no_text_there c.args.all c.in-Some.count c.in-Some.rest.now room (λ utf8. c.in-Err.ensures.cases.0 (subst IsUtf8 (sym front) utf8))
    ∙ ap (λ n. Err (NoText (c.args.all - length c.in-Some.rest.now + n))) (sym upto)
    )
