use Rattle.std.proofs.Common.{◌≡◌, ◌++◌, length, sym, ap, ◌∙◌, arith, length-append}
use Rattle.std.proofs.lemmas.Str.{chars_past_char, chars-nil}
use Rattle.std.proofs.lemmas.List.{nil_from_length}
use Rattle.std.specs.Str.{chars}
use Rattle.std.specs.Prelude.{encode_utf8}
use Rattle.syntax_lex.proofs.FrontFacts.{encode_utf8_nonempty}
use Rattle.syntax_lex.proofs.front.split_first.Goals as goal

pub returns-in-Some : goal.returns-in-Some
returns-in-Some c =
    let first = c.in-Some.c in
    let rest = c.as_str.result.now in
    let e : c.args.text.now ≡ encode_utf8 first ++ rest =
    sym c.chars-chars.ensures.rest ∙ c.in-Some.ensures.steps.0 ∙ ap (λ t. encode_utf8 first ++ t) (sym c.as_str.ensures) in
    (chars_past_char _ rest first c.utf8.text e, omega (arith, ap length e, length-append (encode_utf8 first) rest, encode_utf8_nonempty first))

pub returns-in-None : goal.returns-in-None
returns-in-None c = ap chars (sym c.chars-chars.ensures.rest ∙ nil_from_length _ c.in-None.ensures.steps.0.0) ∙ chars-nil
