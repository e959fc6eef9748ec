use Rattle.std.proofs.Common.{◌≡◌, ◌∙◌, sym, ap, ap₂, drop, arith}
use Rattle.std.specs.Str.{chars}
use Rattle.syntax_lex.specs.Closing.{hashes_of, raw_body, raw_text}
use Rattle.syntax_lex.proofs.FrontFacts.{length-chars-le}
use Rattle.syntax_lex.proofs.ClosingFacts.{hashes_of-le}
use Rattle.syntax_lex.proofs.closing.past_raw_text.Goals as goal

pub returns-clause-value : goal.returns-clause-value
unfolding raw_text
returns-clause-value c =
    let cs = chars c.args.text.now in
    let n : hashes_of cs ≡ c.past_hashes-hashes.result.0 = omega (arith, c.past_hashes-hashes.ensures.count, hashes_of-le cs, length-chars-le c.args.text.now c.utf8.text) in
    let r = ap (λ k. drop k cs) n ∙ sym c.past_hashes-hashes.ensures.rest in
    ap₂ raw_body n r ∙ c.past_raw_body.ensures.value
