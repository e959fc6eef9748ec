use Rattle.std.proofs.Common.{sym, ap, false, ◌∙◌, arith, rules}
use Rattle.std.specs.Str.{chars}
use Rattle.std.proofs.lemmas.Str.{chars-nil}
use Rattle.syntax_lex.proofs.ClosingFacts.{raw_ends, raw_goes_on}
use Rattle.syntax_lex.proofs.RunFacts.{raw_passed, raw_quote, raw_open}
use Rattle.syntax_lex.proofs.closing.past_raw.Goals as goal

pub loop-c-preserved : goal.loop-c-preserved
loop-c-preserved c = (
  search rules,
  raw_goes_on c.args.hashes c.in-Some.c c.past_hashes-count.result.0 _ (chars c.in-Some.more.now) _ c.in-Some.ensures.0 c.past_hashes-count.ensures.count c.if-count-hashes.false c.past_hashes-count.ensures.rest ∙ raw_passed c.args.hashes (chars c.loop-c.rest.now) (chars c.past_until.result.now) c.past_until.ensures.rest ∙ c.loop-c.invariant.1,
  omega (arith, c.in-Some.ensures.1, c.past_until.ensures.len, c.past_hashes-count.ensures.len, c.loop-c.invariant.2),
)

pub returns-clause-value : goal.returns-clause-value
returns-clause-value c =
    sym c.loop-c.invariant.1 ∙ raw_open c.args.hashes (chars c.loop-c.rest.now) (chars c.past_until.result.now) c.past_until.ensures.rest c.in_default.ensures ∙ ap (λ t. (false, t)) (sym chars-nil)

pub returns-then-count-hashes-clause-value : goal.returns-then-count-hashes-clause-value
returns-then-count-hashes-clause-value c =
    sym c.loop-c.invariant.1
    ∙ sym (raw_passed c.args.hashes (chars c.loop-c.rest.now) (chars c.past_until.result.now) c.past_until.ensures.rest)
    ∙ raw_ends c.args.hashes c.in-Some.c c.past_hashes-count.result.0 (chars c.past_until.result.now) (chars c.in-Some.more.now) (chars c.past_hashes-count.result.1.now) c.in-Some.ensures.0 (raw_quote c.args.hashes (chars c.loop-c.rest.now) (chars c.past_until.result.now) c.past_until.ensures.rest c.in-Some.c (chars c.in-Some.more.now) c.in-Some.ensures.0) c.past_hashes-count.ensures.count c.if-count-hashes.true c.past_hashes-count.ensures.rest
