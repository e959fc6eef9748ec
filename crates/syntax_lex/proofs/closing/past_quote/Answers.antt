use Rattle.std.proofs.Common.{sym, ap, false, ◌∙◌, arith}
use Rattle.std.specs.Str.{chars}
use Rattle.std.proofs.lemmas.Str.{chars-nil}
use Rattle.syntax_lex.proofs.RunFacts.{quote_closes, quote_skips, quote_open}
use Rattle.syntax_lex.proofs.closing.past_quote.Goals as goal

pub returns-then-c-eq34-clause-value : goal.returns-then-c-eq34-clause-value
returns-then-c-eq34-clause-value c =
    sym c.loop-c.invariant.1 ∙ quote_closes (chars c.loop-c.rest.now) (chars c.past_until.result.now) c.past_until.ensures.rest c.in-Some.c (chars c.in-Some.more.now) c.in-Some.ensures.0 c.if-c-eq34.true

pub loop-c-preserved : goal.loop-c-preserved
loop-c-preserved c = (
  c.skip-rest.utf8,
  quote_skips (chars c.loop-c.rest.now) (chars c.past_until.result.now) c.past_until.ensures.rest c.in-Some.c (chars c.in-Some.more.now) (chars c.skip-rest.result.now) c.in-Some.ensures.0 c.if-c-eq34.false c.skip-rest.ensures.rest ∙ c.loop-c.invariant.1,
  omega (arith, c.in-Some.ensures.1, c.past_until.ensures.len, c.skip-rest.ensures.len, c.loop-c.invariant.2),
)

pub returns-clause-value : goal.returns-clause-value
returns-clause-value c =
    sym c.loop-c.invariant.1 ∙ quote_open (chars c.loop-c.rest.now) (chars c.past_until.result.now) c.past_until.ensures.rest c.in_default.ensures ∙ ap (λ t. (false, t)) (sym chars-nil)
