use Rattle.std.proofs.Common.{◌∙◌, false, ap, sym, arith, rules}
use Rattle.std.proofs.lemmas.Str.{chars-nil}
use Rattle.std.specs.Str.{chars}
use Rattle.syntax_lex.proofs.ClosingFacts.{comment_opens, comment_closes, comment_ends, comment_goes_on}
use Rattle.syntax_lex.proofs.RunFacts.{comment_passed, comment_open}
use Rattle.syntax_lex.proofs.closing.past_comment.Goals as goal

pub loop-c-preserved-then-opens_comment : goal.loop-c-preserved-then-opens_comment
loop-c-preserved-then-opens_comment c = (
  c.skip-rest.utf8,
  comment_opens c.loop-c.inner c.in-Some.c c.first-next.result (chars c.past_until.result.now) (chars c.in-Some.more.now) (chars c.skip-rest.result.now) c.in-Some.ensures.0 c.first-next.ensures (sym c.if-opens_comment.ensures) c.skip-rest.ensures.rest ∙ comment_passed c.loop-c.inner (chars c.loop-c.rest.now) (chars c.past_until.result.now) c.past_until.ensures.rest ∙ c.loop-c.invariant.1,
  omega (arith, c.in-Some.ensures.1, c.past_until.ensures.len, c.loop-c.invariant.2),
)

pub loop-c-preserved-then-closes_comment : goal.loop-c-preserved-then-closes_comment
loop-c-preserved-then-closes_comment c = (
  c.skip-rest-then-closes_comment.utf8,
  comment_closes c.loop-c.inner c.in-Some.c c.first-next.result (chars c.past_until.result.now) (chars c.in-Some.more.now) (chars c.skip-rest-then-closes_comment.result.now) c.in-Some.ensures.0 c.first-next.ensures (sym c.if-opens_comment.ensures) (sym c.if-closes_comment.ensures) c.if-inner-eq0.false c.skip-rest-then-closes_comment.ensures.rest ∙ comment_passed c.loop-c.inner (chars c.loop-c.rest.now) (chars c.past_until.result.now) c.past_until.ensures.rest ∙ c.loop-c.invariant.1,
  omega (arith, c.in-Some.ensures.1, c.past_until.ensures.len, c.loop-c.invariant.2),
)

pub loop-c-preserved : goal.loop-c-preserved
loop-c-preserved c = (
  search rules,
  comment_goes_on c.loop-c.inner c.in-Some.c c.first-next.result (chars c.past_until.result.now) (chars c.in-Some.more.now) (chars c.in-Some.more.now) c.in-Some.ensures.0 c.first-next.ensures (sym c.if-opens_comment.ensures) (sym c.if-closes_comment.ensures) ∙ comment_passed c.loop-c.inner (chars c.loop-c.rest.now) (chars c.past_until.result.now) c.past_until.ensures.rest ∙ c.loop-c.invariant.1,
  omega (arith, c.in-Some.ensures.1, c.past_until.ensures.len, c.loop-c.invariant.2),
)

pub returns-then-inner-eq0-clause-value : goal.returns-then-inner-eq0-clause-value
returns-then-inner-eq0-clause-value c =
    sym c.loop-c.invariant.1
    ∙ sym (comment_passed c.loop-c.inner (chars c.loop-c.rest.now) (chars c.past_until.result.now) c.past_until.ensures.rest)
    ∙ comment_ends c.loop-c.inner c.in-Some.c c.first-next.result (chars c.past_until.result.now) (chars c.in-Some.more.now) (chars c.skip.result.now) c.in-Some.ensures.0 c.first-next.ensures (sym c.if-opens_comment.ensures) (sym c.if-closes_comment.ensures) c.if-inner-eq0.true c.skip.ensures.rest

pub returns-clause-value : goal.returns-clause-value
returns-clause-value c =
    sym c.loop-c.invariant.1
    ∙ comment_open c.loop-c.inner (chars c.loop-c.rest.now) (chars c.past_until.result.now) c.past_until.ensures.rest c.in_default.ensures
    ∙ ap (λ t. (false, t)) (sym chars-nil)
