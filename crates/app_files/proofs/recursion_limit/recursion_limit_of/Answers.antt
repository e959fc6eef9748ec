-- The tokens of the rest complete those of the text.
use Rattle.std.proofs.Common.{arith, rules, sym, ap, subst}
use Rattle.std.specs.Str.{IsCharBoundary}
use Rattle.app_files.proofs.LimitAhead.{IsAhead, ahead_behind, ahead_end, ahead_equals, ahead_trivia, ahead_word}
use Rattle.syntax_parse.proofs.TextFacts.{cut}
use Rattle.app_files.proofs.recursion_limit.recursion_limit_of.Goals as goal

pub split_at-requires : goal.split_at-requires
split_at-requires c =
    let k = cut c.loop-rest.rest.now c.loop-rest.invariant.0 (search rules) in
    subst (λ t. IsCharBoundary c.loop-rest.rest.now t.len) (sym c.first_token-token.ensures) k.boundary

pub loop-rest-smaller-then-is_trivia : goal.loop-rest-smaller-then-is_trivia
loop-rest-smaller-then-is_trivia c =
    let k = cut c.loop-rest.rest.now c.loop-rest.invariant.0 (search rules) in
    omega (arith, k.some, ap (λ t. t.len) c.first_token-token.ensures, c.split_at.ensures.back_len)

pub loop-rest-preserved-then-is_trivia : goal.loop-rest-preserved-then-is_trivia
loop-rest-preserved-then-is_trivia c = (
  search rules,
  record {
    few = omega (arith, c.split_at.ensures.back_len, c.loop-rest.invariant.1.few);
    ahead =
        ahead_trivia c.args.text.now c.loop-rest.rest.now c.split_at.result.1.now c.loop-rest.front c.first_token-token.result c.loop-rest.invariant.0 (search rules)
        c.first_token-token.ensures c.split_at.ensures.back (sym c.if-is_trivia.ensures) c.loop-rest.invariant.1.ahead;
  },
)

pub returns-in-Behind : goal.returns-in-Behind
returns-in-Behind c =
    ahead_behind c.args.text.now c.loop-rest.rest.now (subst (IsAhead c.args.text.now c.loop-rest.rest.now) c.in-Behind.is c.loop-rest.invariant.1.ahead)

pub returns-in-Equals : goal.returns-in-Equals
returns-in-Equals c =
    ahead_equals c.args.text.now c.loop-rest.rest.now c.split_at.result.0.now c.first_token-token.result c.number_in.result c.loop-rest.invariant.0 (search rules)
    c.first_token-token.ensures c.split_at.ensures.front (sym c.if-is_trivia.ensures) c.number_in.ensures
    (subst (IsAhead c.args.text.now c.loop-rest.rest.now) c.in-Equals.is c.loop-rest.invariant.1.ahead)

pub loop-rest-smaller : goal.loop-rest-smaller
loop-rest-smaller c =
    let k = cut c.loop-rest.rest.now c.loop-rest.invariant.0 (search rules) in
    omega (arith, k.some, ap (λ t. t.len) c.first_token-token.ensures, c.split_at.ensures.back_len)

pub loop-rest-preserved : goal.loop-rest-preserved
loop-rest-preserved c =
    let k = cut c.loop-rest.rest.now c.loop-rest.invariant.0 (search rules) in (
      search rules,
      record {
        few =
            omega (arith, k.some, ap (λ t. t.len) c.first_token-token.ensures, c.split_at.ensures.back_len, c.next-front.ensures.bound, c.loop-rest.invariant.1.few);
        ahead =
            ahead_word c.args.text.now c.loop-rest.rest.now c.split_at.result.0.now c.split_at.result.1.now c.loop-rest.front c.next-front.result
            c.first_token-token.result c.loop-rest.invariant.0 (search rules) c.first_token-token.ensures c.split_at.ensures.front c.split_at.ensures.back
            (sym c.if-is_trivia.ensures) c.next-front.ensures.same c.loop-rest.invariant.1.ahead;
      },
    )

pub returns : goal.returns
returns c = ahead_end c.args.text.now c.loop-rest.rest.now c.loop-rest.front (search rules) c.loop-rest.invariant.1.ahead
