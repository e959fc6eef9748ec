use Rattle.std.proofs.Common.{length, sym, ap, ⊎_elim, arith, false-eqb}
use Rattle.std.proofs.lemmas.Bool.{cases_lt, eqb-true}
use Rattle.std.specs.Str.{chars}
use Rattle.syntax_lex.proofs.FrontFacts.{chars-empty}
use Rattle.syntax_lex.proofs.TokenFacts.{token_is}
use Rattle.syntax_lex.proofs.tokens.TokenizeIterator.next.Goals as goal

pub returns-then-is_empty-clause-steps : goal.returns-then-is_empty-clause-steps
returns-then-is_empty-clause-steps c =
    let empty = chars-empty c.args.self.now.rest.now (eqb-true (length c.args.self.now.rest.now) 0 (sym c.if-is_empty.ensures)) in
    (empty, empty)

pub returns-clause-steps : goal.returns-clause-steps
returns-clause-steps c = (
  c.read-kind.ensures.some (⊎_elim (λ lt. lt) (λ le. absurd (false-eqb (length c.args.self.now.rest.now) 0 c.if-is_empty.ensures (omega (arith, le)))) (cases_lt 0 (length c.args.self.now.rest.now))),
  token_is c.read-kind.result.0 c.bytes_before-len.result (chars c.args.self.now.rest.now) (chars c.read-kind.result.1.now) c.read-kind.ensures.value c.bytes_before-len.ensures,
  sym (ap (λ p. p.1) c.read-kind.ensures.value),
)
