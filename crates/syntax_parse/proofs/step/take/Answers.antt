use Rattle.std.proofs.Common.{◌≡◌, ◌∷◌, [], ◌++◌, ◌+◌, Err, length, ap, subst, ◌∙◌}
use Rattle.std.proofs.Common.{arith, rules}
use Rattle.std.proofs.lemmas.Grind.{common_steps}
use Rattle.syntax_parse.specs.Pieces.{pieces_as}
use Rattle.syntax_parse.specs.Role.{kind_of}
use Rattle.syntax_parse.proofs.LimitFacts.{open_fault}
use Rattle.syntax_parse.specs.Limits.{IsAddFault}
use Rattle.syntax_parse.specs.Spelled.{at_span, closing, opening, spelled_so_far}
use Rattle.syntax_parse.proofs.StackFacts.{at_piece, close_step}
use Rattle.syntax_parse.proofs.step.take.Goals as goal

pub returns-else-not-same_bracket-clause-holds : goal.returns-else-not-same_bracket-clause-holds
returns-else-not-same_bracket-clause-holds c =
    close_step c.args.builder.now c.close.new.self c.span_at-span-in-Some.result c.in-Closes.bracket c.in-Some.open c.args.opens.now.items c.pop.new.self.items
    (c.close.ensures) c.requires.same (grind (arith, common_steps, c.in-Some.ensures)) (search rules)
    ∙ ap (λ p. spelled_so_far c.args.builder.now.stack ++ p ∷ [])
    (at_piece (closing (kind_of c.in-Closes.bracket)) c.span_at-span-in-Some.result c.args.part c.args.token.at (c.args.token.at + length c.args.token.text.now)
    c.span_at-span-in-Some.ensures.part c.span_at-span-in-Some.ensures.start (omega (arith, c.span_at-span-in-Some.ensures.end)))
    ∙ ap (λ r. spelled_so_far c.args.builder.now.stack ++ pieces_as r c.args.part c.args.token.kind c.args.token.next c.args.token.at c.args.token.text.now) c.in-Closes.ensures

pub returns-in_err-open-in-Opens-clause-err : goal.returns-in_err-open-in-Opens-clause-err
returns-in_err-open-in-Opens-clause-err c =
    let bracket = c.in-Opens.bracket in
    let at = c.args.token.at in
    let fault = c.in_err-open-in-Opens.field-0.0 in
    let failed : c.from_residual-in_err-open-in-Opens.result ≡ Err fault = search rules in
    let spanned = at_piece (opening (kind_of bracket)) c.span_at-span.result c.args.part at (at + length c.args.token.text.now) c.span_at-span.ensures.part c.span_at-span.ensures.start (omega (arith, c.span_at-span.ensures.end)) in
    let refused = open_fault c.kind.result c.span_at-span.result c.args.builder.now fault c.in_err-open-in-Opens.ensures.fault in
    rw failed
    (subst (λ r. IsAddFault (pieces_as r c.args.part c.args.token.kind c.args.token.next at c.args.token.text.now) c.args.builder.now fault) c.in-Opens.ensures
    (subst (λ p. IsAddFault (p ∷ []) c.args.builder.now fault) spanned
    (subst (λ k. IsAddFault (at_span (opening k) c.span_at-span.result ∷ []) c.args.builder.now fault) c.kind.ensures refused)))
