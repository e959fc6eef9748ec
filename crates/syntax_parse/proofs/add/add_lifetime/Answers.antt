use Rattle.std.proofs.Common.{◌≡◌, ◌+◌, [], ◌∷◌, Err, length, rules, subst}
use Rattle.tt_base.specs.declared.punct.Spacing.TheVariants.{Joint}
use Rattle.syntax_parse.proofs.LimitFacts.{more_fault}
use Rattle.syntax_parse.proofs.StackFacts.{at_piece}
use Rattle.syntax_parse.proofs.add.add_lifetime.Goals as goal
use Rattle.syntax_parse.specs.Limits.{IsAddFault}
use Rattle.syntax_parse.specs.Pieces.{name_of, piece}
use Rattle.syntax_parse.specs.RawName.{behind_apostrophe}
use Rattle.syntax_parse.specs.Spelled.{sign}

pub returns-in_err-add_punct-clause-err : goal.returns-in_err-add_punct-clause-err
returns-in_err-add_punct-clause-err c =
    let start = c.args.start in
    let named = piece c.args.part (start + 1) (start + length c.args.text.now) (name_of (behind_apostrophe c.args.text.now)) in
    let failed : c.from_residual.result ≡ Err c.in_err-add_punct.field-0.0 = search rules in
    rw failed
    (more_fault (piece c.args.part start (start + 1) (sign 39 Joint) ∷ []) (named ∷ []) c.args.builder.now c.in_err-add_punct.field-0.0
    (subst (λ p. IsAddFault (p ∷ []) c.args.builder.now c.in_err-add_punct.field-0.0)
    (at_piece (sign 39 Joint) c.span_at.result c.args.part start (start + 1) c.span_at.ensures.part c.span_at.ensures.start c.span_at.ensures.end)
    c.in_err-add_punct.ensures.err))
