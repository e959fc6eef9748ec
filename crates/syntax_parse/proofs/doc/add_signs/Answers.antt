use Rattle.std.proofs.Common.{◌≡◌, [], ◌∷◌, Err, rules}
use Rattle.tt_base.specs.declared.fault.TtFault.{TtFault}
use Rattle.tt_base.specs.declared.punct.Spacing.TheVariants.{Alone}
use Rattle.tt_base.specs.declared.span.Span.{Span}
use Rattle.tt.specs.FlatHeld.{Held}
use Rattle.syntax_lex.specs.declared.token.DocStyle.{DocStyle}
use Rattle.syntax_lex.specs.declared.token.DocStyle.TheVariants.{Outer, Inner}
use Rattle.syntax_parse.proofs.LimitFacts.{more_fault}
use Rattle.syntax_parse.proofs.doc.add_signs.Goals as goal
use Rattle.syntax_parse.specs.Limits.{IsAddFault}
use Rattle.syntax_parse.specs.Pieces.{signs}
use Rattle.syntax_parse.specs.Spelled.{all_at, at_span, sign}

-- the first sign does not fit
first_fault : (style : DocStyle) (span : Span) (s : Held) (fault : TtFault) → IsAddFault (at_span (sign 35 Alone) span ∷ []) s fault → IsAddFault (all_at span (signs style)) s fault
first_fault Outer span s fault h = h
first_fault Inner span s fault h = more_fault (at_span (sign 35 Alone) span ∷ []) (at_span (sign 33 Alone) span ∷ []) s fault h

pub returns-in_err-add_punct-clause-err : goal.returns-in_err-add_punct-clause-err
returns-in_err-add_punct-clause-err c =
    let failed : c.from_residual.result ≡ Err c.in_err-add_punct.field-0.0 = search rules in
    rw failed (first_fault c.args.style c.args.span c.args.builder.now c.in_err-add_punct.field-0.0 c.in_err-add_punct.ensures.err)
