use Rattle.std.proofs.Common.{◌≡◌, Err, rules, sym, subst}
use Rattle.syntax_parse.proofs.LimitFacts.{behind_fault, more_fault}
use Rattle.syntax_parse.proofs.StackFacts.{adds_both, all_at-append}
use Rattle.syntax_parse.specs.Limits.{IsAddFault}
use Rattle.syntax_parse.specs.Parsed.{Adds}
use Rattle.syntax_parse.specs.Pieces.{attribute, signs}
use Rattle.syntax_parse.specs.Spelled.{all_at}
use Rattle.syntax_parse.proofs.doc.add_doc.Goals as goal

pub returns-in_err-add_signs-clause-err : goal.returns-in_err-add_signs-clause-err
returns-in_err-add_signs-clause-err c =
    let span = c.args.span in
    let failed : c.from_residual.result ≡ Err c.in_err-add_signs.field-0.0 = search rules in
    rw failed
    (subst (λ ps. IsAddFault ps c.args.builder.now c.in_err-add_signs.field-0.0) (sym (all_at-append span (signs c.args.style) (attribute c.args.text.now)))
    (more_fault (all_at span (signs c.args.style)) (all_at span (attribute c.args.text.now)) c.args.builder.now c.in_err-add_signs.field-0.0 c.in_err-add_signs.ensures.err))

pub returns-in_err-add_brackets-clause-err : goal.returns-in_err-add_brackets-clause-err
returns-in_err-add_brackets-clause-err c =
    let span = c.args.span in
    let failed : c.from_residual-in_err-add_brackets.result ≡ Err c.in_err-add_brackets.field-0.0 = search rules in
    rw failed
    (subst (λ ps. IsAddFault ps c.args.builder.now c.in_err-add_brackets.field-0.0) (sym (all_at-append span (signs c.args.style) (attribute c.args.text.now)))
    (behind_fault (all_at span (signs c.args.style)) (all_at span (attribute c.args.text.now)) c.args.builder.now c.add_signs.new.builder c.in_err-add_brackets.field-0.0
    c.in_ok-add_signs.ensures.ok.holds c.in_err-add_brackets.ensures.err))

pub returns-clause-ok : goal.returns-clause-ok
returns-clause-ok c =
    let span = c.args.span in
    subst (λ ps. Adds ps c.args.builder.now c.add_brackets.new.builder) (sym (all_at-append span (signs c.args.style) (attribute c.args.text.now)))
    (adds_both (all_at span (signs c.args.style)) (all_at span (attribute c.args.text.now)) c.args.builder.now c.add_signs.new.builder c.add_brackets.new.builder
    c.in_ok-add_signs.ensures.ok c.in_ok-add_brackets.ensures.ok)
