use Rattle.std.proofs.Common.{◌≡◌, [], ◌∷◌, ◌++◌, codes, Err, rules, ap}
use Rattle.tt_base.specs.declared.delimiter.DelimiterKind.TheVariants.{Bracket}
use Rattle.tt_base.specs.declared.ident.IdentIsRaw.TheVariants.{No}
use Rattle.tt_base.specs.declared.literal.LitKind.TheVariants.{StrRaw}
use Rattle.tt_base.specs.declared.punct.Spacing.TheVariants.{Alone}
use Rattle.syntax_parse.proofs.LimitFacts.{behind_fault, more_fault, open_fault}
use Rattle.syntax_parse.proofs.StackFacts.{adds_brackets}
use Rattle.syntax_parse.specs.Doc.{hashes_wanted}
use Rattle.syntax_parse.specs.Pieces.{inside}
use Rattle.syntax_parse.specs.Spelled.{all_at, at_span, closing, name, opening, sign, spelled_so_far, value}
use Rattle.syntax_parse.proofs.doc.add_brackets.Goals as goal

pub returns-in_err-open-clause-err : goal.returns-in_err-open-clause-err
returns-in_err-open-clause-err c =
    let span = c.args.span in
    let failed : c.from_residual.result ≡ Err c.in_err-open.field-0.0 = search rules in
    rw failed
    (more_fault (at_span (opening Bracket) span ∷ []) (all_at span (inside c.args.text.now ++ closing Bracket ∷ [])) c.args.builder.now c.in_err-open.field-0.0
    (open_fault Bracket span c.args.builder.now c.in_err-open.field-0.0 c.in_err-open.ensures.fault))

pub returns-in_err-add_inside-clause-err : goal.returns-in_err-add_inside-clause-err
returns-in_err-add_inside-clause-err c =
    let span = c.args.span in
    let failed : c.from_residual-in_err-add_inside.result ≡ Err c.in_err-add_inside.field-0.0 = search rules in
    rw failed
    (behind_fault (at_span (opening Bracket) span ∷ []) (all_at span (inside c.args.text.now ++ closing Bracket ∷ [])) c.args.builder.now c.open.new.self c.in_err-add_inside.field-0.0
    (ap (λ b. spelled_so_far b.stack) c.in_ok-open.ensures.ok)
    (more_fault (all_at span (inside c.args.text.now)) (at_span (closing Bracket) span ∷ []) c.open.new.self c.in_err-add_inside.field-0.0 c.in_err-add_inside.ensures.err))

pub returns-clause-ok : goal.returns-clause-ok
returns-clause-ok c =
    let span = c.args.span in
    adds_brackets Bracket span
    (at_span (name (codes "doc") No) span ∷ at_span (sign 61 Alone) span ∷ at_span (value (StrRaw (hashes_wanted c.args.text.now)) c.args.text.now 0) span ∷ [])
    c.args.builder.now c.open.new.self c.add_inside.new.builder c.close.new.self c.in_ok-open.ensures.ok c.in_ok-add_inside.ensures.ok c.close.ensures
