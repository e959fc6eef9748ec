use Rattle.std.proofs.Common.{◌≡◌, [], ◌∷◌, codes, Err, rules}
use Rattle.tt_base.specs.declared.ident.IdentIsRaw.TheVariants.{No}
use Rattle.tt_base.specs.declared.literal.LitKind.TheVariants.{StrRaw}
use Rattle.tt_base.specs.declared.punct.Spacing.TheVariants.{Alone}
use Rattle.syntax_parse.proofs.LimitFacts.{behind_fault, more_fault}
use Rattle.syntax_parse.specs.Doc.{hashes_wanted}
use Rattle.syntax_parse.specs.Spelled.{Piece, at_span, name, sign, value}
use Rattle.syntax_parse.proofs.doc.add_inside.Goals as goal

pub returns-in_err-add_name-clause-err : goal.returns-in_err-add_name-clause-err
returns-in_err-add_name-clause-err c =
    let span = c.args.span in
    let first : Piece = at_span (name (codes "doc") No) span in
    let second : Piece = at_span (sign 61 Alone) span in
    let third : Piece = at_span (value (StrRaw (hashes_wanted c.args.text.now)) c.args.text.now 0) span in
    let failed : c.from_residual.result ≡ Err c.in_err-add_name.field-0.0 = search rules in
    rw failed (more_fault (first ∷ []) (second ∷ third ∷ []) c.args.builder.now c.in_err-add_name.field-0.0 c.in_err-add_name.ensures.err)

pub returns-in_err-add_punct-clause-err : goal.returns-in_err-add_punct-clause-err
returns-in_err-add_punct-clause-err c =
    let span = c.args.span in
    let first : Piece = at_span (name (codes "doc") No) span in
    let second : Piece = at_span (sign 61 Alone) span in
    let third : Piece = at_span (value (StrRaw (hashes_wanted c.args.text.now)) c.args.text.now 0) span in
    let failed : c.from_residual-in_err-add_punct.result ≡ Err c.in_err-add_punct.field-0.0 = search rules in
    rw failed
    (behind_fault (first ∷ []) (second ∷ third ∷ []) c.args.builder.now c.add_name.new.builder c.in_err-add_punct.field-0.0 c.in_ok-add_name.ensures.ok.holds
    (more_fault (second ∷ []) (third ∷ []) c.add_name.new.builder c.in_err-add_punct.field-0.0 c.in_err-add_punct.ensures.err))
