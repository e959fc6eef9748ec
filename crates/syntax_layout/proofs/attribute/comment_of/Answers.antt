-- An attribute that may be replaced is found to be one.
use Rattle.std.proofs.Common.{◌≡◌, ℕ, List, ◌++◌, true, false, Option, None, Some, rules, ap, sym, ◌∙◌}
use Rattle.std.proofs.lemmas.Bool.{false≢true}
use Rattle.std.specs.List.{list_any}
use Rattle.syntax_layout.proofs.Recognized.{replaced_one}
use Rattle.syntax_layout.specs.Documented.{documents, first_line_end, is_line_end}
use Rattle.syntax_layout.proofs.attribute.comment_of.Goals as goal

none_some : (it : List ℕ × List ℕ) → ◌≡◌ {A = Option (List ℕ × List ℕ)} None (Some it) → ⊥
none_some it e = cc

pub returns-then-has_line_end : goal.returns-then-has_line_end
returns-then-has_line_end c = λ doc ending rest it.
    let literal = c.in_ok-literal.literal.now in
    let found = c.in_ok-doc.doc.now in
    let opens = c.in_ok-literal.ensures ∙ ap (λ f. f ++ literal) c.attribute_opening.ensures in
    let one = replaced_one c.args.style doc ending rest c.args.text.now literal found c.in_ok-doc.more.now opens c.in_ok-doc.ensures it in
    let ends : list_any is_line_end found ≡ true = search rules in
    false≢true (sym it.line ∙ ap (list_any is_line_end) (sym one.0) ∙ ends)

pub returns-then-not-documents : goal.returns-then-not-documents
returns-then-not-documents c = λ doc ending rest it.
    let literal = c.in_ok-literal.literal.now in
    let found = c.in_ok-doc.doc.now in
    let opens = c.in_ok-literal.ensures ∙ ap (λ f. f ++ literal) c.attribute_opening.ensures in
    let one = replaced_one c.args.style doc ending rest c.args.text.now literal found c.in_ok-doc.more.now opens c.in_ok-doc.ensures it in
    let none : documents found ≡ false = search rules in
    false≢true (sym none ∙ ap documents one.0 ∙ it.documents)

pub returns-in_err-ending : goal.returns-in_err-ending
returns-in_err-ending c =
    let failed : c.from_residual-in_err-ending.result ≡ None = search rules in
    rw failed (λ doc ending rest it.
    let literal = c.in_ok-literal.literal.now in
    let more = c.in_ok-doc.more.now in
    let opens = c.in_ok-literal.ensures ∙ ap (λ f. f ++ literal) c.attribute_opening.ensures in
    let one = replaced_one c.args.style doc ending rest c.args.text.now literal c.in_ok-doc.doc.now more opens c.in_ok-doc.ensures it in
    none_some (ending, rest) (sym c.in_err-ending.ensures ∙ ap first_line_end one.1 ∙ it.ends))
