use Rattle.std.proofs.Common.{◌≡◌, ℕ, true, List, ap, sym, subst, ◌∙◌}
use Rattle.std.specs.Str.{chars}
use Rattle.tt.specs.Forest.{Root}
use Rattle.expand_items.specs.Positions.{begun as begun_among}
use Rattle.expand_items.specs.declared.position.Siblings.TheVariants.{Items}
use Rattle.expand_text.specs.Contexts.{new_context}
use Rattle.expand_text.specs.Expansion.{config_by}
use Rattle.expand_text.specs.Exports.{AreExported}
use Rattle.expand_text.specs.Limits.{KeepLimits}
use Rattle.expand_text.specs.Meaning.{ExpandsTo}
use Rattle.expand_text.proofs.OneExport.{one_export}
use Rattle.expand_text.proofs.OneOutcome.{one_outcome}
use Rattle.expand_text.proofs.Splicing.{one_line_list}
use Rattle.expand_text.specs.Reading.{AreSplices}
use Rattle.syntax_edit.specs.Splices.{replacements_of}
use Rattle.expand_text.proofs.laws.one_answer.Goals as goal
use Rattle.syntax_edit.specs.Places.{text_part}
use Rattle.syntax_edit.specs.Texts.{begun, with_all}
use Rattle.syntax_lex.proofs.TokenFacts.{one_list}
use Rattle.syntax_parse.proofs.OneSpelling.{one_spelling}
use Rattle.syntax_parse.specs.Parsed.{IsParse, pieces_from}

-- A text is read as one run of trees.
one_parse : (text : List ℕ) (a b : Root) → IsParse text_part text a → IsParse text_part text b → a.children ≡ b.children
one_parse text a b is was =
    one_spelling a.children b.children
    (is.spells ∙ ap (pieces_from text_part 0 text) (one_list is.tokens was.tokens (chars text) is.read was.read) ∙ sym was.spells)

pub returns : goal.returns
returns c = λ options source it other is was x y.
    let read = one_parse source was.tree is.tree was.read is.read in
    let exports = one_export (config_by options) is.tree.children was.exported is.exported (subst (λ trees. AreExported (config_by options) trees was.exported) read was.exports) is.exports in
    let expands_to =
    subst (λ macros. ExpandsTo (config_by options) true options.limit (begun_among Items) 0 (new_context macros) is.tree.children was.after was.outcome) exports
    (subst (λ trees. ExpandsTo (config_by options) true options.limit (begun_among Items) 0 (new_context was.exported) trees was.after was.outcome) read was.expands_to) in
    let same = one_outcome is.expands_to expands_to (subst (λ its. KeepLimits its) is.findings x) (subst (λ its. KeepLimits its) was.findings y) in (
      same.1,
      is.findings ∙ ap (λ context. context.findings) same.0 ∙ sym was.findings,
      is.callers ∙ ap (λ context. context.callers) same.0 ∙ sym was.callers,
      λ line.
          let are : AreSplices true was.outcome is.splices = subst (λ o. AreSplices true o is.splices) same.1 (subst (λ b. AreSplices b is.outcome is.splices) line is.are) in
          let were : AreSplices true was.outcome was.splices = subst (λ b. AreSplices b was.outcome was.splices) line was.are in
          is.text ∙ ap (λ splices. with_all (replacements_of splices) (begun source)) (one_line_list are were) ∙ sym was.text,
    )
