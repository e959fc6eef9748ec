-- A text that begins with a raw string and a bracket is found to do so.
use Rattle.std.proofs.Common.{◌≡◌, ℕ, ◌∷◌, ◌++◌, Option, None, Some, rules, ap, ◌∙◌}
use Rattle.std.proofs.lemmas.Bool.{false≢true}
use Rattle.syntax_layout.proofs.Recognized.{hashes_are, hashes_told, opened_is, shut_is, string_opens, text_boundary, text_is, text_long}
use Rattle.syntax_parse.specs.Doc.{hashes_wanted}
use Rattle.tt_base.specs.LeafText.{closing_quote}
use Rattle.tt_base.specs.declared.literal.LitKind.TheVariants.{StrRaw}
use Rattle.syntax_layout.proofs.attribute.closed.Goals as goal

none_some : (n : ℕ) → ◌≡◌ {A = Option ℕ} None (Some n) → ⊥
none_some n e = cc

pub returns-in_err-hashes : goal.returns-in_err-hashes
returns-in_err-hashes c =
    let failed : c.from_residual.result ≡ None = search rules in
    rw failed (λ doc behind it. none_some (hashes_wanted doc) (c.in_err-hashes.ensures ∙ hashes_told doc behind c.args.text.now c.first_token-token.result c.first_token-token.ensures it))

pub returns-in_err-opened : goal.returns-in_err-opened
returns-in_err-opened c =
    let failed : c.from_residual-in_err-opened.result ≡ None = search rules in
    rw failed (λ doc behind it.
    let t = c.args.text.now in
    let h = c.in_ok-hashes.field-0 in
    let same = hashes_are doc behind t c.first_token-token.result h c.first_token-token.ensures c.in_ok-hashes.ensures it in
    c.in_err-opened.ensures (doc ++ (closing_quote (StrRaw h) ++ 93 ∷ behind)) (string_opens doc behind t h it same))

pub returns-in_err-doc : goal.returns-in_err-doc
returns-in_err-doc c =
    let failed : c.from_residual-in_err-doc.result ≡ None = search rules in
    rw failed (λ doc behind it.
    let t = c.args.text.now in
    let token = c.first_token-token.result in
    let h = c.in_ok-hashes.field-0 in
    let opened = c.in_ok-opened.opened.now in
    let same = hashes_are doc behind t token h c.first_token-token.ensures c.in_ok-hashes.ensures it in
    let is = opened_is doc behind t opened h it same c.in_ok-opened.ensures in
    let long = c.saturating_sub-len.ensures ∙ text_long doc behind t token h c.first_token-token.ensures same it in
    false≢true (c.in_err-doc.ensures.variant.1 (text_boundary doc behind opened h c.saturating_sub-len.result is long)))

pub returns-in_err-rest : goal.returns-in_err-rest
returns-in_err-rest c =
    let failed : c.from_residual-in_err-rest.result ≡ None = search rules in
    rw failed (λ doc behind it.
    let t = c.args.text.now in
    let token = c.first_token-token.result in
    let h = c.in_ok-hashes.field-0 in
    let opened = c.in_ok-opened.opened.now in
    let more = closing_quote (StrRaw h) ++ 93 ∷ behind in
    let same = hashes_are doc behind t token h c.first_token-token.ensures c.in_ok-hashes.ensures it in
    let is = opened_is doc behind t opened h it same c.in_ok-opened.ensures in
    let long = c.saturating_sub-len.ensures ∙ text_long doc behind t token h c.first_token-token.ensures same it in
    c.in_err-rest.ensures behind (shut_is doc more opened c.in_ok-doc.shut.now c.saturating_sub-len.result is long c.in_ok-doc.ensures.back))

pub returns-else-hashes_wanted-hashes : goal.returns-else-hashes_wanted-hashes
returns-else-hashes_wanted-hashes c = λ doc behind it.
    let t = c.args.text.now in
    let token = c.first_token-token.result in
    let h = c.in_ok-hashes.field-0 in
    let opened = c.in_ok-opened.opened.now in
    let more = closing_quote (StrRaw h) ++ 93 ∷ behind in
    let same = hashes_are doc behind t token h c.first_token-token.ensures c.in_ok-hashes.ensures it in
    let is = opened_is doc behind t opened h it same c.in_ok-opened.ensures in
    let long = c.saturating_sub-len.ensures ∙ text_long doc behind t token h c.first_token-token.ensures same it in
    c.if-hashes_wanted-hashes.false (c.hashes_wanted.ensures ∙ ap hashes_wanted (text_is doc more opened c.in_ok-doc.doc.now c.saturating_sub-len.result is long c.in_ok-doc.ensures.front) ∙ same)
