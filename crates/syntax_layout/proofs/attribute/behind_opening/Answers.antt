use Rattle.std.proofs.Common.{◌≡◌, ℕ, List, [], ◌∷◌, ◌++◌, replicate, append_assoc, ap, sym, ◌∙◌}
use Rattle.syntax_layout.proofs.Recognized.{match_other, signs_none, signs_some}
use Rattle.tt_base.specs.LeafText.{opening_quote}
use Rattle.tt_base.specs.declared.literal.LitKind.TheVariants.{StrRaw}
use Rattle.syntax_layout.proofs.attribute.behind_opening.Goals as goal

pub returns : goal.returns
returns c =
    let n = c.args.hashes in
    let t = c.args.text.now in
    let one = c.in_ok-behind.field-0.now in
    let two = c.in_ok-behind_hashes.field-0.now in
    let grouped : (rest : List ℕ) → opening_quote (StrRaw n) ++ rest ≡ 114 ∷ (replicate n 35 ++ 34 ∷ rest) = λ rest. ap (λ u. 114 ∷ u) (append_assoc (replicate n 35) (34 ∷ []) rest) in
    match_other c.behind-2.result ((rest : List ℕ) → two ≡ 34 ∷ rest → ⊥) ((rest : List ℕ) → t ≡ opening_quote (StrRaw n) ++ rest → ⊥) (λ rest. two ≡ 34 ∷ rest.now) (λ rest. t ≡ opening_quote (StrRaw n) ++ rest.now)
    (λ none rest e. none rest (signs_none 114 34 n t one two rest c.in_ok-behind.ensures c.in_ok-behind_hashes.ensures (e ∙ grouped rest)))
    (λ rest e. signs_some 114 34 n t one two rest.now c.in_ok-behind.ensures c.in_ok-behind_hashes.ensures e ∙ sym (grouped rest.now)) c.behind-2.ensures
