use Rattle.std.proofs.Common.{◌≡◌, ℕ, List, ◌∷◌, ◌++◌}
use Rattle.syntax_layout.proofs.Recognized.{match_other, signs_none, signs_some}
use Rattle.tt_base.specs.LeafText.{closing_quote}
use Rattle.tt_base.specs.declared.literal.LitKind.TheVariants.{StrRaw}
use Rattle.syntax_layout.proofs.attribute.behind_closing.Goals as goal

pub returns : goal.returns
returns c =
    let n = c.args.hashes in
    let t = c.args.text.now in
    let one = c.in_ok-behind.field-0.now in
    let two = c.in_ok-behind_hashes.field-0.now in
    match_other c.behind-2.result ((rest : List ℕ) → two ≡ 93 ∷ rest → ⊥) ((rest : List ℕ) → t ≡ closing_quote (StrRaw n) ++ 93 ∷ rest → ⊥) (λ rest. two ≡ 93 ∷ rest.now) (λ rest. t ≡ closing_quote (StrRaw n) ++ 93 ∷ rest.now)
    (λ none rest e. none rest (signs_none 34 93 n t one two rest c.in_ok-behind.ensures c.in_ok-behind_hashes.ensures e))
    (λ rest e. signs_some 34 93 n t one two rest.now c.in_ok-behind.ensures c.in_ok-behind_hashes.ensures e) c.behind-2.ensures
