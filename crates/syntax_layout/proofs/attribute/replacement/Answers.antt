use Rattle.std.proofs.Common.{◌≡◌, ℕ, List, true, rules}
use Rattle.syntax_layout.proofs.Recognized.{match_other}
use Rattle.syntax_layout.specs.Documented.{IsReplaced}
use Rattle.syntax_lex.specs.declared.token.DocStyle.{DocStyle}
use Rattle.syntax_lex.specs.declared.token.DocStyle.TheVariants.{Outer, Inner}
use Rattle.syntax_layout.proofs.attribute.replacement.Goals as goal

-- no attribute of a style may be replaced at the beginning of a text
abbrev IsNone : DocStyle → (t : List ℕ) → Type 0
IsNone style t = (doc ending rest : List ℕ) → IsReplaced style doc ending rest t → ⊥

either : (style : DocStyle) (t : List ℕ) → IsNone Outer t → IsNone Inner t → IsNone style t
either Outer t outer inner = outer
either Inner t outer inner = inner

pub returns-in-None : goal.returns-in-None
returns-in-None c =
    let t = c.args.text.now in
    let first : c.args.begins ≡ true = search rules in
    match_other c.comment_of-in-None.result (IsNone Inner t) ((style : DocStyle) (doc ending rest : List ℕ) → c.args.begins ≡ true → IsReplaced style doc ending rest t → ⊥)
    (λ found. IsReplaced found.style found.doc.now found.ending.now found.rest.now t) (λ found. (c.args.begins ≡ true) × IsReplaced found.style found.doc.now found.ending.now found.rest.now t)
    (λ none style doc ending rest e it. either style t c.in-None.ensures none doc ending rest it)
    (λ found it. (first, it)) c.comment_of-in-None.ensures
