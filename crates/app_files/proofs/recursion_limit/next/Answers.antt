-- Another attribute sets no limit.
use Rattle.std.proofs.Common.{◌≡◌, false, ◌&&◌, List, [], ◌∷◌, codes, None, Some, cond, refl, sym, ap, ◌∙◌}
use Rattle.std.specs.Prelude.{bytes_eq}
use Rattle.app_files.specs.RecursionLimit.{literal_at, literal_first, literal_in, or_else}
use Rattle.app_files.specs.TokenWords.{Word}
use Rattle.app_files.proofs.recursion_limit.next.Goals as goal

none_first : (word : Word) (words : List Word) → bytes_eq word (codes "recursion_limit") ≡ false → literal_first (word ∷ words) ≡ None
none_first word [] other = refl
none_first word (sign ∷ []) other = refl
none_first word (sign ∷ literal ∷ words) other = ap (λ b. cond (b && bytes_eq sign (codes "=")) (Some literal) None) other

pub returns-in-Open-2-clause-same : goal.returns-in-Open-2-clause-same
returns-in-Open-2-clause-same c = λ words.
    c.inside.ensures.same words
    ∙ sym (ap (λ it. or_else it (literal_in 1 (c.args.word.now ∷ words))) (none_first c.args.word.now words (sym c.if-eq-4.ensures)))
    ∙ sym (ap (λ it. literal_at it (c.args.word.now ∷ words)) c.in-Open-2.is)
