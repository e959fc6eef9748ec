-- The words and the names so far, and those of what is left.
use Rattle.std.proofs.Common.{◌≡◌, ◌∙◌, ◌++◌, ◌∷◌, ℕ, List, ap, append_assoc, length, length-append, sym}
use Rattle.app_c.specs.Listings.{caller_words, callers_bytes, callers_words, ended, finding_bytes, finding_words, findings_bytes, findings_words}
use Rattle.expand_text.specs.declared.caller.Caller.{Caller}
use Rattle.expand_text.specs.declared.fault.Finding.{Finding}

-- The texts of one more finding are there.
pub finding_name : (bytes new : List ℕ) (it : Finding) (ahead behind : List Finding) → ahead ≡ it ∷ behind → new ≡ bytes ++ finding_bytes it
    → new ++ findings_bytes behind ≡ bytes ++ findings_bytes ahead
finding_name bytes new it ahead behind next is =
    ap (λ b. b ++ findings_bytes behind) is ∙ append_assoc bytes (finding_bytes it) (findings_bytes behind) ∙ ap (λ its. bytes ++ findings_bytes its) (sym next)

-- The words of one more finding are there.
pub finding_put : (bytes new words new_words : List ℕ) (it : Finding) (ahead behind : List Finding) → ahead ≡ it ∷ behind → new ≡ bytes ++ finding_bytes it
    → new_words ≡ words ++ finding_words (length bytes) it
    → new_words ++ findings_words (length new) behind ≡ words ++ findings_words (length bytes) ahead
finding_put bytes new words new_words it ahead behind next is words_are =
    ap (λ w. w ++ findings_words (length new) behind) words_are
    ∙ append_assoc words (finding_words (length bytes) it) (findings_words (length new) behind)
    ∙ ap (λ n. words ++ (finding_words (length bytes) it ++ findings_words n behind)) (ap length is ∙ length-append bytes (finding_bytes it))
    ∙ ap (λ its. words ++ findings_words (length bytes) its) (sym next)

-- The name of one more caller is there.
pub caller_name : (bytes new : List ℕ) (it : Caller) (ahead behind : List Caller) → ahead ≡ it ∷ behind → new ≡ bytes ++ ended it.name
    → new ++ callers_bytes behind ≡ bytes ++ callers_bytes ahead
caller_name bytes new it ahead behind next is =
    ap (λ b. b ++ callers_bytes behind) is ∙ append_assoc bytes (ended it.name) (callers_bytes behind) ∙ ap (λ its. bytes ++ callers_bytes its) (sym next)

-- The words of one more caller are there.
pub caller_put : (bytes new words new_words : List ℕ) (it : Caller) (ahead behind : List Caller) → ahead ≡ it ∷ behind → new ≡ bytes ++ ended it.name
    → new_words ≡ words ++ caller_words (length bytes) it
    → new_words ++ callers_words (length new) behind ≡ words ++ callers_words (length bytes) ahead
caller_put bytes new words new_words it ahead behind next is words_are =
    ap (λ w. w ++ callers_words (length new) behind) words_are
    ∙ append_assoc words (caller_words (length bytes) it) (callers_words (length new) behind)
    ∙ ap (λ n. words ++ (caller_words (length bytes) it ++ callers_words n behind)) (ap length is ∙ length-append bytes (ended it.name))
    ∙ ap (λ its. words ++ callers_words (length bytes) its) (sym next)
