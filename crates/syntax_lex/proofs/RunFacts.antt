-- A run of characters that close nothing can be skipped in the search for the closing.
use Rattle.std.proofs.Common.{◌≡◌, ℕ, true, false, ◌==◌, ◌||◌, List, [], ◌∷◌, refl, sym, ap, subst, ◌∙◌, ⊎_elim}
use Rattle.std.proofs.lemmas.Bool.{cases_eq, eq-eqb, eqb-true, ne_eqb, not-false}
use Rattle.syntax_lex.specs.Closing.{behind_comment, behind_quote, behind_raw}
use Rattle.syntax_lex.specs.Front.{behind, skip}
use Rattle.syntax_lex.specs.Stop.{is_no_mark, is_no_quote, is_plain}
use Rattle.syntax_lex.proofs.ByteFacts.{behind_head, behind_no, behind_yes}
use Rattle.syntax_lex.proofs.ClosingFacts.{comment_step}

-- a string, after its plain characters
pub quote_plain : (cs : List ℕ) → behind_quote false (behind is_plain cs) ≡ behind_quote false cs
quote_plain [] = refl
quote_plain (c ∷ cs) =
    ⊎_elim (λ e. ap (behind_quote false) (behind_no is_plain c cs _ refl (rw e refl)))
    (λ ne. ⊎_elim (λ e. ap (behind_quote false) (behind_no is_plain c cs _ refl (rw e refl)))
    (λ nb. rw (ne_eqb c 34 ne, ne_eqb c 92 nb) (quote_plain cs))
    (cases_eq c 92)) (cases_eq c 34)

-- a raw text, after characters that are no quote
pub raw_plain : (n : ℕ) (cs : List ℕ) → behind_raw n (behind is_no_quote cs) ≡ behind_raw n cs
raw_plain n [] = refl
raw_plain n (c ∷ cs) =
    ⊎_elim (λ e. ap (behind_raw n) (behind_no is_no_quote c cs _ refl (rw e refl))) (λ ne. rw (ne_eqb c 34 ne) (raw_plain n cs)) (cases_eq c 34)

-- a comment, after characters that are no mark
pub comment_plain : (n : ℕ) (cs : List ℕ) → behind_comment n (behind is_no_mark cs) ≡ behind_comment n cs
comment_plain n [] = refl
comment_plain n (c ∷ cs) =
    ⊎_elim (λ e. ap (behind_comment n) (behind_no is_no_mark c cs _ refl (rw e refl)))
    (λ ne. ⊎_elim (λ e. ap (behind_comment n) (behind_no is_no_mark c cs _ refl (rw e refl)))
    (λ nb. ap (behind_comment n) (sym (behind_yes is_no_mark c cs _ refl (rw (ne_eqb c 47 ne, ne_eqb c 42 nb) refl))) ∙ comment_plain n cs ∙ sym (comment_step n c cs ∙ rw (ne_eqb c 47 ne, ne_eqb c 42 nb) refl))
    (cases_eq c 42)) (cases_eq c 47)

module _ (text past : List ℕ) (passed : past ≡ behind is_plain text) where
  pub quote_passed : behind_quote false past ≡ behind_quote false text
  quote_passed = ap (behind_quote false) passed ∙ quote_plain text

  -- a quote closes the string
  pub quote_closes : (c : ℕ) (more : List ℕ) → past ≡ c ∷ more → c ≡ 34 → behind_quote false text ≡ (true, more)
  quote_closes c more is e = sym quote_passed ∙ ap (behind_quote false) is ∙ rw (eq-eqb c 34 e) refl

  -- and a backslash takes the next character with it
  pub quote_skips : (c : ℕ) (more rest : List ℕ) → past ≡ c ∷ more → (c ≡ 34 → ⊥) → rest ≡ skip more → behind_quote false rest ≡ behind_quote false text
  quote_skips c more rest is ne behind_it =
      let stop : (c == 34) || (c == 92) ≡ true = not-false _ (behind_head is_plain text c more (sym passed ∙ is)) in
      let back : (c == 92) ≡ true = subst (λ b. b || (c == 92) ≡ true) (ne_eqb c 34 ne) stop in
      ap (behind_quote false) behind_it ∙ skipped more ∙ sym (sym quote_passed ∙ ap (behind_quote false) is ∙ rw (ne_eqb c 34 ne, back) refl)
    where
      skipped : (cs : List ℕ) → behind_quote false (skip cs) ≡ behind_quote true cs
      skipped [] = refl
      skipped (d ∷ ds) = refl

  -- a string with neither is open
  pub quote_open : past ≡ [] → behind_quote false text ≡ (false, [])
  quote_open none = sym quote_passed ∙ ap (behind_quote false) none

module _ (n : ℕ) (text past : List ℕ) (passed : past ≡ behind is_no_quote text) where
  pub raw_passed : behind_raw n past ≡ behind_raw n text
  raw_passed = ap (behind_raw n) passed ∙ raw_plain n text

  -- a run ends before a quote
  pub raw_quote : (c : ℕ) (more : List ℕ) → past ≡ c ∷ more → c ≡ 34
  raw_quote c more is = eqb-true c 34 (not-false _ (behind_head is_no_quote text c more (sym passed ∙ is)))

  pub raw_open : past ≡ [] → behind_raw n text ≡ (false, [])
  raw_open none = sym raw_passed ∙ ap (behind_raw n) none

module _ (n : ℕ) (text past : List ℕ) (passed : past ≡ behind is_no_mark text) where
  pub comment_passed : behind_comment n past ≡ behind_comment n text
  comment_passed = ap (behind_comment n) passed ∙ comment_plain n text

  pub comment_open : past ≡ [] → behind_comment n text ≡ (false, [])
  comment_open none = sym comment_passed ∙ ap (behind_comment n) none
