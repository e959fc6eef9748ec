-- The closing of a text, one character at a time.
use Rattle.std.proofs.Common.{◌≡◌, ℕ, zero, suc, ◌+◌, ◌-◌, ◌≤◌, min, true, false, ◌==◌, cond, List, [], ◌∷◌, length, drop, refl, ap, sym, ◌∙◌, arith, ⊎_elim, add-one, nat_le}
use Rattle.std.proofs.lemmas.Bool.{and_right, cases_eq, ne_eqb, eq-eqb, le-leb, lt-leb}
use Rattle.syntax_lex.specs.Front.{first, skip}
use Rattle.syntax_lex.specs.Closing.{behind_comment, behind_raw, closes_comment, hashes_of, opens_comment}

-- a comment, by its first two characters
pub comment_step : (inner c : ℕ) (cs : List ℕ) → behind_comment inner (c ∷ cs) ≡ cond (opens_comment c (first cs)) (behind_comment (inner + 1) (skip cs)) (cond (closes_comment c (first cs)) (cond (inner == 0) (true, skip cs) (behind_comment (inner - 1) (skip cs))) (behind_comment inner cs))
comment_step inner c [] = rw (and_right (c == 47) false refl, and_right (c == 42) false refl) refl
comment_step inner c (e ∷ cs) = refl

module _ (inner c next : ℕ) (text cs rest : List ℕ) (is : text ≡ c ∷ cs) (next_is : next ≡ first cs) where
  pub comment_opens : opens_comment c next ≡ true → rest ≡ skip cs → behind_comment (inner + 1) rest ≡ behind_comment inner text
  comment_opens opens behind =
      let o : opens_comment c (first cs) ≡ true = ap (λ d. opens_comment c d) (sym next_is) ∙ opens in
      ap (behind_comment (inner + 1)) behind ∙ sym (ap (behind_comment inner) is ∙ comment_step inner c cs ∙ rw o refl)

  pub comment_closes : opens_comment c next ≡ false → closes_comment c next ≡ true → (inner ≡ 0 → ⊥) → rest ≡ skip cs → behind_comment (inner - 1) rest ≡ behind_comment inner text
  comment_closes opens closes some behind =
      let o : opens_comment c (first cs) ≡ false = ap (λ d. opens_comment c d) (sym next_is) ∙ opens in
      let k : closes_comment c (first cs) ≡ true = ap (λ d. closes_comment c d) (sym next_is) ∙ closes in
      ap (behind_comment (inner - 1)) behind ∙ sym (ap (behind_comment inner) is ∙ comment_step inner c cs ∙ rw (o, k, ne_eqb inner 0 some) refl)

  pub comment_ends : opens_comment c next ≡ false → closes_comment c next ≡ true → inner ≡ 0 → rest ≡ skip cs → behind_comment inner text ≡ (true, rest)
  comment_ends opens closes none behind =
      let o : opens_comment c (first cs) ≡ false = ap (λ d. opens_comment c d) (sym next_is) ∙ opens in
      let k : closes_comment c (first cs) ≡ true = ap (λ d. closes_comment c d) (sym next_is) ∙ closes in
      ap (behind_comment inner) is ∙ comment_step inner c cs ∙ rw (o, k, eq-eqb inner 0 none) (ap (λ r. (true, r)) (sym behind))

  pub comment_goes_on : opens_comment c next ≡ false → closes_comment c next ≡ false → behind_comment inner cs ≡ behind_comment inner text
  comment_goes_on opens closes =
      let o : opens_comment c (first cs) ≡ false = ap (λ d. opens_comment c d) (sym next_is) ∙ opens in
      let k : closes_comment c (first cs) ≡ false = ap (λ d. closes_comment c d) (sym next_is) ∙ closes in
      sym (ap (behind_comment inner) is ∙ comment_step inner c cs ∙ rw (o, k) refl)

-- hashes at the front
pub hashes_of-hash : (c : ℕ) (cs : List ℕ) → c ≡ 35 → hashes_of (c ∷ cs) ≡ suc (hashes_of cs)
hashes_of-hash c cs e = rw e refl

pub hashes_of-other : (c : ℕ) (cs : List ℕ) → (c ≡ 35 → ⊥) → hashes_of (c ∷ cs) ≡ 0
hashes_of-other c cs ne = rw (ne_eqb c 35 ne) refl

pub hashes_of-le : (cs : List ℕ) → hashes_of cs ≤ length cs
hashes_of-le [] = omega arith
hashes_of-le (c ∷ cs) =
    ⊎_elim (λ e. omega (arith, hashes_of-hash c cs e, hashes_of-le cs)) (λ ne. omega (arith, hashes_of-other c cs ne)) (cases_eq c 35)

pub hashes_of-skip : (cs : List ℕ) → first cs ≡ 35 → hashes_of cs ≡ suc (hashes_of (skip cs))
hashes_of-skip [] h = absurd (omega arith)
hashes_of-skip (c ∷ cs) h = hashes_of-hash c cs h

pub hashes_of-none : (cs : List ℕ) → (first cs ≡ 35 → ⊥) → hashes_of cs ≡ 0
hashes_of-none [] h = refl
hashes_of-none (c ∷ cs) h = hashes_of-other c cs h

pub skip-drop : (n : ℕ) (cs : List ℕ) → skip (drop n cs) ≡ drop (suc n) cs
skip-drop zero [] = refl
skip-drop zero (c ∷ cs) = refl
skip-drop (suc n) [] = refl
skip-drop (suc n) (c ∷ cs) = skip-drop n cs

-- one hash more counts
pub hash_step : (n : ℕ) (text cs rest : List ℕ) → first cs ≡ 35 → rest ≡ skip cs → n + hashes_of cs ≡ hashes_of text → cs ≡ drop n text → (n + 1 + hashes_of rest ≡ hashes_of text) × (rest ≡ drop (n + 1) text)
hash_step n text cs rest hash behind sum at = (
  omega (arith, hashes_of-skip cs hash, ap hashes_of behind),
  behind ∙ ap skip at ∙ skip-drop n text ∙ ap (λ k. drop k text) (sym (add-one n)),
)

-- hashes close no raw text
pub behind_raw-hash : (n c : ℕ) (cs : List ℕ) → c ≡ 35 → behind_raw n (c ∷ cs) ≡ behind_raw n cs
behind_raw-hash n c cs e = rw e refl

pub behind_raw-drop : (n k : ℕ) (cs : List ℕ) → k ≤ hashes_of cs → behind_raw n (drop k cs) ≡ behind_raw n cs
behind_raw-drop n zero cs le = refl
behind_raw-drop n (suc k) [] le = refl
behind_raw-drop n (suc k) (c ∷ cs) le =
    ⊎_elim (λ e. behind_raw-drop n k cs (omega (arith, hashes_of-hash c cs e)) ∙ sym (behind_raw-hash n c cs e))
    (λ ne. absurd (omega (arith, hashes_of-other c cs ne))) (cases_eq c 35)

-- a quote with too few hashes closes no raw text
pub raw_goes_on : (n c count : ℕ) (text cs rest : List ℕ) → text ≡ c ∷ cs → count ≡ min n (hashes_of cs) → (count ≡ n → ⊥) → rest ≡ drop count cs → behind_raw n rest ≡ behind_raw n text
raw_goes_on n c count text cs rest is counted few behind =
    let no : nat_le n (hashes_of cs) ≡ false = lt-leb n (hashes_of cs) (omega arith) in
    ap (behind_raw n) behind ∙ behind_raw-drop n count cs (omega arith) ∙ sym (ap (behind_raw n) is ∙ rw (and_right (c == 34) _ no) refl)

-- a quote with enough hashes closes it
pub raw_ends : (n c count : ℕ) (text cs rest : List ℕ) → text ≡ c ∷ cs → c ≡ 34 → count ≡ min n (hashes_of cs) → count ≡ n → rest ≡ drop count cs → behind_raw n text ≡ (true, rest)
raw_ends n c count text cs rest is quote counted all behind =
    let enough : nat_le n (hashes_of cs) ≡ true = le-leb n (hashes_of cs) (omega arith) in
    ap (behind_raw n) is ∙ rw (eq-eqb c 34 quote, enough) (ap (λ r. (true, r)) (ap (λ k. drop k cs) (sym all) ∙ sym behind))
