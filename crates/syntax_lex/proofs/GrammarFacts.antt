-- A text in quotes is closed exactly if the grammar says so.
use Rattle.std.proofs.Common.{◌≡◌, ℕ, zero, suc, ◌≤◌, Bool, true, false, ◌&&◌, ◌==◌, cond, nat_le, List, [], ◌∷◌, ◌++◌, replicate, drop, refl, sym, ap, ◌∙◌, ⊎_elim, arith, length, length-append}
use Rattle.std.proofs.lemmas.Bool.{false≢true, and_right, cases_eq, ne_eqb, eq-eqb, cases_Bool, and_parts, eqb-true, le-leb, lt-leb, leb-true, leb-false}
use Rattle.syntax_lex.specs.Closing.{behind_quote, behind_raw, hashes_of}
use Rattle.syntax_lex.specs.Front.{first, skip}
use Rattle.syntax_lex.specs.Grammar.{IsRawText, IsStringText, nothing, plain, escape}
use Rattle.syntax_lex.proofs.ClosingFacts.{hashes_of-hash, hashes_of-other}

-- the text before the closing quote; after a backslash, one character comes first
abbrev Form : Bool → (cs rest : List ℕ) → Type 0
Form false cs rest = (body : List ℕ) × IsStringText body × (cs ≡ body ++ 34 ∷ rest)
Form true cs rest = (c : ℕ) × (body : List ℕ) × IsStringText body × (cs ≡ c ∷ (body ++ 34 ∷ rest))

pub form : (escaped : Bool) (cs rest : List ℕ) → behind_quote escaped cs ≡ (true, rest) → Form escaped cs rest
form true [] rest h = absurd (false≢true (ap (λ p. p.0) h))
form false [] rest h = absurd (false≢true (ap (λ p. p.0) h))
form true (c ∷ cs) rest h = let f = form false cs rest h in (c, f.0, f.1, ap (λ t. c ∷ t) f.2)
form false (c ∷ cs) rest h =
    ⊎_elim
    (λ e.
    let k : (true, cs) ≡ (true, rest) = ap (λ b. cond b (true, cs) (behind_quote (c == 92) cs)) (sym (eq-eqb c 34 e)) ∙ h in
    ([], nothing, ap (λ d. d ∷ cs) e ∙ ap (λ t. 34 ∷ t) (ap (λ p. p.1) k)))
    (λ ne.
    let k : behind_quote (c == 92) cs ≡ (true, rest) = ap (λ b. cond b (true, cs) (behind_quote (c == 92) cs)) (sym (ne_eqb c 34 ne)) ∙ h in
    ⊎_elim
    (λ b.
    let f = form true cs rest (ap (λ t. behind_quote t cs) (sym (eq-eqb c 92 b)) ∙ k) in
    (c ∷ f.0 ∷ f.1, escape b f.2, ap (λ t. c ∷ t) f.3))
    (λ nb.
    let f = form false cs rest (ap (λ t. behind_quote t cs) (sym (ne_eqb c 92 nb)) ∙ k) in
    (c ∷ f.0, plain ne nb f.1, ap (λ t. c ∷ t) f.2))
    (cases_eq c 92))
    (cases_eq c 34)

pub string_closed : (cs rest : List ℕ) → behind_quote false cs ≡ (true, rest) → (body : List ℕ) × IsStringText body × (cs ≡ body ++ 34 ∷ rest)
string_closed cs rest h = form false cs rest h

pub string_read : (body rest : List ℕ) → IsStringText body → behind_quote false (body ++ 34 ∷ rest) ≡ (true, rest)
string_read [] rest nothing = refl
string_read (c ∷ cs) rest (plain ne nb t) = rw (ne_eqb c 34 ne, ne_eqb c 92 nb) (string_read cs rest t)
string_read (b ∷ c ∷ cs) rest (escape e t) = rw e (string_read cs rest t)

-- the first `n` characters are hashes
pub hashes_front : (n : ℕ) (cs : List ℕ) → n ≤ hashes_of cs → cs ≡ replicate n 35 ++ drop n cs
hashes_front zero cs le = refl
hashes_front (suc n) [] le = absurd (omega arith)
hashes_front (suc n) (c ∷ cs) le =
    ⊎_elim (λ e. ap (λ d. d ∷ cs) e ∙ ap (λ t. 35 ∷ t) (hashes_front n cs (omega (arith, hashes_of-hash c cs e))))
    (λ ne. absurd (omega (arith, hashes_of-other c cs ne))) (cases_eq c 35)

-- a part begins with no more hashes than the whole
pub hashes_of-append : (xs ys : List ℕ) → hashes_of xs ≤ hashes_of (xs ++ ys)
hashes_of-append [] ys = omega arith
hashes_of-append (x ∷ xs) ys =
    ⊎_elim (λ e. omega (arith, hashes_of-hash x xs e, hashes_of-hash x (xs ++ ys) e, hashes_of-append xs ys)) (λ ne. omega (arith, hashes_of-other x xs ne)) (cases_eq x 35)

-- an empty text has no quote
raw_none : (n : ℕ) → IsRawText n []
raw_none n front behind is = absurd (omega (arith, ap length is, length-append front (34 ∷ behind)))

-- one more character that is no closing quote
raw_more : (n c : ℕ) (cs body tail : List ℕ) → ((c == 34) && nat_le n (hashes_of cs)) ≡ false → cs ≡ body ++ tail → IsRawText n body → IsRawText n (c ∷ body)
raw_more n c cs body tail fails at inside [] behind is =
    let few : nat_le n (hashes_of cs) ≡ false = ap (λ t. t && nat_le n (hashes_of cs)) (sym (eq-eqb c 34 (ap first is))) ∙ fails in
    omega (arith, leb-false n (hashes_of cs) few, ap hashes_of at, hashes_of-append body tail, ap (λ t. hashes_of (skip t)) is)
raw_more n c cs body tail fails at inside (x ∷ front) behind is = inside front behind (ap skip is)

pub raw_closed : (n : ℕ) (cs rest : List ℕ) → behind_raw n cs ≡ (true, rest) → (body : List ℕ) × IsRawText n body × (cs ≡ body ++ 34 ∷ (replicate n 35 ++ rest))
raw_closed n [] rest h = absurd (false≢true (ap (λ p. p.0) h))
raw_closed n (c ∷ cs) rest h =
    ⊎_elim
    (λ e.
    let p = and_parts (c == 34) (nat_le n (hashes_of cs)) e in
    let k : (true, drop n cs) ≡ (true, rest) = ap (λ b. cond b (true, drop n cs) (behind_raw n cs)) (sym e) ∙ h in
    ([], raw_none n, ap (λ d. d ∷ cs) (eqb-true c 34 p.0) ∙ ap (λ t. 34 ∷ t) (hashes_front n cs (leb-true n (hashes_of cs) p.1) ∙ ap (λ t. replicate n 35 ++ t) (ap (λ q. q.1) k))))
    (λ ne.
    let k : behind_raw n cs ≡ (true, rest) = ap (λ b. cond b (true, drop n cs) (behind_raw n cs)) (sym ne) ∙ h in
    let f = raw_closed n cs rest k in
    (c ∷ f.0, raw_more n c cs f.0 (34 ∷ (replicate n 35 ++ rest)) ne f.2 f.1, ap (λ t. c ∷ t) f.2))
    (cases_Bool ((c == 34) && nat_le n (hashes_of cs)))

-- a quote ends the hashes before it
hashes_before_quote : (xs ys : List ℕ) → hashes_of (xs ++ 34 ∷ ys) ≡ hashes_of xs
hashes_before_quote [] ys = refl
hashes_before_quote (x ∷ xs) ys =
    ⊎_elim (λ e. hashes_of-hash x (xs ++ 34 ∷ ys) e ∙ ap suc (hashes_before_quote xs ys) ∙ sym (hashes_of-hash x xs e))
    (λ ne. hashes_of-other x (xs ++ 34 ∷ ys) ne ∙ sym (hashes_of-other x xs ne)) (cases_eq x 35)

-- `n` hashes precede what follows them
hashes_enough : (n : ℕ) (rest : List ℕ) → (n ≤ hashes_of (replicate n 35 ++ rest)) × (drop n (replicate n 35 ++ rest) ≡ rest)
hashes_enough zero rest = (omega arith, refl)
hashes_enough (suc n) rest = (omega (arith, (hashes_enough n rest).0), (hashes_enough n rest).1)

pub raw_read : (n : ℕ) (body rest : List ℕ) → IsRawText n body → behind_raw n (body ++ 34 ∷ (replicate n 35 ++ rest)) ≡ (true, rest)
raw_read n [] rest inside =
    rw (le-leb n (hashes_of (replicate n 35 ++ rest)) (hashes_enough n rest).0) (ap (λ r. (true, r)) (hashes_enough n rest).1)
raw_read n (c ∷ cs) rest inside =
    let tail = replicate n 35 ++ rest in
    let others : IsRawText n cs = λ front behind is. inside (c ∷ front) behind (ap (λ t. c ∷ t) is) in
    let goes_on : ((c == 34) && nat_le n (hashes_of (cs ++ 34 ∷ tail))) ≡ false =
    ⊎_elim
    (λ e. and_right (c == 34) _ (lt-leb n (hashes_of (cs ++ 34 ∷ tail)) (omega (arith, inside [] cs (ap (λ d. d ∷ cs) e), hashes_before_quote cs tail))))
    (λ ne. ap (λ b. b && nat_le n (hashes_of (cs ++ 34 ∷ tail))) (ne_eqb c 34 ne))
    (cases_eq c 34) in
    rw goes_on (raw_read n cs rest others)
