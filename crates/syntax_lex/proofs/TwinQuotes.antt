-- Closed parts of two texts that begin alike: strings, raw texts, characters and comments.
use Rattle.std.proofs.Common.{◌≡◌, ◌⊎◌, inl, inr, ℕ, zero, suc, ◌+◌, ◌-◌, ◌<◌, ◌≤◌, Bool, true, false, ◌==◌, ◌&&◌, not, List, [], ◌∷◌, length, drop, Option, None, is_some, refl, sym, ap, ◌∙◌, subst, arith, nat_le, if◌then◌else◌}
use Rattle.std.proofs.lemmas.Bool.{false≢true, cond_both, eqb-true, le-leb, leb-true}
use Rattle.syntax_lex.proofs.EndFacts.{behind_apostrophe_end, behind_comment_end, behind_quote_end, behind_raw_end, drop_end, raw_body_end, skip_end}
use Rattle.syntax_lex.specs.Closing.{behind_comment, behind_quote, behind_raw, closes_comment, counted, hashes_of, opens_comment, raw_body, raw_text}
use Rattle.syntax_lex.specs.Front.{first, second, skip}
use Rattle.syntax_lex.specs.Quoted.{behind_apostrophe, gives_up, quoted_char}
use Rattle.syntax_lex.proofs.KeepFacts.{IsPlain}
use Rattle.syntax_lex.proofs.Twins.{Alike, IsShort, Held, Stays, Twins, branch, end_le, ends, enough, front, held_of, little, next_of, not_taken, off, short_plain, taken}

-- the part is closed, and no less than r is left
pub record Shut (r : List ℕ) (found : Bool × List ℕ) : Type 0 where
  pub closed : found.0 ≡ true
  pub held : Held r found.1

-- the same for a raw text, with its number of hashes
pub record Counts (r : List ℕ) (found : Option ℕ × List ℕ) : Type 0 where
  pub closed : is_some found.0 ≡ true
  pub held : Held r found.1

-- a closed part takes something of a text, and a short text closes nothing
pub record Closes {K : Type 0} (closed : K → Bool) (find : List ℕ → K × List ℕ) : Type 0 where
  pub takes : (r : List ℕ) → closed (find r).0 ≡ true → length (find r).1 < length r
  pub fails : (c : ℕ) → IsPlain c → closed (find (c ∷ [])).0 ≡ false

-- so r closes nothing
never : {K : Type 0} {closed : K → Bool} {find : List ℕ → K × List ℕ} → Closes closed find → {r : List ℕ} → closed (find r).0 ≡ true → Held r (find r).1 → ⊥
never {closed = closed} {find = find} it {r = r} is held = not_taken held (it.takes r is) (by r is)
  where
    by : (t : List ℕ) → closed (find t).0 ≡ true → IsShort t → ⊥
    by [] h k = let less = it.takes [] h in omega (arith, less)
    by (c ∷ []) h k = false≢true (sym (it.fails c k) ∙ h)
    by (c ∷ d ∷ cs) h k = k

pub and_none : (b : Bool) → (b && false) ≡ false
and_none true = refl
and_none false = refl

-- a string
quote_takes : (escaped : Bool) (r : List ℕ) → (behind_quote escaped r).0 ≡ true → length (behind_quote escaped r).1 < length r
quote_takes true [] is = absurd (false≢true is)
quote_takes false [] is = absurd (false≢true is)
quote_takes true (c ∷ cs) is = let le = end_le (behind_quote_end false cs) in omega (arith, le)
quote_takes false (c ∷ cs) is = cond_both (c == 34) (true, cs) (behind_quote (c == 92) cs) (λ x. length x.1 < suc (length cs)) (λ e. omega arith) (λ e. omega (arith, end_le (behind_quote_end (c == 92) cs)))

quote_nil : (escaped : Bool) → (behind_quote escaped []).0 ≡ false
quote_nil true = refl
quote_nil false = refl

quote_closes : (escaped : Bool) → Closes (λ b. b) (behind_quote escaped)
quote_closes true = record { takes = quote_takes true; fails = λ c p. refl }
quote_closes false = record { takes = quote_takes false; fails = λ c p. rw (p.no_quote) (quote_nil (c == 92)) }

-- the rest after the quote that closes a string
pub quote_twins : {r s a b : List ℕ} (escaped : Bool) → Twins r s a b → Shut r (behind_quote escaped a) → Alike r s (behind_quote escaped a) (behind_quote escaped b)
quote_twins escaped ends m = absurd (never (quote_closes escaped) m.closed m.held)
quote_twins true (front t) m = quote_twins false t m
quote_twins {r = r} {s = s} false (front {c = c} t) m = branch (Shut r) (Alike r s) (c == 34) _ _ _ _ (λ is h. record { kind = refl; left = t }) (λ is h. quote_twins (c == 92) t h) m

-- a raw text, after its quote
raw_takes : (n : ℕ) (r : List ℕ) → (behind_raw n r).0 ≡ true → length (behind_raw n r).1 < length r
raw_takes n [] is = absurd (false≢true is)
raw_takes n (c ∷ cs) is =
    cond_both ((c == 34) && nat_le n (hashes_of cs)) (true, drop n cs) (behind_raw n cs) (λ x. length x.1 < suc (length cs)) (λ e. omega (arith, end_le (drop_end n cs))) (λ e. omega (arith, end_le (behind_raw_end n cs)))

raw_closes : (n : ℕ) → Closes (λ b. b) (behind_raw n)
raw_closes n = record { takes = raw_takes n; fails = λ c p. rw (p.no_quote) refl }

held_more : {r left : List ℕ} (more : List ℕ) → Held r left → length left ≤ length more → Held r more
held_more more (enough h) le = enough (omega (arith, h, le))
held_more more (little h) le = little h

-- Both texts begin with equally many hashes, or all before r is hashes.
hash_twins : {r s a b : List ℕ} → Twins r s a b → (hashes_of a ≡ hashes_of b) ⊎ (((n : ℕ) → behind_raw n a ≡ behind_raw n r) × (drop (hashes_of a) a ≡ drop (hashes_of r) r))
hash_twins ends = inr (λ n. refl, refl)
hash_twins {r = r} {s = s} (front {c = c} {a = a} {b = b} t) = go (c == 35) refl (hash_twins t)
  where
    Same : (a b : List ℕ) → Type 0
    Same a b = (hashes_of a ≡ hashes_of b) ⊎ (((n : ℕ) → behind_raw n a ≡ behind_raw n r) × (drop (hashes_of a) a ≡ drop (hashes_of r) r))

    go : (h : Bool) → (c == 35) ≡ h → Same a b → Same (c ∷ a) (c ∷ b)
    go false e ih = inl (rw e refl)
    go true e (inl same) = inl (rw e (ap suc same))
    go true e (inr (raws, rest)) = subst (λ x. Same (x ∷ a) (x ∷ b)) (sym (eqb-true c 35 e)) (inr (raws, rest))

-- the rest after hashes at the front
drop_twins : {r s a b : List ℕ} (n : ℕ) → Twins r s a b → n ≤ hashes_of a → Held r (drop n a) → Twins r s (drop n a) (drop n b) × (n ≤ hashes_of b)
drop_twins zero t le held = (t, omega arith)
drop_twins {r = []} (suc n) ends le held = absurd (omega (arith, le))
drop_twins {r = c ∷ cs} (suc n) ends le held = absurd (not_taken held (omega (arith, end_le (drop_end n cs))) (λ h. by (short_plain (c ∷ cs) h).no_hash))
  where
    by : (c == 35) ≡ false → ⊥
    by e = let none : suc n ≤ 0 = subst (λ w. suc n ≤ (if w then suc (hashes_of cs) else 0)) e le in omega (arith, none)
drop_twins {r = r} {s = s} (suc n) (front {c = c} {a = a} {b = b} t) le held = go (c == 35) refl (λ h. drop_twins n t h held)
  where
    go : (w : Bool) → (c == 35) ≡ w → (n ≤ hashes_of a → Twins r s (drop n a) (drop n b) × (n ≤ hashes_of b)) → Twins r s (drop n a) (drop n b) × (suc n ≤ hashes_of (c ∷ b))
    go true e ih =
        let more : suc n ≤ suc (hashes_of a) = subst (λ w. suc n ≤ (if w then suc (hashes_of a) else 0)) e le in
        let it = ih (omega (arith, more)) in
        (it.0, subst (λ w. suc n ≤ (if w then suc (hashes_of b) else 0)) (sym e) (omega (arith, it.1)))
    go false e ih = let none : suc n ≤ 0 = subst (λ w. suc n ≤ (if w then suc (hashes_of a) else 0)) e le in absurd (omega (arith, none))

-- the rest after the quote and the hashes that close a raw text
raw_twins : {r s a b : List ℕ} (n : ℕ) → Twins r s a b → Shut r (behind_raw n a) → Alike r s (behind_raw n a) (behind_raw n b)
raw_twins n ends m = absurd (never (raw_closes n) m.closed m.held)
raw_twins {r = r} {s = s} n (front {c = c} {a = a} {b = b} t) m = go (c == 34) refl (nat_le n (hashes_of a)) refl (λ h. raw_twins n t h) m
  where
    raw_if : (quote many : Bool) → List ℕ → Bool × List ℕ
    raw_if quote many cs = if quote && many then (true, drop n cs) else behind_raw n cs

    go : (q : Bool) → (c == 34) ≡ q → (m : Bool) → nat_le n (hashes_of a) ≡ m → (Shut r (behind_raw n a) → Alike r s (behind_raw n a) (behind_raw n b))
        → Shut r (raw_if q m a) → Alike r s (raw_if (c == 34) m a) (raw_if (c == 34) (nat_le n (hashes_of b)) b)
    go false e m k ih h = rw e (ih h)
    go true e true k ih h =
        let it = drop_twins n t (leb-true n (hashes_of a) k) h.held in
        rw (e, le-leb n (hashes_of b) it.1) (record { kind = refl; left = it.0 })
    go true e false k ih h = by (hash_twins t)
      where
        by : (hashes_of a ≡ hashes_of b) ⊎ (((n : ℕ) → behind_raw n a ≡ behind_raw n r) × (drop (hashes_of a) a ≡ drop (hashes_of r) r)) → Alike r s (raw_if (c == 34) false a) (raw_if (c == 34) (nat_le n (hashes_of b)) b)
        by (inl same) = rw (e, sym (ap (nat_le n) same) ∙ k) (ih h)
        by (inr (raws, rest)) = let at = subst (Shut r) (raws n) h in absurd (never (raw_closes n) at.closed at.held)

closed_counted : (closed : Bool) (n : ℕ) → is_some (counted closed n) ≡ true → closed ≡ true
closed_counted true n h = refl
closed_counted false n h = absurd (false≢true h)

-- a raw text with its quote
body_takes : (n : ℕ) (r : List ℕ) → is_some (raw_body n r).0 ≡ true → length (raw_body n r).1 < length r
body_takes n [] is = absurd (false≢true is)
body_takes n (c ∷ cs) is =
    cond_both {A = Option ℕ × List ℕ} (c == 34) (counted (behind_raw n cs).0 n, (behind_raw n cs).1) (None, cs) (λ x. length x.1 < suc (length cs)) (λ e. omega (arith, end_le (behind_raw_end n cs))) (λ e. omega arith)

body_closes : (n : ℕ) → Closes is_some (raw_body n)
body_closes n = record { takes = body_takes n; fails = λ c p. rw (p.no_quote) refl }

body_twins : {r s a b : List ℕ} (n : ℕ) → Twins r s a b → Counts r (raw_body n a) → Alike r s (raw_body n a) (raw_body n b)
body_twins n ends m = absurd (never (body_closes n) m.closed m.held)
body_twins {r = r} {s = s} n (front {c = c} {a = a} t) m =
    branch (Counts r) (Alike r s) (c == 34) _ _ _ _
    (λ is h. let it = raw_twins n t (record { closed = closed_counted (behind_raw n a).0 n h.closed; held = h.held }) in record { kind = ap (λ b. counted b n) it.kind; left = it.left })
    (λ is h. absurd (false≢true h.closed)) m

-- a raw text, after its letters
raw_text_takes : (r : List ℕ) → is_some (raw_text r).0 ≡ true → length (raw_text r).1 < length r
unfolding raw_text
raw_text_takes r is = omega (arith, body_takes (hashes_of r) (drop (hashes_of r) r) is, end_le (drop_end (hashes_of r) r))

pub raw_text_closes : Closes is_some raw_text
unfolding raw_text
raw_text_closes = record { takes = raw_text_takes; fails = λ c p. rw (p.no_hash, p.no_quote) refl }

pub no_raw_text : {r : List ℕ} → Counts r (raw_text r) → ⊥
no_raw_text m = never raw_text_closes m.closed m.held

pub raw_text_twins : {r s a b : List ℕ} → Twins r s a b → Counts r (raw_text a) → Alike r s (raw_text a) (raw_text b)
unfolding raw_text
raw_text_twins {r = r} {s = s} {a = a} {b = b} t m = by (hash_twins t)
  where
    n : ℕ
    n = hashes_of a

    by : (hashes_of a ≡ hashes_of b) ⊎ (((n : ℕ) → behind_raw n a ≡ behind_raw n r) × (drop (hashes_of a) a ≡ drop (hashes_of r) r)) → Alike r s (raw_text a) (raw_text b)
    by (inl same) =
        let left = drop_twins n t (omega arith) (held_more (drop n a) m.held (end_le (raw_body_end n (drop n a)))) in
        subst (λ k. Alike r s (raw_body n (drop n a)) (raw_body k (drop k b))) same (body_twins n left.0 m)
    by (inr (raws, rest)) =
        let at = subst (λ x. Counts r (raw_body n x)) rest m in
        let less = body_takes n (drop (hashes_of r) r) at.closed in
        absurd (not_taken at.held (omega (arith, less, end_le (drop_end (hashes_of r) r))) (λ h. none r h (ap (λ x. is_some (raw_body n x).0) (sym rest) ∙ m.closed)))
      where
        none : (t : List ℕ) → IsShort t → is_some (raw_body n (drop (hashes_of t) t)).0 ≡ true → ⊥
        none [] h k = false≢true k
        none (c ∷ []) h k = false≢true (sym (lone c h) ∙ k)
          where
            lone : (c : ℕ) → IsPlain c → is_some (raw_body n (drop (hashes_of (c ∷ [])) (c ∷ []))).0 ≡ false
            lone c p = rw (p.no_hash) (rw (p.no_quote) refl)
        none (c ∷ d ∷ cs) h k = h

-- the rest after the quote that closes a character
apostrophe_takes : (escaped : Bool) (r : List ℕ) → (behind_apostrophe escaped r).0 ≡ true → length (behind_apostrophe escaped r).1 < length r
apostrophe_takes true [] is = absurd (false≢true is)
apostrophe_takes false [] is = absurd (false≢true is)
apostrophe_takes true (c ∷ cs) is = let le = end_le (behind_apostrophe_end false cs) in omega (arith, le)
apostrophe_takes false (c ∷ cs) is =
    cond_both {A = Bool × List ℕ} (c == 39) (true, cs) _ (λ x. x.0 ≡ true → length x.1 < suc (length cs)) (λ e h. omega arith)
    (λ e. cond_both {A = Bool × List ℕ} (gives_up c (first cs)) (false, c ∷ cs) (behind_apostrophe (c == 92) cs) (λ x. x.0 ≡ true → length x.1 < suc (length cs)) (λ k h. absurd (false≢true h))
    (λ k h. omega (arith, end_le (behind_apostrophe_end (c == 92) cs)))) is

apostrophe_nil : (escaped : Bool) → (behind_apostrophe escaped []).0 ≡ false
apostrophe_nil true = refl
apostrophe_nil false = refl

apostrophe_closes : (escaped : Bool) → Closes (λ b. b) (behind_apostrophe escaped)
apostrophe_closes true = record { takes = apostrophe_takes true; fails = λ c p. refl }
apostrophe_closes false = record {
  takes = apostrophe_takes false;
  fails = λ c p. rw (p.no_apostrophe) (cond_both (gives_up c 0) (false, c ∷ []) (behind_apostrophe (c == 92) []) (λ x. x.0 ≡ false) (λ e. refl) (λ e. apostrophe_nil (c == 92)));
}

apostrophe_twins : {r s a b : List ℕ} (escaped : Bool) → Twins r s a b → Shut r (behind_apostrophe escaped a) → Alike r s (behind_apostrophe escaped a) (behind_apostrophe escaped b)
apostrophe_twins escaped ends m = absurd (never (apostrophe_closes escaped) m.closed m.held)
apostrophe_twins true (front t) m = apostrophe_twins false t m
apostrophe_twins {r = r} {s = s} false (front {c = c} ends) m =
    branch (Shut r) (Alike r s) (c == 39) _ _ _ _ (λ is h. record { kind = refl; left = ends })
    (λ is h. absurd (cond_both (gives_up c (first r)) (false, c ∷ r) (behind_apostrophe (c == 92) r) (λ x. Shut r x → ⊥) (λ e k. false≢true k.closed) (λ e k. never (apostrophe_closes (c == 92)) k.closed k.held) h)) m
apostrophe_twins {r = r} {s = s} false (front {c = c} (front {c = d} t)) m =
    branch (Shut r) (Alike r s) (c == 39) _ _ _ _ (λ is h. record { kind = refl; left = front t })
    (λ is h. branch (Shut r) (Alike r s) (gives_up c d) _ _ _ _ (λ e k. absurd (false≢true k.closed)) (λ e k. apostrophe_twins (c == 92) (front {c = d} t) k) h) m

-- a character, after its first quote
char_takes : (r : List ℕ) → (quoted_char r).0 ≡ true → length (quoted_char r).1 < length r
unfolding quoted_char
char_takes [] is = absurd (false≢true is)
char_takes (c ∷ cs) is =
    cond_both {A = Bool × List ℕ} ((first cs == 39) && not (c == 92)) (true, skip cs) (behind_apostrophe false (c ∷ cs)) (λ x. x.0 ≡ true → length x.1 < suc (length cs)) (λ e h. omega (arith, end_le (skip_end cs)))
    (λ e h. apostrophe_takes false (c ∷ cs) h) is

pub char_closes : Closes (λ b. b) quoted_char
unfolding quoted_char
char_closes = record { takes = char_takes; fails = λ c p. (apostrophe_closes false).fails c p }

pub no_char : {r : List ℕ} → Shut r (quoted_char r) → ⊥
no_char m = never char_closes m.closed m.held

pub char_twins : {r s a b : List ℕ} → Twins r s a b → (quoted_char a).0 ≡ true → Stays r s (quoted_char a).1 → Alike r s (quoted_char a) (quoted_char b)
unfolding quoted_char
char_twins ends closed stays = absurd (no_char (record { closed = closed; held = held_of stays }))
char_twins {r = r} {s = s} (front {c = c} ends) closed stays = go (first r == 39) refl (not (c == 92)) refl closed stays
  where
    picked : (single : Bool) → List ℕ → Bool × List ℕ
    picked single t = if single then (true, skip t) else behind_apostrophe false (c ∷ t)

    found : (behind_apostrophe false (c ∷ r)).0 ≡ true → Stays r s (behind_apostrophe false (c ∷ r)).1 → Alike r s (behind_apostrophe false (c ∷ r)) (behind_apostrophe false (c ∷ s))
    found h k = apostrophe_twins false (front {c = c} ends) (record { closed = h; held = held_of k })

    go : (q : Bool) → (first r == 39) ≡ q → (n : Bool) → not (c == 92) ≡ n → (picked (q && n) r).0 ≡ true → Stays r s (picked (q && n) r).1 → Alike r s (picked (q && n) r) (picked ((first s == 39) && not (c == 92)) s)
    go true e true k h j = absurd (taken (λ d. d == 39) (λ d p. p.no_apostrophe) e (omega arith) (held_of j))
    go true e false k h j = rw k (rw (and_none (first s == 39)) (found h j))
    go false e n k h j =
        let le : length (behind_apostrophe false (c ∷ r)).1 ≤ length r = omega (arith, apostrophe_takes false (c ∷ r) h) in
        let next : (first s == 39) ≡ false = off (λ d. d == 39) (λ d p. p.no_apostrophe) e (next_of j le) in
        subst (λ q. Alike r s (behind_apostrophe false (c ∷ r)) (picked (q && not (c == 92)) s)) (sym next) (found h j)
char_twins {r = r} {s = s} (front {c = c} (front {c = d} t)) closed stays =
    branch (Shut r) (Alike r s) ((d == 39) && not (c == 92)) _ _ _ _ (λ is h. record { kind = refl; left = t }) (λ is h. apostrophe_twins false (front {c = c} (front {c = d} t)) h)
    (record { closed = closed; held = held_of stays })

-- the rest after the sign that closes a comment, which takes two characters
comment_takes : (inner c : ℕ) (r : List ℕ) → (behind_comment inner (c ∷ r)).0 ≡ true → length (behind_comment inner (c ∷ r)).1 < length r
comment_takes inner c [] is = absurd (false≢true is)
comment_takes inner c (e ∷ cs) is =
    cond_both (opens_comment c e) (behind_comment (inner + 1) cs) _ Less (λ o h. omega (arith, end_le (behind_comment_end (inner + 1) cs)))
    (λ o. cond_both (closes_comment c e) _ (behind_comment inner (e ∷ cs)) Less
    (λ k. cond_both (inner == 0) (true, cs) (behind_comment (inner - 1) cs) Less (λ z h. omega arith) (λ z h. omega (arith, end_le (behind_comment_end (inner - 1) cs))))
    (λ k h. omega (arith, comment_takes inner e cs h))) is
  where
    Less : Bool × List ℕ → Type 0
    Less x = x.0 ≡ true → length x.1 < suc (length cs)

comment_less : (inner : ℕ) (r : List ℕ) → (behind_comment inner r).0 ≡ true → length (behind_comment inner r).1 < length r
comment_less inner [] is = absurd (false≢true is)
comment_less inner (c ∷ cs) is = omega (arith, comment_takes inner c cs is)

comment_closes : (inner : ℕ) → Closes (λ b. b) (behind_comment inner)
comment_closes inner = record { takes = comment_less inner; fails = λ c p. refl }

-- one character before r closes no comment
lone_comment : {r : List ℕ} (inner c : ℕ) → Shut r (behind_comment inner (c ∷ r)) → ⊥
lone_comment {r = r} inner c m = never_two r m.closed (not_taken m.held (comment_takes inner c r m.closed))
  where
    never_two : (t : List ℕ) → (behind_comment inner (c ∷ t)).0 ≡ true → ((IsShort t → ⊥) → ⊥) → ⊥
    never_two [] h k = false≢true h
    never_two (d ∷ []) h k = k (λ p. false≢true (sym (lone d p) ∙ h))
      where
        lone : (d : ℕ) → IsPlain d → (behind_comment inner (c ∷ d ∷ [])).0 ≡ false
        lone d p = rw (p.no_star, p.no_slash) (rw (and_none (c == 47), and_none (c == 42)) refl)
    never_two (d ∷ e ∷ cs) h k = k (λ none. none)

-- a comment that is closed has two characters
pub comment_front : {r s a b : List ℕ} → Twins r s a b → Shut r (behind_comment 0 a) → (first a ≡ first b) × (second a ≡ second b)
comment_front ends m = absurd (never (comment_closes 0) m.closed m.held)
comment_front (front {c = c} ends) m = absurd (lone_comment 0 c m)
comment_front (front (front t)) m = (refl, refl)

pub comment_twins : {r s a b : List ℕ} (inner : ℕ) → Twins r s a b → Shut r (behind_comment inner a) → Alike r s (behind_comment inner a) (behind_comment inner b)
comment_twins inner ends m = absurd (never (comment_closes inner) m.closed m.held)
comment_twins inner (front {c = c} ends) m = absurd (lone_comment inner c m)
comment_twins {r = r} {s = s} inner (front {c = c} (front {c = d} t)) m =
    branch (Shut r) (Alike r s) (opens_comment c d) _ _ _ _ (λ o h. comment_twins (inner + 1) t h)
    (λ o. branch (Shut r) (Alike r s) (closes_comment c d) _ _ _ _
    (λ k. branch (Shut r) (Alike r s) (inner == 0) _ _ _ _ (λ z h. record { kind = refl; left = t }) (λ z h. comment_twins (inner - 1) t h))
    (λ k h. comment_twins inner (front {c = d} t) h)) m
