-- Two texts that begin alike, and the rest after a run of characters in both.
use Rattle.std.proofs.Common.{◌≡◌, ℕ, ◌<◌, ◌≤◌, Bool, true, false, List, [], ◌∷◌, ◌++◌, length, refl, sym, ap, ap₂, ◌∙◌, arith, length-append, if◌then◌else◌}
use Rattle.std.proofs.lemmas.Bool.{false≢true, false_from_ne_true}
use Rattle.syntax_lex.proofs.EndFacts.{behind_end}
use Rattle.syntax_lex.specs.Class.{is_id_continue, is_id_start}
use Rattle.syntax_lex.specs.Ends.{IsEnd, whole, later}
use Rattle.syntax_lex.specs.Front.{first, second, skip, behind, behind_name}
use Rattle.syntax_lex.proofs.KeepFacts.{IsPlain, plain_null}

-- two texts with the same front; r follows it in one, and s in the other
pub data Twins (r s : List ℕ) : (a b : List ℕ) → Type 0 where
  ends : Twins r s r s
  front : {c : ℕ} {a b : List ℕ} → Twins r s a b → Twins r s (c ∷ a) (c ∷ b)

pub twins_of : (xs r s : List ℕ) → Twins r s (xs ++ r) (xs ++ s)
twins_of [] r s = ends
twins_of (x ∷ xs) r s = front (twins_of xs r s)

pub twins_le : {r s a b : List ℕ} → Twins r s a b → length r ≤ length a
twins_le ends = omega arith
twins_le (front t) = let le = twins_le t in omega (arith, le)

-- the readings of both are the same, and their rests have the same front
pub record Alike {K : Type 0} (r s : List ℕ) (x y : K × List ℕ) : Type 0 where
  pub kind : x.0 ≡ y.0
  pub left : Twins r s x.1 y.1

-- the twin of a front with r is that front with s
pub twin_is : (r s l : List ℕ) {a b : List ℕ} → Twins r s a b → a ≡ l ++ r → b ≡ l ++ s
twin_is r s [] ends e = refl
twin_is r s [] (front t) e = absurd (omega (arith, ap length e, twins_le t))
twin_is r s (x ∷ l) ends e = absurd (omega (arith, ap length e, length-append l r))
twin_is r s (x ∷ l) (front t) e = ap₂ (λ c cs. c ∷ cs) (ap first e) (twin_is r s l t (ap skip e))

-- an end is no longer than its text
pub end_le : {rest text : List ℕ} → IsEnd rest text → length rest ≤ length text
end_le whole = omega arith
end_le (later more) = let le = end_le more in omega (arith, le)

-- nothing, or a plain character alone
abbrev pub IsShort : List ℕ → Type 0
IsShort [] = Unit {0}
IsShort (c ∷ []) = IsPlain c
IsShort (c ∷ d ∷ cs) = ⊥

pub short_plain : (r : List ℕ) → IsShort r → IsPlain (first r)
short_plain [] h = plain_null
short_plain (c ∷ []) h = h
short_plain (c ∷ d ∷ cs) h = absurd h

-- s begins with a plain character or ends, or with the same two characters as r
pub data Next (r s : List ℕ) : Type 0 where
  plain : IsPlain (first s) → Next r s
  alike : first r ≡ first s → second r ≡ second s → Next r s

-- no plain character passes a test
abbrev pub NoPlain : (ℕ → Bool) → Type 0
NoPlain test = (c : ℕ) → IsPlain c → test c ≡ false

-- if r fails a test of the first character, s fails it too
pub off : {r s : List ℕ} (test : ℕ → Bool) → NoPlain test → test (first r) ≡ false → Next r s → test (first s) ≡ false
off test none fails (plain p) = none _ p
off test none fails (alike e f) = ap test (sym e) ∙ fails

-- the same for a test of the first two
pub off_two : {r s : List ℕ} (test : ℕ → ℕ → Bool) → ((c d : ℕ) → IsPlain c → test c d ≡ false) → test (first r) (second r) ≡ false → Next r s → test (first s) (second s) ≡ false
off_two test none fails (plain p) = none _ _ p
off_two test none fails (alike e f) = ap₂ test (sym e) (sym f) ∙ fails

-- The rest of a text stays the same rest if s replaces r: it is more than r, or no less and s continues as r does, or r is
-- short and s begins with a plain character.
pub data Stays (r s left : List ℕ) : Type 0 where
  kept : length r < length left → Stays r s left
  ended : length r ≤ length left → Next r s → Stays r s left
  short : IsShort r → IsPlain (first s) → Stays r s left

pub stays_more : {r s left : List ℕ} (more : List ℕ) → Stays r s left → length left ≤ length more → Stays r s more
stays_more more (kept h) le = kept (omega (arith, h, le))
stays_more more (ended h next) le = ended (omega (arith, h, le)) next
stays_more more (short h p) le = short h p

-- if no more than r is left, s continues as r does
pub next_of : {r s left : List ℕ} → Stays r s left → length left ≤ length r → Next r s
next_of (kept h) le = absurd (omega (arith, h, le))
next_of (ended h next) le = next
next_of (short h p) le = plain p

-- no less than r is left, or r is short
pub data Held (r left : List ℕ) : Type 0 where
  enough : length r ≤ length left → Held r left
  little : IsShort r → Held r left

pub held_of : {r s left : List ℕ} → Stays r s left → Held r left
held_of (kept h) = enough (omega (arith, h))
held_of (ended h next) = enough h
held_of (short h p) = little h

-- so nothing of r is taken, unless r is short
pub not_taken : {r left : List ℕ} → Held r left → length left < length r → (IsShort r → ⊥) → ⊥
not_taken (enough h) less none = omega (arith, h, less)
not_taken (little h) less none = none h

-- and r does not begin with a character that is taken
pub taken : {r left : List ℕ} (test : ℕ → Bool) → NoPlain test → test (first r) ≡ true → length left ≤ length (skip r) → Held r left → ⊥
taken {r = []} test none is le held = false≢true (sym (none 0 plain_null) ∙ is)
taken {r = c ∷ cs} test none is le held = not_taken held (omega (arith, le)) (λ h. false≢true (sym (none c (short_plain (c ∷ cs) h)) ∙ is))

-- one of two choices, by a test of both texts: the result is one too
pub branch : {A : Type 0} (M : A → Type 0) (R : A → A → Type 0) (b : Bool) (x y x2 y2 : A) → (b ≡ true → M x → R x x2) → (b ≡ false → M y → R y y2)
    → M (if b then x else y) → R (if b then x else y) (if b then x2 else y2)
branch M R true x y x2 y2 h k m = h refl m
branch M R false x y x2 y2 h k m = k refl m

-- the same by two tests, if the choice for which the first passes is impossible
pub unless : {A : Type 0} (M : A → Type 0) (R : A → A → Type 0) (b b2 : Bool) (x y x2 y2 : A) → (b ≡ true → M x → ⊥) → (b ≡ false → M y → b2 ≡ false) → (b ≡ false → M y → R y y2)
    → M (if b then x else y) → R (if b then x else y) (if b2 then x2 else y2)
unless M R true b2 x y x2 y2 never same k m = absurd (never refl m)
unless M R false b2 x y x2 y2 never same k m = rw (same refl m) (k refl m)

-- by the first character of r and of s, which is taken if it passes the test
pub at_end : {A : Type 0} {r s : List ℕ} (M : A → Type 0) (R : A → A → Type 0) (rest : A → List ℕ) (test : ℕ → Bool) (x y x2 y2 : A) → NoPlain test → ((z : A) → M z → Stays r s (rest z))
    → (M x → length (rest x) ≤ length (skip r)) → (M y → length (rest y) ≤ length r) → (M y → R y y2)
    → M (if test (first r) then x else y) → R (if test (first r) then x else y) (if test (first s) then x2 else y2)
at_end {r = r} {s = s} M R rest test x y x2 y2 none stays less le k =
    unless M R (test (first r)) (test (first s)) x y x2 y2 (λ is m. taken test none is (less m) (held_of (stays x m))) (λ fails m. off test none fails (next_of (stays y m) (le m))) (λ fails m. k m)

-- nothing is taken of a text that does not begin with such a character
pub behind_none : (p : ℕ → Bool) (r : List ℕ) → p (first r) ≡ false → behind p r ≡ r
behind_none p [] none = refl
behind_none p (c ∷ cs) none = rw none refl

-- and the first of another text is taken
behind_less : (p : ℕ → Bool) (r : List ℕ) → p (first r) ≡ true → length (behind p r) ≤ length (skip r)
behind_less p [] is = omega arith
behind_less p (c ∷ cs) is = rw is (end_le (behind_end p cs))

-- a run is not continued by its rest
pub run_stops : {r s : List ℕ} (p : ℕ → Bool) → NoPlain p → Stays r s (behind p r) → p (first r) ≡ false
run_stops {r = r} p none stays = false_from_ne_true (p (first r)) (λ is. taken p none is (behind_less p r is) (held_of stays))

pub run_next : {r s : List ℕ} (p : ℕ → Bool) → NoPlain p → Stays r s (behind p r) → p (first s) ≡ false
run_next {r = r} p none stays = off p none (run_stops p none stays) (next_of stays (end_le (behind_end p r)))

-- the rest after characters that pass a test, if r and s do not begin with one
pub run_by : {r s a b : List ℕ} (M : List ℕ → Type 0) (p : ℕ → Bool) → (M (behind p r) → (p (first r) ≡ false) × (p (first s) ≡ false)) → Twins r s a b → M (behind p a) → Twins r s (behind p a) (behind p b)
run_by {r = r} {s = s} M p stop ends m = let both = stop m in let here : p (first r) ≡ false = both.0 in let there : p (first s) ≡ false = both.1 in rw (behind_none p r here, behind_none p s there) ends
run_by {r = r} {s = s} M p stop (front {c = c} t) m = branch M (Twins r s) (p c) _ _ _ _ (λ is h. run_by M p stop t h) (λ is h. front t) m

pub run : {r s a b : List ℕ} (p : ℕ → Bool) → NoPlain p → Twins r s a b → Stays r s (behind p a) → Twins r s (behind p a) (behind p b)
run {r = r} {s = s} p none = run_by (Stays r s) p (λ m. (run_stops p none m, run_next p none m))

-- the same if more than r is left
pub run_kept : {r s a b : List ℕ} (p : ℕ → Bool) → Twins r s a b → length r < length (behind p a) → Twins r s (behind p a) (behind p b)
run_kept {r = r} p = run_by (λ x. length r < length x) p (λ m. absurd (omega (arith, m, end_le (behind_end p r))))

-- the rest after a name
pub name_twins : {r s a b : List ℕ} → Twins r s a b → Stays r s (behind_name a) → Twins r s (behind_name a) (behind_name b)
name_twins {r = r} {s = s} ends stays =
    at_end (Stays r s) (Twins r s) (λ z. z) is_id_start (behind is_id_continue (skip r)) r (behind is_id_continue (skip s)) s (λ c p. p.no_start) (λ z m. m) (λ m. end_le (behind_end is_id_continue (skip r))) (λ m. omega arith) (λ m. ends) stays
name_twins {r = r} {s = s} (front {c = c} t) stays = branch (Stays r s) (Twins r s) (is_id_start c) _ _ _ _ (λ is m. run is_id_continue (λ d p. p.no_continue) t m) (λ is m. front t) stays
