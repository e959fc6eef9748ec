-- A run of characters that ends before an ASCII character ends before the first byte with its value.
use Rattle.std.proofs.Common.{◌≡◌, ℕ, zero, suc, ◌<◌, ◌≤◌, Bool, true, false, not, List, [], ◌∷◌, length, drop, refl, sym, ap, ◌∙◌, ⊎_elim, arith}
use Rattle.std.proofs.lemmas.Bool.{cases_Bool, cases_lt, ne_eqb, and_parts, false_from_ne_true, false≢true, not_from_false}
use Rattle.std.proofs.lemmas.Str.{chars-encodes}
use Rattle.std.specs.Prelude.{encode_utf8_all, slice_index}
use lib.Utf8.{scalars}
use Rattle.std.specs.Str.{chars, IsUtf8}
use Rattle.memchr.specs.Find.{Nowhere, Passes}
use Rattle.syntax_lex.specs.Front.{behind}
use Rattle.syntax_lex.specs.Stop.{goes_on, stops}
use Rattle.syntax_lex.specs.declared.runs.Stop.{Stop}
use Rattle.syntax_lex.specs.declared.runs.Stop.TheVariants as stop
use Rattle.syntax_lex.proofs.ByteFacts.{behind_bytes, behind_yes, behind_no}

-- a run goes on with each character that does not stop it
pub goes_on-stops : (s : Stop) (c : ℕ) → goes_on s c ≡ not (stops s c)
goes_on-stops stop.LineEnd c = refl
goes_on-stops stop.Quote c = refl
goes_on-stops stop.QuoteOrBackslash c = refl
goes_on-stops stop.CommentMark c = refl

-- no character beyond ASCII ends a run
pub stops-ascii : (s : Stop) (c : ℕ) → 128 ≤ c → stops s c ≡ false
stops-ascii stop.LineEnd c wide = ne_eqb c 10 (λ x. omega (arith, x))
stops-ascii stop.Quote c wide = ne_eqb c 34 (λ x. omega (arith, x))
stops-ascii stop.QuoteOrBackslash c wide = rw (ne_eqb c 34 (λ x. omega (arith, x)), ne_eqb c 92 (λ x. omega (arith, x))) refl
stops-ascii stop.CommentMark c wide = rw (ne_eqb c 47 (λ x. omega (arith, x)), ne_eqb c 42 (λ x. omega (arith, x))) refl

pub goes_on-wide : (s : Stop) (c : ℕ) → 128 ≤ c → goes_on s c ≡ true
goes_on-wide s c wide = goes_on-stops s c ∙ not_from_false (stops s c) (stops-ascii s c wide)

-- a byte that ends a run is an ASCII character
pub stop_is_ascii : (s : Stop) (c : ℕ) → stops s c ≡ true → c < 128
stop_is_ascii s c it = ⊎_elim (λ low. low) (λ wide. absurd (false≢true (sym (stops-ascii s c wide) ∙ it))) (cases_lt c 128)

-- the characters of a run are scalar values
pub scalars_behind : (p : ℕ → Bool) (cs : List ℕ) → scalars cs ≡ true → scalars (behind p cs) ≡ true
scalars_behind p [] all = refl
scalars_behind p (c ∷ cs) all =
    ⊎_elim (λ it. ap scalars (sym (behind_yes p c cs _ refl it)) ∙ scalars_behind p cs (and_parts _ _ all).1) (λ fails. ap scalars (behind_no p c cs _ refl fails) ∙ all) (cases_Bool (p c))

module _ (p : ℕ → Bool) where
  -- the first byte that does not pass ends a run of bytes
  pub behind_at : (bs : List ℕ) (k : ℕ) → k < length bs → ((j : ℕ) → j < k → p (slice_index bs j) ≡ true) → p (slice_index bs k) ≡ false → behind p bs ≡ drop k bs
  behind_at [] k lt all fails = absurd (omega (arith, lt))
  behind_at (b ∷ bs) zero lt all fails = behind_no p b bs _ refl fails
  behind_at (b ∷ bs) (suc k) lt all fails = sym (behind_yes p b bs _ refl (all 0 (omega arith))) ∙ behind_at bs k (omega (arith, lt)) (λ j l. all (suc j) (omega (arith, l))) fails

  -- a run of bytes that all pass takes all
  pub behind_whole : (bs : List ℕ) → ((j : ℕ) → j < length bs → p (slice_index bs j) ≡ true) → behind p bs ≡ []
  behind_whole [] all = refl
  behind_whole (b ∷ bs) all = sym (behind_yes p b bs _ refl (all 0 (omega arith))) ∙ behind_whole bs (λ j l. all (suc j) (omega (arith, l)))

module _ (s : Stop) (bs : List ℕ) (utf8 : IsUtf8 bs) where
  -- the rest of the bytes spells the rest of the characters
  left_bytes : (left : List ℕ) → behind (goes_on s) bs ≡ left → chars left ≡ behind (goes_on s) (chars bs)
  left_bytes left is =
      let cs = utf8.0 in
      let e : left ≡ encode_utf8_all (behind (goes_on s) cs) = sym is ∙ ap (behind (goes_on s)) (sym utf8.1.1) ∙ behind_bytes (goes_on s) (goes_on-wide s) cs in
      ap chars e ∙ chars-encodes (behind (goes_on s) cs) (scalars_behind (goes_on s) cs utf8.1.0) ∙ ap (behind (goes_on s)) (sym (ap chars (sym utf8.1.1) ∙ chars-encodes cs utf8.1.0))

  passed : (k j : ℕ) → Nowhere (Passes (stops s) bs) 0 k → j < k → goes_on s (slice_index bs j) ≡ true
  passed k j none lt = goes_on-stops s _ ∙ not_from_false _ (false_from_ne_true _ (none j (omega arith) lt))

  pub until_found : (k : ℕ) → k < length bs → Nowhere (Passes (stops s) bs) 0 k → stops s (slice_index bs k) ≡ true → chars (drop k bs) ≡ behind (goes_on s) (chars bs)
  until_found k lt none it = left_bytes (drop k bs) (behind_at (goes_on s) bs k lt (λ j l. passed k j none l) (goes_on-stops s _ ∙ ap not it))

  pub until_none : Nowhere (Passes (stops s) bs) 0 (length bs) → chars [] ≡ behind (goes_on s) (chars bs)
  until_none none = left_bytes [] (behind_whole (goes_on s) bs (λ j l. passed (length bs) j none l))
