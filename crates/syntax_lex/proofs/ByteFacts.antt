-- Bytes and characters: a byte below 128 is a character, and a character beyond ASCII has none.
use Rattle.std.proofs.Common.{◌≡◌, ℕ, suc, ◌+◌, ◌<◌, ◌≤◌, Bool, true, false, ◌==◌, List, [], ◌∷◌, ◌++◌, length, drop, cond, nat_le, refl, sym, ap, subst, ◌∙◌, ⊎_elim, arith, append-nil}
use Rattle.std.proofs.lemmas.Bool.{cases_Bool, cases_lt, ne_eqb, le-leb}
use Rattle.std.proofs.lemmas.List.{drop_more}
use Rattle.std.proofs.lemmas.Str.{chars_past_char, IsUtf8-past_char, encode_ascii, byte_from_char, char_from_byte, inside_one}
use Rattle.std.specs.Prelude.{encode_utf8, encode_utf8_all, slice_index}
use Rattle.std.specs.Str.{chars, IsUtf8}
use Rattle.syntax_lex.specs.Front.{behind, first}

-- the first byte and the first character are the same ASCII character, or neither is
pub first_byte : (bs : List ℕ) (k : ℕ) → IsUtf8 bs → 0 < length bs → 0 < k → k < 128 → (slice_index bs 0 == k) ≡ (first (chars bs) == k)
first_byte bs k ([], spelled) some positive ascii = absurd (omega (arith, ap length spelled.1))
first_byte bs k (c ∷ cs, spelled) some positive ascii =
    let e : bs ≡ encode_utf8 c ++ encode_utf8_all cs = sym spelled.1 in
    let f : first (chars bs) ≡ c = ap first (chars_past_char bs (encode_utf8_all cs) c (c ∷ cs, spelled) e) in
    ⊎_elim
    (λ low. ap (λ x. x == k) (sym (char_from_byte bs (encode_utf8_all cs) c e low some) ∙ sym f))
    (λ high.
    ⊎_elim (λ low. absurd (omega (arith, byte_from_char bs (encode_utf8_all cs) c e low)))
    (λ wide. ne_eqb (slice_index bs 0) k (λ x. omega (arith, x)) ∙ sym (ap (λ x. x == k) f ∙ ne_eqb c k (λ x. omega (arith, x))))
    (cases_lt c 128))
    (cases_lt (slice_index bs 0) 128)

-- the first byte is 128 or more exactly if the first character is beyond ASCII
pub first_wide : (bs : List ℕ) → IsUtf8 bs → 0 < length bs → nat_le 128 (slice_index bs 0) ≡ nat_le 128 (first (chars bs))
first_wide bs ([], spelled) some = absurd (omega (arith, ap length spelled.1))
first_wide bs (c ∷ cs, spelled) some =
    let e : bs ≡ encode_utf8 c ++ encode_utf8_all cs = sym spelled.1 in
    let f : first (chars bs) ≡ c = ap first (chars_past_char bs (encode_utf8_all cs) c (c ∷ cs, spelled) e) in
    ⊎_elim
    (λ low. ap (nat_le 128) (sym (char_from_byte bs (encode_utf8_all cs) c e low some) ∙ sym f))
    (λ high.
    ⊎_elim (λ low. absurd (omega (arith, byte_from_char bs (encode_utf8_all cs) c e low)))
    (λ wide. le-leb 128 (slice_index bs 0) high ∙ sym (ap (nat_le 128) f ∙ le-leb 128 c wide))
    (cases_lt c 128))
    (cases_lt (slice_index bs 0) 128)

-- an empty text begins with no character
pub first_none : (bs : List ℕ) (k : ℕ) → length bs ≡ 0 → 0 < k → chars bs ≡ [] → false ≡ (first (chars bs) == k)
first_none bs k none positive e = sym (ap (λ x. first x == k) e ∙ ne_eqb 0 k (λ x. omega (arith, x)))

-- a byte below 128 is a character, and the bytes after it are a text
pub ascii_step : (bs : List ℕ) (i : ℕ) → IsUtf8 (drop i bs) → i < length bs → slice_index bs i < 128 → IsUtf8 (drop (i + 1) bs) × (chars (drop i bs) ≡ slice_index bs i ∷ chars (drop (i + 1) bs))
ascii_step bs i utf8 within low =
    let e : drop i bs ≡ encode_utf8 (slice_index bs i) ++ drop (i + 1) bs = drop_more bs i 0 within ∙ ap (λ x. x ++ drop (i + 1) bs) (sym (encode_ascii (slice_index bs i) low)) in
    (IsUtf8-past_char (drop i bs) (drop (i + 1) bs) (slice_index bs i) utf8 e, chars_past_char (drop i bs) (drop (i + 1) bs) (slice_index bs i) utf8 e)

-- a run goes on after a character that passes, and ends before one that does not
pub behind_yes : (p : ℕ → Bool) (c : ℕ) (cs text : List ℕ) → text ≡ c ∷ cs → p c ≡ true → behind p cs ≡ behind p text
behind_yes p c cs text is passes = sym (ap (behind p) is ∙ ap (λ b. cond b (behind p cs) (c ∷ cs)) passes)

pub behind_no : (p : ℕ → Bool) (c : ℕ) (cs text : List ℕ) → text ≡ c ∷ cs → p c ≡ false → behind p text ≡ text
behind_no p c cs text is fails = ap (behind p) is ∙ ap (λ b. cond b (behind p cs) (c ∷ cs)) fails ∙ sym is

-- the character after a run does not pass
pub behind_head : (p : ℕ → Bool) (cs : List ℕ) (c : ℕ) (ds : List ℕ) → behind p cs ≡ c ∷ ds → p c ≡ false
behind_head p [] c ds h = absurd (omega (arith, ap length h))
behind_head p (x ∷ xs) c ds h =
    ⊎_elim
    (λ passes. behind_head p xs c ds (sym (ap (λ b. cond b (behind p xs) (x ∷ xs)) passes) ∙ h))
    (λ fails. let k : x ∷ xs ≡ c ∷ ds = sym (ap (λ b. cond b (behind p xs) (x ∷ xs)) fails) ∙ h in subst (λ y. p y ≡ false) (ap first k) fails)
    (cases_Bool (p x))

-- a run of bytes that all pass
pub behind_all : (p : ℕ → Bool) (xs rest : List ℕ) → ((j : ℕ) → j < length xs → p (slice_index xs j) ≡ true) → behind p (xs ++ rest) ≡ behind p rest
behind_all p [] rest all = refl
behind_all p (x ∷ xs) rest all =
    ap (λ b. cond b (behind p (xs ++ rest)) (x ∷ (xs ++ rest))) (all 0 (omega arith))
    ∙ behind_all p xs rest (λ j lt. all (suc j) (omega (arith, lt)))

-- each byte of a character beyond ASCII is 128 or more
pub wide_bytes : (c j : ℕ) → 128 ≤ c → j < length (encode_utf8 c) → 128 ≤ slice_index (encode_utf8 c) j
wide_bytes c j wide within =
    ⊎_elim (λ low. absurd (omega (arith, inside_one c [] (encode_utf8 c) j (sym (append-nil (encode_utf8 c))) within low))) (λ high. high) (cases_lt (slice_index (encode_utf8 c) j) 128)

module _ (p : ℕ → Bool) (beyond : (c : ℕ) → 128 ≤ c → p c ≡ true) where
  -- if all characters beyond ASCII pass, a run of characters is a run of bytes
  pub behind_bytes : (cs : List ℕ) → behind p (encode_utf8_all cs) ≡ encode_utf8_all (behind p cs)
  behind_bytes [] = refl
  behind_bytes (c ∷ cs) =
      ⊎_elim
      (λ low.
      let e : encode_utf8_all (c ∷ cs) ≡ c ∷ encode_utf8_all cs = ap (λ x. x ++ encode_utf8_all cs) (encode_ascii c low) in
      ⊎_elim
      (λ passes. sym (behind_yes p c (encode_utf8_all cs) _ e passes) ∙ behind_bytes cs ∙ ap encode_utf8_all (behind_yes p c cs _ refl passes))
      (λ fails. behind_no p c (encode_utf8_all cs) _ e fails ∙ ap encode_utf8_all (sym (behind_no p c cs _ refl fails)))
      (cases_Bool (p c)))
      (λ wide.
      behind_all p (encode_utf8 c) (encode_utf8_all cs) (λ j lt. beyond (slice_index (encode_utf8 c) j) (wide_bytes c j wide lt))
      ∙ behind_bytes cs ∙ ap encode_utf8_all (behind_yes p c cs _ refl (beyond c wide)))
      (cases_lt c 128)
