-- Numbers of two texts that begin alike.
use Rattle.std.proofs.Common.{◌≡◌, ◌≢◌, ◌⊎◌, inl, inr, ℕ, ◌≤◌, Bool, true, false, ◌==◌, ◌||◌, ◌&&◌, not, List, [], ◌∷◌, length, refl, sym, ap, ◌∙◌, subst, arith, if◌then◌else◌}
use Rattle.std.proofs.lemmas.Bool.{false≢true, and_parts, eqb-true, or_parts}
use Rattle.syntax_lex.proofs.EndFacts.{behind_end, behind_sign_end, with_exponent_end, with_fraction_end}
use Rattle.syntax_lex.specs.Class.{is_decimal, is_decimal_part, is_id_start, is_underscore, passes}
use Rattle.syntax_lex.specs.Front.{first, second, skip, behind}
use Rattle.syntax_lex.specs.Number.{base_of, begins_fraction, behind_sign, class_of, has_digit, has_letter, is_digit_of, number, with_exponent, with_fraction}
use Rattle.syntax_lex.specs.declared.token.Base.{Base}
use Rattle.syntax_lex.specs.declared.token.Base.TheVariants.{Binary, Octal, Decimal, Hexadecimal}
use Rattle.syntax_lex.specs.declared.token.LiteralKind.{LiteralKind}
use Rattle.syntax_lex.specs.declared.token.LiteralKind.TheVariants.{Int, Float}
use Rattle.syntax_lex.proofs.KeepFacts.{IsPlain}
use Rattle.syntax_lex.proofs.Twins.{Alike, IsShort, NoPlain, Stays, Twins, at_end, behind_none, branch, end_le, ends, front, held_of, next_of, off, off_two, run, run_next, run_stops, short_plain, stays_more, taken, unless}
use Rattle.syntax_lex.specs.Stops.{is_number_kind}

-- the rest after a number stays, and it is not a single point before r, unless r is short
pub record Holds (r s : List ℕ) (read : LiteralKind × List ℕ) : Type 0 where
  pub stays : Stays r s read.1
  pub pointless : is_number_kind read.0 ≡ true → (read.1 ≢ 46 ∷ r) ⊎ IsShort r

-- something of a kind is read, and the rest stays
abbrev Left : (r s : List ℕ) → LiteralKind × List ℕ → Type 0
Left r s read = Stays r s read.1

-- no plain character is part of a number
parts_none : (base : Base) → NoPlain (passes (class_of base))
parts_none Binary c p = p.no_decimal_part
parts_none Octal c p = p.no_decimal_part
parts_none Decimal c p = p.no_decimal_part
parts_none Hexadecimal c p = p.no_hex_part

-- a part of a number is a digit or `_`
parts_are : (base : Base) (c : ℕ) → passes (class_of base) c ≡ (is_digit_of base c || (c == 95))
parts_are Binary c = refl
parts_are Octal c = refl
parts_are Decimal c = refl
parts_are Hexadecimal c = refl

or_true : (b : Bool) → (b || true) ≡ true
or_true true = refl
or_true false = refl

-- whether a digit comes first, after any `_`
digit_twins : {r s a b : List ℕ} (base : Base) → Twins r s a b → Stays r s (behind (passes (class_of base)) a) → has_digit base a ≡ has_digit base b
digit_twins {r = r} {s = s} base ends stays = none r (run_stops p (parts_none base) stays) ∙ sym (none s (run_next p (parts_none base) stays))
  where
    p : ℕ → Bool
    p = passes (class_of base)

    none : (t : List ℕ) → passes (class_of base) (first t) ≡ false → has_digit base t ≡ false
    none t fails =
        let parts = or_parts (is_digit_of base (first t)) (first t == 95) (sym (parts_are base (first t)) ∙ fails) in
        ap (λ u. is_digit_of base (first u)) (behind_none is_underscore t parts.1) ∙ parts.0
digit_twins {r = r} {s = s} base (front {c = c} {a = a} {b = b} t) stays = go (c == 95) refl (λ h. digit_twins base t h)
  where
    go : (u : Bool) → (c == 95) ≡ u → (Stays r s (behind (passes (class_of base)) a) → has_digit base a ≡ has_digit base b) → has_digit base (c ∷ a) ≡ has_digit base (c ∷ b)
    go false e ih = rw e refl
    go true e ih =
        let part : passes (class_of base) c ≡ true = parts_are base c ∙ ap (λ u. is_digit_of base c || u) e ∙ or_true (is_digit_of base c) in
        rw e (ih (subst (λ u. Stays r s (if u then behind (passes (class_of base)) a else c ∷ a)) part stays))

sign_twins : {r s a b : List ℕ} → Twins r s a b → Stays r s (behind_sign a) → Twins r s (behind_sign a) (behind_sign b)
sign_twins {r = r} {s = s} ends stays =
    at_end (Stays r s) (Twins r s) (λ z. z) (λ c. (c == 43) || (c == 45)) (skip r) r (skip s) s (λ c p. rw (p.no_plus, p.no_minus) refl) (λ z m. m) (λ m. omega arith) (λ m. omega arith) (λ m. ends) stays
sign_twins {r = r} {s = s} (front {c = c} t) stays = branch (Stays r s) (Twins r s) ((c == 43) || (c == 45)) _ _ _ _ (λ is m. t) (λ is m. front t) stays

-- an exponent, after its letter
abbrev exponent_of : Base → List ℕ → LiteralKind × List ℕ
exponent_of base cs = (Float base (not (has_digit Decimal (behind_sign cs))), behind is_decimal_part (behind_sign cs))

exponent_twins : {r s a b : List ℕ} (base : Base) → Twins r s a b → Left r s (exponent_of base a) → Alike r s (exponent_of base a) (exponent_of base b)
exponent_twins {a = a} base t stays =
    let signs = sign_twins t (stays_more (behind_sign a) stays (end_le (behind_end is_decimal_part (behind_sign a)))) in
    record { kind = ap (λ d. Float base (not d)) (digit_twins Decimal signs stays); left = run is_decimal_part (λ c p. p.no_decimal_part) signs stays }

with_exponent_twins : {r s a b : List ℕ} (base : Base) (kind : LiteralKind) → Twins r s a b → Left r s (with_exponent base kind a) → Alike r s (with_exponent base kind a) (with_exponent base kind b)
unfolding with_exponent
with_exponent_twins {r = r} {s = s} base kind ends stays =
    at_end (Left r s) (Alike r s) (λ z. z.1) (λ c. (c == 101) || (c == 69)) (exponent_of base (skip r)) (kind, r) (exponent_of base (skip s)) (kind, s) (λ c p. p.no_exponent) (λ z m. m)
    (λ m. omega (arith, end_le (behind_end is_decimal_part (behind_sign (skip r))), end_le (behind_sign_end (skip r)))) (λ m. omega arith) (λ m. record { kind = refl; left = ends }) stays
with_exponent_twins {r = r} {s = s} base kind (front {c = c} t) stays =
    branch (Left r s) (Alike r s) ((c == 101) || (c == 69)) _ _ _ _ (λ is m. exponent_twins base t m) (λ is m. record { kind = refl; left = front t }) stays

-- what follows a point that belongs to a number: digits and an exponent, or nothing of it
abbrev behind_point : Base → (digit : Bool) → List ℕ → LiteralKind × List ℕ
behind_point base digit cs = if digit then with_exponent base (Float base false) (behind is_decimal_part cs) else (Float base false, cs)

digits_end : (base : Base) (cs : List ℕ) → length (with_exponent base (Float base false) (behind is_decimal_part cs)).1 ≤ length (behind is_decimal_part cs)
digits_end base cs = end_le (with_exponent_end base (Float base false) (behind is_decimal_part cs))

point_end : (base : Base) (digit : Bool) (cs : List ℕ) → length (behind_point base digit cs).1 ≤ length cs
point_end base true cs = omega (arith, digits_end base cs, end_le (behind_end is_decimal_part cs))
point_end base false cs = omega arith

digit_part : (c : ℕ) → is_decimal c ≡ true → is_decimal_part c ≡ true
digit_part c is = ap (λ b. b || (c == 95)) is

first_taken : (cs : List ℕ) → is_decimal (first cs) ≡ true → length (behind is_decimal_part cs) ≤ length (skip cs)
first_taken [] is = omega arith
first_taken (c ∷ cs) is = rw (digit_part c is) (end_le (behind_end is_decimal_part cs))

point_twins : {r s a b : List ℕ} (base : Base) → Twins r s a b → Left r s (behind_point base (is_decimal (first a)) a) → Alike r s (behind_point base (is_decimal (first a)) a) (behind_point base (is_decimal (first b)) b)
point_twins {r = r} {s = s} base ends stays = go (is_decimal (first r)) refl stays
  where
    go : (d : Bool) → is_decimal (first r) ≡ d → Left r s (behind_point base d r) → Alike r s (behind_point base d r) (behind_point base (is_decimal (first s)) s)
    go true e m = absurd (taken is_decimal (λ c p. p.no_decimal) e (omega (arith, digits_end base r, first_taken r e)) (held_of m))
    go false e m = rw (off is_decimal (λ c p. p.no_decimal) e (next_of m (omega arith))) (record { kind = refl; left = ends })
point_twins {r = r} {s = s} base (front {c = c} {a = a} t) stays =
    branch (Left r s) (Alike r s) (is_decimal c) _ _ _ _
    (λ is m. with_exponent_twins base (Float base false) (run is_decimal_part (λ d p. p.no_decimal_part) (front {c = c} t) (stays_more (behind is_decimal_part (c ∷ a)) m (digits_end base (c ∷ a)))) m)
    (λ is m. record { kind = refl; left = front t }) stays

-- a point before the rest belongs to the number, since it is not left
lone_point : {r s : List ℕ} (base : Base) → Holds r s (with_fraction base (46 ∷ r)) → Alike r s (with_fraction base (46 ∷ r)) (with_fraction base (46 ∷ s))
unfolding with_fraction with_exponent
lone_point {r = r} {s = s} base m = go (first r == 46) refl (is_id_start (first r)) refl m
  where
    left : Bool → List ℕ → LiteralKind × List ℕ
    left b cs = if b then behind_point base (is_decimal (first cs)) cs else (Int base false, 46 ∷ cs)

    by : {x : List ℕ} → (x ≢ x) ⊎ IsShort r → (IsPlain (first r) → ⊥) → ⊥
    by (inl other) none = other refl
    by (inr h) none = none (short_plain r h)

    go : (p : Bool) → (first r == 46) ≡ p → (n : Bool) → is_id_start (first r) ≡ n → Holds r s (left (not p && not n) r) → Alike r s (left (not p && not n) r) (left (not (first s == 46) && not (is_id_start (first s))) s)
    go true e n k h = absurd (by (h.pointless refl) (λ p. false≢true (sym p.no_point ∙ e)))
    go false e true k h = absurd (by (h.pointless refl) (λ p. false≢true (sym p.no_start ∙ k)))
    go false e false k h =
        let next = next_of h.stays (point_end base (is_decimal (first r)) r) in
        let no_point : (first s == 46) ≡ false = off (λ c. c == 46) (λ c p. p.no_point) e next in
        let no_name : is_id_start (first s) ≡ false = off is_id_start (λ c p. p.no_start) k next in
        rw (no_point, no_name) (point_twins base ends h.stays)

with_fraction_twins : {r s a b : List ℕ} (base : Base) → Twins r s a b → Holds r s (with_fraction base a) → Alike r s (with_fraction base a) (with_fraction base b)
unfolding with_fraction
with_fraction_twins {r = r} {s = s} base ends m =
    unless (Left r s) (Alike r s) (begins_fraction r) (begins_fraction s) _ _ _ _
    (λ is h. taken (λ c. c == 46) (λ c p. p.no_point) (and_parts _ _ ((and_parts _ _ is).0)).0 (point_end base (is_decimal (second r)) (skip r)) (held_of h))
    (λ fails h. off_two (λ c d. ((c == 46) && not (d == 46)) && not (is_id_start d)) (λ c d p. ap (λ b. (b && not (d == 46)) && not (is_id_start d)) p.no_point) fails (next_of h (end_le (with_exponent_end base (Int base false) r))))
    (λ fails h. with_exponent_twins base (Int base false) ends h) m.stays
with_fraction_twins {r = r} {s = s} base (front {c = c} ends) m = go (c == 46) refl
  where
    go : (b : Bool) → (c == 46) ≡ b → Alike r s (with_fraction base (c ∷ r)) (with_fraction base (c ∷ s))
    go true e = subst (λ x. Holds r s (with_fraction base (x ∷ r)) → Alike r s (with_fraction base (x ∷ r)) (with_fraction base (x ∷ s))) (sym (eqb-true c 46 e)) (lone_point base) m
    go false e =
        let alone : with_fraction base (c ∷ r) ≡ with_exponent base (Int base false) (c ∷ r) = rw e refl in
        rw e (with_exponent_twins base (Int base false) (front ends) (subst (λ x. Stays r s x.1) alone m.stays))
with_fraction_twins {r = r} {s = s} base (front {c = c} (front {c = d} {a = a} t)) m =
    branch (Left r s) (Alike r s) (begins_fraction (c ∷ d ∷ a)) _ _ _ _ (λ is h. point_twins base (front {c = d} t) h) (λ is h. with_exponent_twins base (Int base false) (front (front t)) h) m.stays

-- the digits of a base, after its letter
abbrev digits_in : Base → (some : Bool) → List ℕ → LiteralKind × List ℕ
digits_in base some cs = if some then with_fraction base (behind (passes (class_of base)) cs) else (Int base true, behind (passes (class_of base)) cs)

digits_le : (base : Base) (some : Bool) (cs : List ℕ) → length (digits_in base some cs).1 ≤ length (behind (passes (class_of base)) cs)
digits_le base true cs = end_le (with_fraction_end base (behind (passes (class_of base)) cs))
digits_le base false cs = omega arith

digits_twins : {r s a b : List ℕ} (base : Base) → Twins r s a b → Holds r s (digits_in base (has_digit base a) a) → Alike r s (digits_in base (has_digit base a) a) (digits_in base (has_digit base b) b)
digits_twins {r = r} {s = s} {a = a} {b = b} base t m =
    subst (λ d. Alike r s (digits_in base (has_digit base a) a) (digits_in base d b)) (digit_twins base t stays)
    (branch (Holds r s) (Alike r s) (has_digit base a) _ _ _ _ (λ is h. with_fraction_twins base left h) (λ is h. record { kind = refl; left = left }) m)
  where
    stays : Stays r s (behind (passes (class_of base)) a)
    stays = stays_more (behind (passes (class_of base)) a) m.stays (digits_le base (has_digit base a) a)

    left : Twins r s (behind (passes (class_of base)) a) (behind (passes (class_of base)) b)
    left = run (passes (class_of base)) (parts_none base) t stays

-- digits of base ten
decimal_twins : {r s a b : List ℕ} (base : Base) → Twins r s a b → Holds r s (with_fraction base (behind is_decimal_part a)) → Alike r s (with_fraction base (behind is_decimal_part a)) (with_fraction base (behind is_decimal_part b))
decimal_twins {a = a} base t m =
    with_fraction_twins base (run is_decimal_part (λ c p. p.no_decimal_part) t (stays_more (behind is_decimal_part a) m.stays (end_le (with_fraction_end base (behind is_decimal_part a))))) m

ten : (base : Base) → has_letter base ≡ false → base ≡ Decimal
ten Binary h = absurd (false≢true (sym h))
ten Octal h = absurd (false≢true (sym h))
ten Decimal h = refl
ten Hexadecimal h = absurd (false≢true (sym h))

-- a plain character selects no base
no_letter : (digit : ℕ) → NoPlain (λ c. has_letter (base_of digit c))
no_letter digit c p = by (digit == 48)
  where
    by : (b : Bool) → has_letter (if b then (if c == 98 then Binary else (if c == 111 then Octal else (if c == 120 then Hexadecimal else Decimal))) else Decimal) ≡ false
    by true = rw (p.no_b, p.no_o, p.no_x) refl
    by false = refl

-- a number, after its first digit
pub number_twins : {r s a b : List ℕ} (digit : ℕ) → Twins r s a b → Holds r s (number digit a) → Alike r s (number digit a) (number digit b)
unfolding number
number_twins {r = r} {s = s} digit ends m =
    unless (Holds r s) (Alike r s) (has_letter (base_of digit (first r))) (has_letter (base_of digit (first s))) _ _ _ _
    (λ is h. taken (λ c. has_letter (base_of digit c)) (no_letter digit) is (lettered (base_of digit (first r))) (held_of h.stays))
    (λ fails h. next fails h)
    (λ fails h. subst (λ base. Alike r s (with_fraction (base_of digit (first r)) (behind is_decimal_part r)) (with_fraction base (behind is_decimal_part s)))
    (ten (base_of digit (first r)) fails ∙ sym (ten (base_of digit (first s)) (next fails h))) (decimal_twins (base_of digit (first r)) ends h)) m
  where
    lettered : (base : Base) → length (digits_in base (has_digit base (skip r)) (skip r)).1 ≤ length (skip r)
    lettered base = omega (arith, digits_le base (has_digit base (skip r)) (skip r), end_le (behind_end (passes (class_of base)) (skip r)))

    next : has_letter (base_of digit (first r)) ≡ false → Holds r s (with_fraction (base_of digit (first r)) (behind is_decimal_part r)) → has_letter (base_of digit (first s)) ≡ false
    next fails h =
        off (λ c. has_letter (base_of digit c)) (no_letter digit) fails
        (next_of h.stays (omega (arith, end_le (with_fraction_end (base_of digit (first r)) (behind is_decimal_part r)), end_le (behind_end is_decimal_part r))))
number_twins {r = r} {s = s} digit (front {c = c} t) m =
    branch (Holds r s) (Alike r s) (has_letter (base_of digit c)) _ _ _ _ (λ is h. digits_twins (base_of digit c) t h) (λ is h. decimal_twins (base_of digit c) (front {c = c} t) h) m
