-- Plain characters: no token continues with one, or with the null that means the end.
use Rattle.std.proofs.Common.{◌≡◌, ℕ, ◌<◌, Bool, true, false, ◌==◌, ◌||◌, ◌&&◌, not, List, [], ◌∷◌, refl, sym, ap, ◌∙◌, nat_le}
use Rattle.std.proofs.lemmas.Bool.{and_parts, eqb-true, ltb-true, or_parts}
use Rattle.std.specs.Prelude.{nat_lt}
use Rattle.std.specs.Char.{is_ascii_alphabetic, is_ascii_alphanumeric}
use Rattle.unicode_ident.proofs.IdentLemmas.{is_xid_start-ascii, is_xid_continue-ascii}
use Rattle.ucd_emoji.specs.Binary.{is_emoji}
use Rattle.syntax_lex.specs.Class.{is_decimal, is_decimal_part, is_emoji_mark, is_hex, is_hex_part, is_id_continue, is_id_start, is_odd_rest, is_underscore}
use Rattle.syntax_lex.specs.Word.{begins_literal}
use Rattle.syntax_lex.specs.Stops.{is_stop}

-- ASCII signs begin no name
pub no_start : (c : ℕ) → c < 128 → is_ascii_alphabetic c ≡ false → (c == 95) ≡ false → is_id_start c ≡ false
no_start c lt other under = ap (λ b. b || (c == 95)) (is_xid_start-ascii c lt ∙ other) ∙ under

-- a character with which no token continues, except white space and comments
pub record IsPlain (s : ℕ) : Type 0 where
  pub no_start : is_id_start s ≡ false
  pub no_continue : is_id_continue s ≡ false
  pub no_emoji : is_emoji_mark s ≡ false
  pub no_odd : is_odd_rest s ≡ false
  pub no_decimal : is_decimal s ≡ false
  pub no_decimal_part : is_decimal_part s ≡ false
  pub no_hex : is_hex s ≡ false
  pub no_hex_part : is_hex_part s ≡ false
  pub no_underscore : is_underscore s ≡ false
  pub no_literal : begins_literal s ≡ false
  pub no_quote : (s == 34) ≡ false
  pub no_hash : (s == 35) ≡ false
  pub no_apostrophe : (s == 39) ≡ false
  pub no_star : (s == 42) ≡ false
  pub no_plus : (s == 43) ≡ false
  pub no_minus : (s == 45) ≡ false
  pub no_point : (s == 46) ≡ false
  pub no_slash : (s == 47) ≡ false
  pub no_exponent : ((s == 101) || (s == 69)) ≡ false
  pub no_b : (s == 98) ≡ false
  pub no_o : (s == 111) ≡ false
  pub no_x : (s == 120) ≡ false
  pub no_r : (s == 114) ≡ false

-- the ASCII characters with which tokens continue
goes_on : ℕ → Bool
goes_on s =
    is_ascii_alphabetic s || (is_ascii_alphanumeric s || ((s == 95) || (nat_le 128 s || (is_decimal s || (is_hex s || (begins_literal s || ((s == 8205)
    || ((s == 34) || ((s == 35) || ((s == 39) || ((s == 42) || ((s == 43) || ((s == 45) || ((s == 46) || ((s == 47) || (((s == 101) || (s == 69)) || ((s == 98) || ((s == 111) || ((s == 120) || (s == 114))))))))))))))))))))

-- so any other is plain
plain_sign : (s : ℕ) → s < 128 → goes_on s ≡ false → IsPlain s
unfolding goes_on
plain_sign s lt none =
    let a = or_parts (is_ascii_alphabetic s) _ none in
    let b = or_parts (is_ascii_alphanumeric s) _ a.1 in
    let c = or_parts (s == 95) _ b.1 in
    let d = or_parts (nat_le 128 s) _ c.1 in
    let e = or_parts (is_decimal s) _ d.1 in
    let f = or_parts (is_hex s) _ e.1 in
    let g = or_parts (begins_literal s) _ f.1 in
    let h = or_parts (s == 8205) _ g.1 in
    let i = or_parts (s == 34) _ h.1 in
    let j = or_parts (s == 35) _ i.1 in
    let k = or_parts (s == 39) _ j.1 in
    let l = or_parts (s == 42) _ k.1 in
    let m = or_parts (s == 43) _ l.1 in
    let n = or_parts (s == 45) _ m.1 in
    let o = or_parts (s == 46) _ n.1 in
    let p = or_parts (s == 47) _ o.1 in
    let q = or_parts ((s == 101) || (s == 69)) _ p.1 in
    let r = or_parts (s == 98) _ q.1 in
    let t = or_parts (s == 111) _ r.1 in
    let u = or_parts (s == 120) _ t.1 in
    let continue : is_id_continue s ≡ false = is_xid_continue-ascii s lt ∙ ap (λ b. b || (s == 95)) b.0 ∙ c.0 in
    let emoji : is_emoji_mark s ≡ false = ap (λ b. b && is_emoji s) d.0 in record {
      no_start = no_start s lt a.0 c.0;
      no_continue = continue;
      no_emoji = emoji;
      no_odd = rw (continue, emoji, h.0) refl;
      no_decimal = e.0;
      no_decimal_part = rw (e.0, c.0) refl;
      no_hex = f.0;
      no_hex_part = rw (f.0, c.0) refl;
      no_underscore = c.0;
      no_literal = g.0;
      no_quote = i.0;
      no_hash = j.0;
      no_apostrophe = k.0;
      no_star = l.0;
      no_plus = m.0;
      no_minus = n.0;
      no_point = o.0;
      no_slash = p.0;
      no_exponent = q.0;
      no_b = r.0;
      no_o = t.0;
      no_x = u.0;
      no_r = u.1;
    }

-- whether a character is one of these
abbrev pub any_of : (x : ℕ) (xs : List ℕ) → ℕ → Bool
any_of x [] c = c == x
any_of x (y ∷ ys) c = (c == x) || any_of y ys c

-- whether each of these passes a test
abbrev pub each_of : (ℕ → Bool) → (x : ℕ) (xs : List ℕ) → Bool
each_of test x [] = test x
each_of test x (y ∷ ys) = test x && each_of test y ys

-- so one of these passes it
pub one_of : (test : ℕ → Bool) (x : ℕ) (xs : List ℕ) → each_of test x xs ≡ true → (c : ℕ) → any_of x xs c ≡ true → test c ≡ true
one_of test x [] all c is = ap test (eqb-true c x is) ∙ all
one_of test x (y ∷ ys) all c is =
    let both = and_parts (test x) (each_of test y ys) all in
    go (c == x) refl is both.0 (one_of test y ys both.1 c)
  where
    go : (b : Bool) → (c == x) ≡ b → (b || any_of y ys c) ≡ true → test x ≡ true → (any_of y ys c ≡ true → test c ≡ true) → test c ≡ true
    go true e h one others = ap test (eqb-true c x e) ∙ one
    go false e h one others = others h

-- a plain character of ASCII, as a test
is_plain : ℕ → Bool
is_plain s = nat_lt s 128 && not (goes_on s)

pub not_true : (b : Bool) → not b ≡ true → b ≡ false
not_true true h = sym h
not_true false h = refl

plain_test : (s : ℕ) → is_plain s ≡ true → IsPlain s
unfolding is_plain
plain_test s is = let both = and_parts (nat_lt s 128) (not (goes_on s)) is in plain_sign s (ltb-true s 128 both.0) (not_true (goes_on s) both.1)

-- the null that means the end
pub plain_null : IsPlain 0
unfolding is_plain goes_on
plain_null = plain_test 0 refl

-- a tab, an end of a line, a carriage return, a space, brackets, a comma and a semicolon
pub plain_parting : (s : ℕ) → any_of 9 (10 ∷ 13 ∷ 44 ∷ 59 ∷ 32 ∷ 40 ∷ 41 ∷ 91 ∷ 93 ∷ 123 ∷ 125 ∷ []) s ≡ true → IsPlain s
unfolding is_plain goes_on
plain_parting s is = plain_test s (one_of is_plain 9 (10 ∷ 13 ∷ 44 ∷ 59 ∷ 32 ∷ 40 ∷ 41 ∷ 91 ∷ 93 ∷ 123 ∷ 125 ∷ []) refl s is)

-- a stop
pub plain_stop : (s : ℕ) → is_stop s ≡ true → IsPlain s
unfolding is_plain goes_on
plain_stop s is = plain_test s (one_of is_plain 32 (40 ∷ 41 ∷ 91 ∷ 93 ∷ 123 ∷ 125 ∷ []) refl s is)
