-- A lifetime is a `'` and a name.
use Rattle.std.proofs.Common.{◌≡◌, ⊎_elim, ℕ, ◌≤◌, nat_le, Bool, true, false, ◌==◌, ◌||◌, ◌&&◌, not, IsTrue, List, [], ◌∷◌, refl, sym, ap, ap₂, ◌∙◌, subst, arith, if◌then◌else◌}
use Rattle.std.proofs.Math.Bool.{and-false}
use Rattle.std.proofs.lemmas.Bool.{and_parts, eqb-true, false≢true, leb-true, lt-leb, ne_eqb, or_cases}
use Rattle.syntax_lex.specs.Class.{is_decimal, is_emoji_mark, is_id_continue, is_id_start, is_whitespace}
use Rattle.syntax_lex.specs.Front.{behind, first, second, skip}
use Rattle.syntax_lex.specs.Opening.{begins_raw, opening, opening_b, opening_c, opening_r}
use Rattle.syntax_lex.specs.Quoted.{apostrophe, begins_lifetime, begins_raw_lifetime, literal}
use Rattle.syntax_lex.specs.Reading.{reading, reading_of}
use Rattle.syntax_lex.specs.Word.{word, word_before}
use Rattle.syntax_lex.specs.declared.opening.Family.{Family}
use Rattle.syntax_lex.specs.declared.opening.Family.TheVariants as opens
use Rattle.syntax_lex.specs.declared.token.TokenKind.{TokenKind}
use Rattle.syntax_lex.specs.declared.token.TokenKind.TheVariants as kinds
use Rattle.syntax_edit.proofs.KindFacts.{life_first}
use Rattle.syntax_edit.proofs.Roles.{name_kind}
use Rattle.syntax_edit.proofs.ToldKinds.{lifetime_as, named_as}
use Rattle.syntax_lex.proofs.KeepFacts.{no_start, plain_null}
use Rattle.syntax_unparse.proofs.Fronts.{not_nil}
use Rattle.syntax_unparse.specs.Writable.{is_lifetime}
use Rattle.unicode_ident.proofs.Computing.{unicode_ident}
use Rattle.unicode_ident.proofs.IdentLemmas.{is_xid_continue-ascii}

-- if all characters of a text continue a name, its first is no character that does not
front_other : (t : List ℕ) (n : ℕ) → behind is_id_continue t ≡ [] → is_id_continue n ≡ false → (0 == n) ≡ false → (first t == n) ≡ false
front_other [] n all no_part no_null = no_null
front_other (c ∷ cs) n all no_part no_null = ne_eqb c n (λ e. not_nil c cs (sym (ap (λ b. if b then behind is_id_continue cs else c ∷ cs) (ap is_id_continue e ∙ no_part)) ∙ all))

skip_all : (t : List ℕ) → behind is_id_continue t ≡ [] → behind is_id_continue (skip t) ≡ []
skip_all [] all = refl
skip_all (c ∷ cs) all = go (is_id_continue c) refl
  where
    go : (b : Bool) → is_id_continue c ≡ b → behind is_id_continue cs ≡ []
    go true e = sym (ap (λ b. if b then behind is_id_continue cs else c ∷ cs) e) ∙ all
    go false e = absurd (not_nil c cs (sym (ap (λ b. if b then behind is_id_continue cs else c ∷ cs) e) ∙ all))

part_34 : is_id_continue 34 ≡ false
part_34 = is_xid_continue-ascii 34 (omega arith)

part_35 : is_id_continue 35 ≡ false
part_35 = is_xid_continue-ascii 35 (omega arith)

-- a name begins with no white space
no_starts : (is_id_start 0x85 ≡ false) × (is_id_start 0x200e ≡ false) × (is_id_start 0x200f ≡ false) × (is_id_start 0x2028 ≡ false) × (is_id_start 0x2029 ≡ false)
unfolding unicode_ident
no_starts = (refl, refl, refl, refl, refl)

start_is : (x n : ℕ) → is_id_start x ≡ true → is_id_start n ≡ false → (x == n) ≡ false
start_is x n start none = ne_eqb x n (λ e. false≢true (sym none ∙ ap is_id_start (sym e) ∙ start))

-- a name begins with no control character
no_control : (x : ℕ) → is_id_start x ≡ true → (nat_le 9 x && nat_le x 13) ≡ false
no_control x start = go (nat_le 9 x && nat_le x 13) refl
  where
    go : (b : Bool) → (nat_le 9 x && nat_le x 13) ≡ b → b ≡ false
    go false e = refl
    go true e =
        let high : x ≤ 13 = leb-true x 13 (and_parts (nat_le 9 x) (nat_le x 13) e).1 in
        absurd (false≢true (sym (no_start x (omega (arith, high)) (rw (lt-leb 65 x (omega (arith, high)), lt-leb 97 x (omega (arith, high))) refl) (ne_eqb x 95 (λ is. omega (arith, high, is)))) ∙ start))

no_white : (x : ℕ) → is_id_start x ≡ true → is_whitespace x ≡ false
no_white x start =
    rw (
      no_control x start,
      start_is x 32 start (no_start 32 (omega arith) refl refl),
      start_is x 0x85 start no_starts.0,
      start_is x 0x200e start no_starts.1,
      start_is x 0x200f start no_starts.2,
      start_is x 0x2028 start no_starts.3,
      start_is x 0x2029 start no_starts.4,
    )
    refl

-- a name opens a word
opens_word : (x : ℕ) (xs : List ℕ) → is_id_start x ≡ true → behind is_id_continue xs ≡ [] → opening x (first xs) (second xs) ≡ opens.Word
unfolding opening
opens_word x xs start all = rw (no_white x start, start_is x 47 start (no_start 47 (omega arith) refl refl)) (by (x == 114) (x == 98) (x == 99))
  where
    r_word : opening_r (first xs) (second xs) ≡ opens.Word
    r_word = rw (front_other xs 35 all part_35 refl, front_other xs 34 all part_34 refl) refl

    raws : begins_raw (second xs) ≡ false
    raws = rw (front_other (skip xs) 34 (skip_all xs all) part_34 refl, front_other (skip xs) 35 (skip_all xs all) part_35 refl) refl

    raw_none : ((first xs == 114) && begins_raw (second xs)) ≡ false
    raw_none = ap (λ b. (first xs == 114) && b) raws ∙ and-false (first xs == 114)

    b_word : opening_b (first xs) (second xs) ≡ opens.Word
    b_word = rw (front_other xs 39 all (is_xid_continue-ascii 39 (omega arith)) refl, front_other xs 34 all part_34 refl, raw_none) refl

    c_word : opening_c (first xs) (second xs) ≡ opens.Word
    c_word = rw (front_other xs 34 all part_34 refl, raw_none) refl

    rest : Bool → Family
    rest b =
        if b then opens.Word
        else (if is_decimal x then opens.Number
        else (if x == 39 then opens.Apostrophe
        else (if x == 34 then opens.Str
        else (if (x == 35) && begins_raw (first xs) then opens.Guarded
        else (if is_emoji_mark x then opens.OddWord
        else opens.Symbol)))))

    by : (r b c : Bool) → (if r then opening_r (first xs) (second xs) else (if b then opening_b (first xs) (second xs) else (if c then opening_c (first xs) (second xs) else rest (is_id_start x)))) ≡ opens.Word
    by true b c = r_word
    by false true c = b_word
    by false false true = c_word
    by false false false = ap rest start

-- a name alone is an identifier
pub name_read : (x : ℕ) (xs : List ℕ) → is_id_start x ≡ true → behind is_id_continue xs ≡ [] → reading (x ∷ xs) ≡ (kinds.Ident, [])
unfolding reading reading_of word
name_read x xs start all = ap (λ f. reading_of f (x ∷ xs) xs) (opens_word x xs start all) ∙ ap word_before all

raw_name_read : (z : ℕ) (zs : List ℕ) → is_id_start z ≡ true → behind is_id_continue zs ≡ [] → reading (114 ∷ 35 ∷ z ∷ zs) ≡ (kinds.RawIdent, [])
unfolding reading reading_of opening
raw_name_read z zs start all = rw start (ap (λ t. (kinds.RawIdent, t)) (ap (λ b. if b then behind is_id_continue zs else z ∷ zs) start ∙ all))

-- the parts of a lifetime of a kind
pub record Life (lifetime : TokenKind) (front : List ℕ) : Type 0 where
  pub rest : List ℕ
  pub are : front ≡ 39 ∷ rest
  pub read : reading rest ≡ (name_kind lifetime, [])

no_digit_life : (x : ℕ) (xs : List ℕ) → begins_lifetime (x ∷ xs) ≡ true → is_decimal x ≡ false → is_id_start x ≡ true
no_digit_life x xs begins none =
    ⊎_elim (λ start. start) (λ digit. absurd (false≢true (sym none ∙ digit))) (or_cases (is_id_start x) (is_decimal x) (and_parts (not (first xs == 39)) (is_id_start x || is_decimal x) begins).1)

quote_life : (cs : List ℕ) (kind : TokenKind) → apostrophe (39 ∷ cs) cs ≡ (kind, []) → IsTrue (is_lifetime kind) → (kind ≡ kinds.Lifetime true → ⊥) → Life kind (39 ∷ cs)
unfolding apostrophe literal
quote_life cs kind read living fine = go (begins_lifetime cs) refl (begins_raw_lifetime cs) refl read
  where
    left : List ℕ
    left = behind is_id_continue (skip cs)

    no_literal : (p : TokenKind × List ℕ) → is_lifetime p.0 ≡ false → p ≡ (kind, []) → ⊥
    no_literal p none e = false≢true (sym none ∙ ap (λ p. is_lifetime p.0) e ∙ living)

    digit : (d : Bool) → kinds.Lifetime d ≡ kind → d ≡ false
    digit false e = refl
    digit true e = absurd (fine (sym e))

    plain : (d : Bool) (t : List ℕ) → begins_lifetime t ≡ true → is_decimal (first t) ≡ false → behind is_id_continue (skip t) ≡ [] → Life (kinds.Lifetime d) (39 ∷ t)
    plain d [] begins none all = absurd (false≢true (sym (ap (λ b. true && (b || false)) plain_null.no_start) ∙ begins))
    plain d (x ∷ xs) begins none all = record { rest = x ∷ xs; are = refl; read = name_read x xs (no_digit_life x xs begins none) all }

    raw_life : (t : List ℕ) → begins_raw_lifetime t ≡ true → behind is_id_continue (skip (skip (skip t))) ≡ [] → Life kinds.RawLifetime (39 ∷ t)
    raw_life [] h k = absurd (false≢true h)
    raw_life (x ∷ []) h k = absurd (false≢true (and_parts (x == 114) (0 == 35) (and_parts ((x == 114) && (0 == 35)) (is_id_start 0) h).0).1)
    raw_life (x ∷ y ∷ []) h k = absurd (false≢true (sym plain_null.no_start ∙ (and_parts ((x == 114) && (y == 35)) (is_id_start 0) h).1))
    raw_life (x ∷ y ∷ z ∷ zs) h k =
        let both = and_parts (x == 114) (y == 35) (and_parts ((x == 114) && (y == 35)) (is_id_start z) h).0 in
        let start = (and_parts ((x == 114) && (y == 35)) (is_id_start z) h).1 in record {
          rest = x ∷ y ∷ z ∷ zs;
          are = refl;
          read = ap₂ (λ a b. reading (a ∷ b ∷ z ∷ zs)) (eqb-true x 114 both.0) (eqb-true y 35 both.1) ∙ raw_name_read z zs start k;
        }

    named_go : (quote hash : Bool) → begins_lifetime cs ≡ true → named_as (39 ∷ cs) quote hash (is_decimal (first cs)) left ≡ (kind, []) → Life kind (39 ∷ cs)
    named_go true hash begins e = absurd (no_literal _ refl e)
    named_go false true begins e = absurd (no_literal _ refl e)
    named_go false false begins e =
        subst (λ k. Life k (39 ∷ cs)) (ap (λ p. p.0) e) (plain (is_decimal (first cs)) cs begins (digit (is_decimal (first cs)) (ap (λ p. p.0) e)) (ap (λ p. p.1) e))

    go : (b : Bool) → begins_lifetime cs ≡ b → (w : Bool) → begins_raw_lifetime cs ≡ w → lifetime_as (39 ∷ cs) (begins_lifetime cs) (begins_raw_lifetime cs) cs left ≡ (kind, []) → Life kind (39 ∷ cs)
    go false e w f h = absurd (no_literal _ refl (sym (ap (λ b. lifetime_as (39 ∷ cs) b (begins_raw_lifetime cs) cs left) e) ∙ h))
    go true e true f h =
        let is = sym (ap₂ (λ b v. lifetime_as (39 ∷ cs) b v cs left) e f) ∙ h in
        subst (λ k. Life k (39 ∷ cs)) (ap (λ p. p.0) is) (raw_life cs f (ap (λ p. p.1) is))
    go true e false f h =
        let is = sym (ap₂ (λ b v. lifetime_as (39 ∷ cs) b v cs left) e f) ∙ h in
        named_go (first left == 39) ((first left == 35) && not (is_decimal (first cs))) e is

-- a quote begins a lifetime or a character
quote_read : (cs : List ℕ) → reading (39 ∷ cs) ≡ apostrophe (39 ∷ cs) cs
unfolding reading reading_of opening
quote_read cs = rw (no_start 39 (omega arith) refl refl) refl

-- a lifetime alone is a `'` and a name
pub life_back : (front : List ℕ) (kind : TokenKind) → reading front ≡ (kind, []) → IsTrue (is_lifetime kind) → (kind ≡ kinds.Lifetime true → ⊥) → Life kind front
unfolding reading
life_back [] kind read living fine = absurd (false≢true (ap (λ p. is_lifetime p.0) read ∙ living))
life_back (d ∷ ds) kind read living fine =
    let is : d ≡ 39 = life_first d ds (ap (λ p. is_lifetime p.0) read ∙ living) in
    subst (λ n. Life kind (n ∷ ds)) (sym is) (quote_life ds kind (sym (quote_read ds) ∙ ap (λ n. reading (n ∷ ds)) (sym is) ∙ read) living fine)
