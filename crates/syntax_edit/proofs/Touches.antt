-- Where two texts touch: what their last and first bytes say about the tokens there.
use Rattle.std.proofs.Common.{◌≡◌, ◌≢◌, ◌⊎◌, inl, inr, ℕ, ◌-◌, ◌<◌, Bool, true, false, ◌==◌, ◌||◌, ◌&&◌, not, List, [], ◌∷◌, ◌++◌, length, Option, None, Some, is_some, refl, sym, ap, ◌∙◌, ⊎_elim, subst, arith, append-nil, length-append, if◌then◌else◌}
use Rattle.std.proofs.lemmas.Bool.{false≢true, and_parts, eqb-true}
use Rattle.std.proofs.lemmas.Str.{IsUtf8-from_ascii, chars-append, chars-nil, encode_ascii, encodes-chars}
use Rattle.std.proofs.Math.Utf8.{encode, encodes}
use Rattle.std.specs.List.{list_any, slice_get}
use Rattle.std.specs.Str.{chars, IsUtf8}
use Rattle.tt_base.specs.declared.punct.Spacing.TheVariants.{Alone, Joint}
use Rattle.syntax_edit.specs.Texts.{apart_bytes, is_apart, is_joined_before, is_separator, is_sign, may_touch, separator_bytes}
use Rattle.syntax_lex.specs.Class.{is_whitespace}
use Rattle.syntax_lex.specs.Front.{first}
use Rattle.syntax_lex.specs.Opening.{symbol}
use Rattle.syntax_lex.specs.Reading.{reading}
use Rattle.syntax_lex.specs.declared.token.TokenKind.{TokenKind}
use Rattle.syntax_lex.specs.declared.token.TokenKind.TheVariants as kinds
use Rattle.syntax_edit.proofs.ToldKinds.{punct_back}
use Rattle.syntax_edit.proofs.KindFacts.{blank_read, life_first, SameBefore}
use Rattle.syntax_edit.proofs.DocTexts.{utf8_before}
use Rattle.syntax_edit.proofs.Tokens.{never_last, token_parted}
use Rattle.syntax_edit.specs.Kept.{is_parting, is_sound}
use Rattle.syntax_lex.proofs.SignFacts.{sign_read}
use Rattle.syntax_lex.specs.Stops.{is_ended}
use Rattle.syntax_parse.specs.Pieces.{punct_char, spacing_before}
use Rattle.syntax_unparse.proofs.Fronts.{ascii_first, not_nil}
use Rattle.syntax_unparse.proofs.KindFacts.{ascii_one, punct_known}
use Rattle.syntax_unparse.specs.Writable.{is_lifetime}

-- something for each byte of a list
abbrev Each : (ℕ → Type 0) → List ℕ → Type 0
Each P [] = Unit {0}
Each P (x ∷ xs) = P x × Each P xs

-- so each of them has it
one_listed : (P : ℕ → Type 0) (bytes : List ℕ) (b : ℕ) → Each P bytes → list_any (λ it. it == b) bytes ≡ true → P b
one_listed P [] b all is = absurd (false≢true is)
one_listed P (x ∷ xs) b (here, others) is = go (x == b) refl (one_listed P xs b others) is
  where
    go : (w : Bool) → (x == b) ≡ w → (list_any (λ it. it == b) xs ≡ true → P b) → (w || list_any (λ it. it == b) xs) ≡ true → P b
    go true e more h = subst P (eqb-true x b e) here
    go false e more h = more h

-- an ASCII byte that separates tokens
pub record Parts (b : ℕ) : Type 0 where
  pub ascii : b < 128
  pub parts : is_parting b ≡ true

-- a sign that is a token whatever follows it
abbrev pub Lone : ℕ → Type 0
Lone l = (r : List ℕ) → reading (l ∷ r) ≡ (symbol l, r)

-- white space, or a bracket: no punct is joint before it
abbrev Apart : ℕ → Type 0
Apart l = Parts l × ((is_whitespace l ≡ true) ⊎ (Lone l × (punct_char (symbol l) ≡ None) × (spacing_before (Some (symbol l)) ≡ Alone)))

apart_cases : (b : ℕ) → Apart 32 → Apart 9 → Apart 10 → Apart 13 → Apart 40 → Apart 41 → Apart 91 → Apart 93 → Apart 123 → Apart 125 → is_apart b ≡ true → Apart b
apart_cases b p32 p9 p10 p13 p40 p41 p91 p93 p123 p125 = one_listed Apart apart_bytes b (p32, (p9, (p10, (p13, (p40, (p41, (p91, (p93, (p123, (p125, tt))))))))))

apart_byte : (b : ℕ) → is_apart b ≡ true → Apart b
unfolding symbol
apart_byte b =
    let white : (n : ℕ) → n < 128 → is_parting n ≡ true → is_whitespace n ≡ true → Apart n = λ n low parts is. (record { ascii = low; parts = parts }, inl is) in
    let bracket : (n : ℕ) → n < 128 → is_parting n ≡ true → Lone n → punct_char (symbol n) ≡ None → spacing_before (Some (symbol n)) ≡ Alone → Apart n =
    λ n low parts lone none alone. (record { ascii = low; parts = parts }, inr (lone, none, alone)) in
    apart_cases b (white 32 (omega arith) refl refl) (white 9 (omega arith) refl refl) (white 10 (omega arith) refl refl) (white 13 (omega arith) refl refl)
    (bracket 40 (omega arith) refl (λ r. sign_read 40 r refl refl) refl refl) (bracket 41 (omega arith) refl (λ r. sign_read 41 r refl refl) refl refl)
    (bracket 91 (omega arith) refl (λ r. sign_read 91 r refl refl) refl refl) (bracket 93 (omega arith) refl (λ r. sign_read 93 r refl refl) refl refl)
    (bracket 123 (omega arith) refl (λ r. sign_read 123 r refl refl) refl refl) (bracket 125 (omega arith) refl (λ r. sign_read 125 r refl refl) refl refl)

-- a comma or a semicolon
separator_byte : (b : ℕ) → is_separator b ≡ true → Parts b × Lone b
separator_byte b =
    one_listed (λ n. Parts n × Lone n) separator_bytes b
    ((record { ascii = omega arith; parts = refl }, λ r. sign_read 44 r refl refl), ((record { ascii = omega arith; parts = refl }, λ r. sign_read 59 r refl refl), tt))

-- the character of a punct is a sign
abbrev signs : Option ℕ → Bool
signs None = true
signs (Some c) = is_sign c

punct_signs : (kind : TokenKind) → signs (punct_char kind) ≡ true
punct_signs kinds.Semi = refl
punct_signs kind = refl

pub punct_sign : (kind : TokenKind) (c : ℕ) → punct_char kind ≡ Some c → is_sign c ≡ true
punct_sign kind c is = sym (ap signs is) ∙ punct_signs kind

-- no punct is joint before a token whose first character is no punct and no quote
pub sign_alone : (f : ℕ) (fs : List ℕ) → (encode f ≡ f ∷ [] → is_joined_before f ≡ true → ⊥) → spacing_before (Some (reading (f ∷ fs)).0) ≡ Alone
sign_alone f fs other = go (reading (f ∷ fs)).0 refl
  where
    life : is_lifetime (reading (f ∷ fs)).0 ≡ true → ⊥
    life is = let quote : f ≡ 39 = life_first f fs is in other (subst (λ c. encode c ≡ c ∷ []) (sym quote) (encode_ascii 39 (omega arith))) (ap is_joined_before quote)

    punct : (kind : TokenKind) → (reading (f ∷ fs)).0 ≡ kind → (c : Option ℕ) → punct_char kind ≡ c → (if is_some c then Joint else Alone) ≡ Alone
    punct kind e None is = refl
    punct kind e (Some c) is =
        let same : f ≡ c = (punct_back f fs c (ap punct_char e ∙ is)).0 in
        absurd (other (subst (λ d. encode d ≡ d ∷ []) (sym same) (punct_known kind c is).bytes) (ap is_joined_before same ∙ ap (λ b. b || (c == 39)) (punct_sign kind c is)))

    go : (kind : TokenKind) → (reading (f ∷ fs)).0 ≡ kind → spacing_before (Some kind) ≡ Alone
    go (kinds.Lifetime digit) e = absurd (life (ap is_lifetime e))
    go kinds.RawLifetime e = absurd (life (ap is_lifetime e))
    go kind e = punct kind e (punct_char kind) refl

-- the first character and the first byte of a text
first_byte : (t : List ℕ) (f : ℕ) (fs : List ℕ) (b : ℕ) → IsUtf8 t → chars t ≡ f ∷ fs → slice_get t 0 ≡ Some b → encode f ≡ f ∷ [] → Some f ≡ Some b
first_byte t f fs b utf8 letters byte one =
    ap (λ u. slice_get u 0) (ap (λ u. u ++ encodes fs) (sym one) ∙ sym (ap encodes letters) ∙ encodes-chars t utf8) ∙ byte

some_is : (f b : ℕ) → Some f ≡ Some b → f ≡ b
some_is f b e = cc

-- a first byte of ASCII is the first character
pub first_letter : (t : List ℕ) (f : ℕ) (fs : List ℕ) (b : ℕ) → chars t ≡ f ∷ fs → slice_get t 0 ≡ Some b → b < 128 → f ≡ b
first_letter [] f fs b letters byte lt = absurd (cc)
first_letter (d ∷ bs) f fs b letters byte lt =
    let is : d ≡ b = some_is d b byte in
    ap first (sym letters) ∙ ap first (ascii_first d bs (subst (λ n. n < 128) (sym is) lt)) ∙ is

-- the last byte of a text
abbrev pub last_of : List ℕ → Option ℕ
last_of t = slice_get t (length t - 1)

-- a last byte of ASCII is the last character
last_letter : (front : List ℕ) (l : ℕ) → l < 128 → IsUtf8 (front ++ l ∷ []) → chars (front ++ l ∷ []) ≡ chars front ++ l ∷ []
last_letter front l lt utf8 =
    chars-append front (l ∷ []) (utf8_before front (l ∷ []) (IsUtf8-from_ascii (l ∷ []) (ascii_one l lt)) utf8) ∙ ap (λ t. chars front ++ t) (ascii_first l [] lt ∙ ap (λ t. l ∷ t) chars-nil)

-- a text that is not empty has a last byte
pub snoc : (t : List ℕ) → t ≢ [] → (front : List ℕ) × (l : ℕ) × (t ≡ front ++ l ∷ [])
snoc [] some = absurd (some refl)
snoc (x ∷ []) some = ([], x, refl)
snoc (x ∷ y ∷ t) some = let (front, l, e) = snoc (y ∷ t) (λ h. absurd (omega (arith, ap length h))) in (x ∷ front, l, ap (λ u. x ∷ u) e)

pub last_snoc : (front : List ℕ) (l : ℕ) → last_of (front ++ l ∷ []) ≡ Some l
last_snoc front l = ap (slice_get (front ++ l ∷ [])) (omega (arith, length-append front (l ∷ []))) ∙ at front
  where
    at : (front : List ℕ) → slice_get (front ++ l ∷ []) (length front) ≡ Some l
    at [] = refl
    at (x ∷ front) = at front

-- a token whose last byte separates tokens is that byte
pub lone_last : (t : List ℕ) (c : ℕ) (cs : List ℕ) (l : ℕ) (kind : TokenKind) → IsUtf8 t → chars t ≡ c ∷ cs → last_of t ≡ Some l → Parts l → reading (c ∷ cs) ≡ (kind, []) → is_sound kind ≡ true → is_ended kind ≡ true
    → c ∷ cs ≡ l ∷ []
lone_last t c cs l kind utf8 letters last parts read sound ended =
    let (front, d, e) = snoc t (λ none. not_nil c cs (sym letters ∙ ap chars none ∙ chars-nil)) in
    let is : d ≡ l = some_is d l (sym (last_snoc front d) ∙ ap last_of (sym e) ∙ last) in
    let whole : t ≡ front ++ l ∷ [] = e ∙ ap (λ n. front ++ n ∷ []) is in
    let shape : chars front ++ l ∷ [] ≡ c ∷ cs = sym (last_letter front l parts.ascii (subst IsUtf8 whole utf8)) ∙ sym (ap chars whole) ∙ letters in
    go (chars front) shape
  where
    go : (ds : List ℕ) → ds ++ l ∷ [] ≡ c ∷ cs → c ∷ cs ≡ l ∷ []
    go [] h = sym h
    go (d ∷ ds) h = absurd (never_last (d ∷ ds) l kind (λ n. absurd (omega (arith, ap length n))) (ap reading h ∙ read) sound ended parts.parts)

not_both : (b : Bool) → not b ≡ true → b ≡ true → ⊥
not_both b h k = false≢true (sym (ap (λ c. not c) k) ∙ h)

-- the token, and how it touches what follows
pub record Touch (c : ℕ) (cs : List ℕ) (kind : TokenKind) (f : ℕ) (fs : List ℕ) : Type 0 where
  pub read : reading (c ∷ (cs ++ f ∷ fs)) ≡ (kind, f ∷ fs)
  pub same : SameBefore kind None (Some (reading (f ∷ fs)).0)

-- a token is the same before a text that may touch it
pub touch : (t u : List ℕ) (c : ℕ) (cs : List ℕ) (kind : TokenKind) (f : ℕ) (fs : List ℕ) (l b : ℕ) → IsUtf8 t → IsUtf8 u → chars t ≡ c ∷ cs → chars u ≡ f ∷ fs → last_of t ≡ Some l → slice_get u 0 ≡ Some b
    → reading (c ∷ cs) ≡ (kind, []) → is_sound kind ≡ true → is_ended kind ≡ true → is_whitespace c ≡ false → may_touch l b ≡ true → Touch c cs kind f fs
touch t u c cs kind f fs l b utf8 fine letters marks last byte read sound ended space may =
    by (is_apart l) (is_apart b) (is_separator b && not (is_sign l)) (is_separator l && not (is_joined_before b)) last_apart first_apart first_separates last_separates may
  where
    by : (p q r s : Bool) → (p ≡ true → Touch c cs kind f fs) → (q ≡ true → Touch c cs kind f fs) → (r ≡ true → Touch c cs kind f fs) → (s ≡ true → Touch c cs kind f fs) → (p || (q || (r || s))) ≡ true → Touch c cs kind f fs
    by true q r s one two three four h = one refl
    by false true r s one two three four h = two refl
    by false false true s one two three four h = three refl
    by false false false s one two three four h = four h

    lone : Lone l → c ∷ cs ≡ l ∷ [] → reading (c ∷ (cs ++ f ∷ fs)) ≡ (kind, f ∷ fs)
    lone any e = ap (λ x. reading (x ++ f ∷ fs)) e ∙ any (f ∷ fs) ∙ ap (λ k. (k, f ∷ fs)) (kind_of any e)
      where
        kind_of : Lone l → c ∷ cs ≡ l ∷ [] → symbol l ≡ kind
        kind_of any e = ap (λ p. p.0) (sym (any []) ∙ ap reading (sym e) ∙ read)

    blunt : Parts b → reading (c ∷ (cs ++ f ∷ fs)) ≡ (kind, f ∷ fs)
    blunt parts =
        let is : f ≡ b = first_letter u f fs b marks byte parts.ascii in
        token_parted (c ∷ cs) fs f kind (λ n. absurd (omega (arith, ap length n))) read sound ended (ap is_parting is ∙ parts.parts)

    last_apart : is_apart l ≡ true → Touch c cs kind f fs
    last_apart h =
        let (parts, sort) = apart_byte l h in
        let e = lone_last t c cs l kind utf8 letters last parts read sound ended in
        ⊎_elim (λ white. absurd (false≢true (sym space ∙ ap is_whitespace (ap first e) ∙ white)))
        (λ bracket. record { read = lone bracket.0 e; same = inr (ap (λ p. punct_char p.0) (sym read ∙ ap reading e ∙ bracket.0 []) ∙ bracket.1) }) sort

    first_apart : is_apart b ≡ true → Touch c cs kind f fs
    first_apart h =
        let (parts, sort) = apart_byte b h in
        let is : f ≡ b = first_letter u f fs b marks byte parts.ascii in
        let alone : spacing_before (Some (reading (b ∷ fs)).0) ≡ Alone =
        ⊎_elim (λ white. ap (λ p. spacing_before (Some p.0)) (blank_read b fs white)) (λ bracket. ap (λ p. spacing_before (Some p.0)) (bracket.0 fs) ∙ bracket.2) sort in
        record { read = blunt parts; same = inl (sym (ap (λ n. spacing_before (Some (reading (n ∷ fs)).0)) is ∙ alone)) }

    first_separates : (is_separator b && not (is_sign l)) ≡ true → Touch c cs kind f fs
    first_separates h =
        let both = and_parts (is_separator b) (not (is_sign l)) h in
        record { read = blunt (separator_byte b both.0).0; same = inr (no_punct (not_both (is_sign l) both.1) (punct_char kind) refl) }
      where
        no_punct : (is_sign l ≡ true → ⊥) → (o : Option ℕ) → punct_char kind ≡ o → punct_char kind ≡ None
        no_punct none None e = e
        no_punct none (Some d) e =
            let back = punct_back c cs d (ap (λ p. punct_char p.0) read ∙ e) in
            let alone : cs ≡ [] = sym back.1 ∙ ap (λ p. p.1) read in
            let one : encode c ≡ c ∷ [] = subst (λ n. encode n ≡ n ∷ []) (sym back.0) (punct_known kind d e).bytes in
            let whole : t ≡ c ∷ [] = sym (encodes-chars t utf8) ∙ ap encodes (letters ∙ ap (λ x. c ∷ x) alone) ∙ append-nil (encode c) ∙ one in
            let is : c ≡ l = some_is c l (ap last_of (sym whole) ∙ last) in
            absurd (none (ap is_sign (sym is ∙ back.0) ∙ punct_sign kind d e))

    last_separates : (is_separator l && not (is_joined_before b)) ≡ true → Touch c cs kind f fs
    last_separates h =
        let both = and_parts (is_separator l) (not (is_joined_before b)) h in
        let e = lone_last t c cs l kind utf8 letters last (separator_byte l both.0).0 read sound ended in
        record {
          read = lone (separator_byte l both.0).1 e;
          same = inl (sym (sign_alone f fs (λ one joined. not_both (is_joined_before b) both.1 (ap is_joined_before (sym (some_is f b (first_byte u f fs b fine marks byte one))) ∙ joined))));
        }
