-- The parts of the text of a closed literal.
use Rattle.std.proofs.Common.{◌≡◌, ℕ, zero, suc, ◌+◌, ◌<◌, ◌-◌, Bool, true, false, ◌==◌, ◌&&◌, not, List, [], ◌∷◌, ◌++◌, length, drop, replicate, Option, None, Some, refl, sym, ap, ◌∙◌, ⊎_elim, arith, cond, length-append, append_assoc}
use Rattle.std.proofs.lemmas.Bool.{false≢true, cases_eq, cases_Bool, ne_eqb, eq-eqb, eqb-true, and_parts}
use Rattle.std.proofs.lemmas.Str.{encode_ascii, encodes-append}
use Rattle.std.specs.Prelude.{encode_utf8_all, unwrap_or, is_some, nat_lt}
use Rattle.syntax_lex.specs.Closing.{behind_raw, counted, hashes_of, raw_body, raw_text}
use Rattle.syntax_lex.specs.Ends.{IsEnd, whole, later}
use Rattle.syntax_lex.specs.Front.{byte_length, first, second, skip, behind}
use Rattle.syntax_lex.specs.Quoted.{behind_apostrophe, gives_up, literal, quoted_char}
use Rattle.syntax_lex.specs.Number.{number}
use Rattle.syntax_lex.specs.Literals.{quoted, raw}
use Rattle.syntax_lex.specs.declared.token.LiteralKind.{LiteralKind}
use Rattle.syntax_lex.specs.declared.token.TokenKind.{TokenKind}
use Rattle.syntax_lex.proofs.EndFacts.{literal_end}
use Rattle.syntax_lex.proofs.GrammarFacts.{raw_closed, hashes_front}

-- a literal's text: `ahead` bytes before the value, `close` bytes after it, then the suffix; `left` follows it
pub record Shape (cs left : List ℕ) (ahead close place : ℕ) : Type 0 where
  pub before : List ℕ
  pub body : List ℕ
  pub after : List ℕ
  pub rest : List ℕ
  pub text : cs ≡ before ++ (body ++ (after ++ rest))
  pub open_len : byte_length before ≡ ahead
  pub close_len : byte_length after ≡ close
  pub suffix : place ≡ byte_length cs - byte_length rest
  pub ends : IsEnd left rest

pub one_byte : (c : ℕ) → c < 128 → byte_length (c ∷ []) ≡ 1
unfolding byte_length
one_byte c lt = ap (λ xs. length (xs ++ [])) (encode_ascii c lt)

pub byte_length-both : (xs ys : List ℕ) → byte_length (xs ++ ys) ≡ byte_length xs + byte_length ys
unfolding byte_length
byte_length-both xs ys = ap length (encodes-append xs ys) ∙ length-append (encode_utf8_all xs) (encode_utf8_all ys)

pub byte_length-empty : byte_length [] ≡ 0
unfolding byte_length
byte_length-empty = refl

pub byte_length-hashes : (n : ℕ) → byte_length (replicate n 35) ≡ n
byte_length-hashes zero = byte_length-empty
byte_length-hashes (suc n) = byte_length-both (35 ∷ []) (replicate n 35) ∙ omega (arith, one_byte 35 (omega arith), byte_length-hashes n)

-- if an end of a text is left, something precedes it
pub front_of : {rest text : List ℕ} → IsEnd rest text → (front : List ℕ) × (text ≡ front ++ rest)
front_of whole = ([], refl)
front_of (later {c = c} h) = let e = front_of h in (c ∷ e.0, ap (λ t. c ∷ t) e.1)

-- a text that begins with a character other than the null character
pub begins : (cs : List ℕ) (c : ℕ) → first cs ≡ suc c → cs ≡ suc c ∷ skip cs
begins [] c h = absurd (omega arith)
begins (d ∷ cs) c h = ap (λ x. x ∷ cs) h

-- a closed character ends with a quote
pub apostrophe_closed : (escaped : Bool) (cs rest : List ℕ) → behind_apostrophe escaped cs ≡ (true, rest) → (body : List ℕ) × (cs ≡ body ++ 39 ∷ rest)
apostrophe_closed true [] rest h = absurd (false≢true (ap (λ p. p.0) h))
apostrophe_closed false [] rest h = absurd (false≢true (ap (λ p. p.0) h))
apostrophe_closed true (c ∷ cs) rest h = let f = apostrophe_closed false cs rest h in (c ∷ f.0, ap (λ t. c ∷ t) f.1)
apostrophe_closed false (c ∷ cs) rest h =
    ⊎_elim
    (λ e.
    let k : (true, cs) ≡ (true, rest) = ap (λ b. cond b (true, cs) (cond (gives_up c (first cs)) (false, c ∷ cs) (behind_apostrophe (c == 92) cs))) (sym (eq-eqb c 39 e)) ∙ h in
    ([], ap (λ d. d ∷ cs) e ∙ ap (λ p. 39 ∷ p.1) k))
    (λ ne.
    let k : cond (gives_up c (first cs)) (false, c ∷ cs) (behind_apostrophe (c == 92) cs) ≡ (true, rest) =
    ap (λ b. cond b (true, cs) (cond (gives_up c (first cs)) (false, c ∷ cs) (behind_apostrophe (c == 92) cs))) (sym (ne_eqb c 39 ne)) ∙ h in
    ⊎_elim
    (λ g. absurd (false≢true (ap (λ p. p.0) (ap (λ b. cond b (false, c ∷ cs) (behind_apostrophe (c == 92) cs)) (sym g) ∙ k))))
    (λ g.
    let f = apostrophe_closed (c == 92) cs rest (ap (λ b. cond b (false, c ∷ cs) (behind_apostrophe (c == 92) cs)) (sym g) ∙ k) in
    (c ∷ f.0, ap (λ t. c ∷ t) f.1))
    (cases_Bool (gives_up c (first cs))))
    (cases_eq c 39)

pub char_closed : (cs rest : List ℕ) → quoted_char cs ≡ (true, rest) → (body : List ℕ) × (cs ≡ body ++ 39 ∷ rest)
unfolding quoted_char
char_closed cs rest h =
    ⊎_elim
    (λ e.
    let k : (true, skip (skip cs)) ≡ (true, rest) = ap (λ b. cond b (true, skip (skip cs)) (behind_apostrophe false cs)) (sym e) ∙ h in
    one cs (eqb-true (second cs) 39 (and_parts (second cs == 39) (not (first cs == 92)) e).0) (ap (λ p. p.1) k))
    (λ g. apostrophe_closed false cs rest (ap (λ b. cond b (true, skip (skip cs)) (behind_apostrophe false cs)) (sym g) ∙ h))
    (cases_Bool ((second cs == 39) && not (first cs == 92)))
  where
    one : (ds : List ℕ) → second ds ≡ 39 → skip (skip ds) ≡ rest → (body : List ℕ) × (ds ≡ body ++ 39 ∷ rest)
    one [] e k = absurd (omega arith)
    one (d ∷ ds) e k = (d ∷ [], ap (λ t. d ∷ t) (begins ds 38 e ∙ ap (λ t. 39 ∷ t) k))

-- a literal in quotes that is closed
pub quoted_shape : (text before cs : List ℕ) (quote ahead : ℕ) (kind : Bool → LiteralKind) (found : Bool × List ℕ) → quote < 128 → text ≡ before ++ cs → byte_length before ≡ ahead
    → found.0 ≡ true → ((rest : List ℕ) → found ≡ (true, rest) → (body : List ℕ) × (cs ≡ body ++ quote ∷ rest))
    → Shape text (quoted text kind found).1 ahead 1 (byte_length text - byte_length found.1)
quoted_shape text before cs quote ahead kind found lt is len closed has =
    let b = has found.1 (ap (λ x. (x, found.1)) closed) in record {
      before = before;
      body = b.0;
      after = quote ∷ [];
      rest = found.1;
      text = is ∙ ap (λ t. before ++ t) b.1;
      open_len = len;
      close_len = one_byte quote lt;
      suffix = refl;
      ends = literal_end text (kind found.0) found.0 found.1;
    }

-- a raw text that is closed, after its hashes
pub raw_parts : (n : ℕ) (ds : List ℕ) → is_some (raw_body n ds).0 ≡ true
    → ((raw_body n ds).0 ≡ Some n) × (body : List ℕ) × (ds ≡ 34 ∷ (body ++ 34 ∷ (replicate n 35 ++ (raw_body n ds).1)))
raw_parts n ds closed =
    let r = behind_raw n (skip ds) in
    ⊎_elim
    (λ e.
    let p : raw_body n ds ≡ (counted r.0 n, r.1) = ap (λ b. cond b (counted r.0 n, r.1) (None, skip ds)) e in
    ⊎_elim
    (λ k.
    let answer : counted r.0 n ≡ Some n = ap (λ b. cond b (Some n) None) k in
    let b = raw_closed n (skip ds) r.1 (ap (λ x. (x, r.1)) (and_parts r.0 (nat_lt n 256) k).0) in (
      ap (λ q. q.0) p ∙ answer,
      b.0,
      begins ds 33 (eqb-true (first ds) 34 e) ∙ ap (λ t. 34 ∷ t) b.2 ∙ ap (λ t. 34 ∷ (b.0 ++ 34 ∷ (replicate n 35 ++ t))) (sym (ap (λ q. q.1) p)),
    ))
    (λ k. absurd (false≢true (sym (ap (λ q. is_some q.0) p ∙ ap (λ b. is_some (cond {A = Option ℕ} b (Some n) None)) k) ∙ closed)))
    (cases_Bool (r.0 && nat_lt n 256)))
    (λ e. absurd (false≢true (sym (ap (λ b. is_some (cond {A = Option ℕ × List ℕ} b (counted r.0 n, r.1) (None, skip ds)).0) e) ∙ closed)))
    (cases_Bool (first ds == 34))

-- a raw literal that is closed: letters and a raw text after them
pub raw_shape : (text before cs : List ℕ) (ahead : ℕ) (kind : Option ℕ → LiteralKind) → text ≡ before ++ cs → byte_length before ≡ ahead → is_some (raw_text cs).0 ≡ true
    → Shape text (raw text kind (raw_text cs)).1 (ahead + 1 + unwrap_or (raw_text cs).0 0) (1 + unwrap_or (raw_text cs).0 0) (byte_length text - byte_length (raw_text cs).1)
unfolding raw_text
raw_shape text before cs ahead kind is len closed =
    let n = hashes_of cs in
    let hashes : List ℕ = replicate n 35 in
    let p = raw_parts n (drop n cs) closed in
    let rest = (raw_text cs).1 in
    let answer : unwrap_or (raw_text cs).0 0 ≡ n = ap (λ o. unwrap_or o 0) p.0 in record {
      before = before ++ (hashes ++ 34 ∷ []);
      body = p.1;
      after = 34 ∷ hashes;
      rest = rest;
      text =
          is ∙ ap (λ t. before ++ t) (hashes_front n cs (omega arith) ∙ ap (λ t. hashes ++ t) p.2)
          ∙ ap (λ t. before ++ t) (sym (append_assoc hashes (34 ∷ []) (p.1 ++ 34 ∷ (hashes ++ rest))))
          ∙ sym (append_assoc before (hashes ++ 34 ∷ []) (p.1 ++ 34 ∷ (hashes ++ rest)));
      open_len =
          byte_length-both before (hashes ++ 34 ∷ [])
          ∙ omega (arith, len, byte_length-both hashes (34 ∷ []), byte_length-hashes n, one_byte 34 (omega arith), answer);
      close_len = byte_length-both (34 ∷ []) hashes ∙ omega (arith, byte_length-hashes n, one_byte 34 (omega arith), answer);
      suffix = refl;
      ends = literal_end text (kind (raw_text cs).0) (is_some (raw_text cs).0) rest;
    }

-- a number may always have a suffix
abbrev pub numeric : (text : List ℕ) → LiteralKind × List ℕ → TokenKind × List ℕ
numeric text found = literal text found.0 true found.1

-- a number
pub numeric_shape : (text : List ℕ) (found : LiteralKind × List ℕ) → IsEnd found.1 text → Shape text (numeric text found).1 0 0 (byte_length text - byte_length found.1)
numeric_shape text found is_end =
    let f = front_of is_end in record {
      before = [];
      body = f.0;
      after = [];
      rest = found.1;
      text = f.1;
      open_len = byte_length-empty;
      close_len = byte_length-empty;
      suffix = refl;
      ends = literal_end text found.0 true found.1;
    }
