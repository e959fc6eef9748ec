-- Literals, words and lifetimes of two texts that begin alike.
use Rattle.std.proofs.Common.{◌≡◌, ◌⊎◌, inl, inr, ℕ, ◌+◌, ◌-◌, ◌≤◌, Bool, true, false, ◌==◌, ◌||◌, ◌&&◌, not, List, [], ◌∷◌, ◌++◌, length, refl, sym, ap, ◌∙◌, subst, arith, length-append, if◌then◌else◌}
use Rattle.std.proofs.Math.Utf8.{encodes}
use Rattle.std.proofs.lemmas.Bool.{cond_both, false≢true, false_from_ne_true, and_parts, eqb-true}
use Rattle.unicode_ident.proofs.IdentLemmas.{is_xid_continue-ascii}
use Rattle.std.proofs.lemmas.Str.{encodes-append}
use Rattle.syntax_lex.proofs.EndFacts.{behind_end, literal_end, named_end, skip_end, word_before_end}
use Rattle.syntax_lex.specs.Class.{is_decimal, is_emoji_mark, is_id_continue, is_id_start, is_odd_rest}
use Rattle.syntax_lex.specs.Front.{byte_length, first, second, skip, behind}
use Rattle.syntax_lex.specs.Quoted.{apostrophe, begins_lifetime, begins_raw_lifetime, char_literal, literal, named, quoted_char}
use Rattle.syntax_lex.specs.Word.{begins_literal, word, word_before}
use Rattle.syntax_lex.specs.declared.token.LiteralKind.{LiteralKind}
use Rattle.syntax_lex.specs.declared.token.LiteralKind.TheVariants as literals
use Rattle.syntax_lex.specs.declared.token.TokenKind.{TokenKind}
use Rattle.syntax_lex.specs.declared.token.TokenKind.TheVariants as kinds
use Rattle.syntax_lex.proofs.KeepFacts.{no_start}
use Rattle.syntax_lex.proofs.TwinQuotes.{Shut, char_twins, no_char, and_none}
use Rattle.syntax_lex.proofs.Twins.{Alike, IsShort, Stays, Twins, behind_none, branch, end_le, ends, front, held_of, name_twins, next_of, off, off_two, run, short_plain, stays_more, taken, unless}
use Rattle.syntax_lex.specs.Stops.{is_closed}

-- whether a token is closed: each except some comments and literals
abbrev pub is_shut : TokenKind → Bool
is_shut (kinds.BlockComment doc_style terminated) = terminated
is_shut (kinds.Literal kind suffix_start) = is_closed kind
is_shut _ = true

-- whether a token is a prefix: what follows it makes it one
abbrev pub is_prefix : TokenKind → Bool
is_prefix kinds.UnknownPrefix = true
is_prefix kinds.UnknownPrefixLifetime = true
is_prefix _ = false

-- the rest after a token stays, and the token is closed and no prefix
pub record Fits (r s : List ℕ) (read : TokenKind × List ℕ) : Type 0 where
  pub stays : Stays r s read.1
  pub shut : is_shut read.0 ≡ true
  pub known : (is_prefix read.0 ≡ false) ⊎ (IsShort r × (read.1 ≡ r))

pub byte_length-is : (xs : List ℕ) → byte_length xs ≡ length (encodes xs)
unfolding byte_length
byte_length-is xs = refl

pub byte_length-append : (xs ys : List ℕ) → byte_length (xs ++ ys) ≡ length (encodes xs) + byte_length ys
unfolding byte_length
byte_length-append xs ys = ap length (encodes-append xs ys) ∙ length-append (encodes xs) (encodes ys)

-- the fronts of two texts before r and s take the same bytes
bytes_twins : {r s a b : List ℕ} → Twins r s a b → byte_length a + byte_length s ≡ byte_length b + byte_length r
bytes_twins {r = r} {s = s} ends = omega arith
bytes_twins (front {c = c} {a = a} {b = b} t) = omega (arith, bytes_twins t, byte_length-append (c ∷ []) a, byte_length-append (c ∷ []) b)

literal_twins : {r s text text2 cs cs2 : List ℕ} (kind : LiteralKind) (suffixed : Bool) → Twins r s text text2 → Twins r s cs cs2 → Stays r s (literal text kind suffixed cs).1
    → Alike r s (literal text kind suffixed cs) (literal text2 kind suffixed cs2)
unfolding literal
literal_twins {r = r} {s = s} {text = text} {text2 = text2} {cs = cs} {cs2 = cs2} kind suffixed texts t stays = record { kind = ap (λ n. kinds.Literal kind n) lengths; left = by suffixed stays }
  where
    lengths : byte_length text - byte_length cs ≡ byte_length text2 - byte_length cs2
    lengths = omega (arith, bytes_twins texts, bytes_twins t)

    by : (b : Bool) → Stays r s (literal text kind b cs).1 → Twins r s (literal text kind b cs).1 (literal text2 kind b cs2).1
    by true h = name_twins t h
    by false h = t

-- a literal has no less left before its suffix
pub inner : {r s cs : List ℕ} (text : List ℕ) (kind : LiteralKind) (suffixed : Bool) → Stays r s (literal text kind suffixed cs).1 → Stays r s cs
inner {cs = cs} text kind suffixed stays = stays_more cs stays (end_le (literal_end text kind suffixed cs))

-- a literal, by what is found after the characters that open it
pub kind_twins : {r s text text2 : List ℕ} {K : Type 0} (kind : K → LiteralKind) (some : K → Bool) → Twins r s text text2 → (x y : K × List ℕ) → Alike r s x y → Stays r s (literal text (kind x.0) (some x.0) x.1).1
    → Alike r s (literal text (kind x.0) (some x.0) x.1) (literal text2 (kind y.0) (some y.0) y.1)
kind_twins {r = r} {s = s} {text = text} {text2 = text2} kind some texts x y same stays =
    subst (λ k. Alike r s (literal text (kind x.0) (some x.0) x.1) (literal text2 (kind k) (some k) y.1)) same.kind (literal_twins (kind x.0) (some x.0) texts same.left stays)

-- an identifier, by what follows it
word_before_twins : {r s a b : List ℕ} → Twins r s a b → Fits r s (word_before a) → Alike r s (word_before a) (word_before b)
word_before_twins {r = r} {s = s} ends m = go (begins_literal (first r)) refl (is_emoji_mark (first r)) refl m
  where
    word_as : (literal emoji : Bool) → List ℕ → TokenKind × List ℕ
    word_as literal emoji cs = if literal then (kinds.UnknownPrefix, cs) else (if emoji then (kinds.InvalidIdent, behind is_odd_rest cs) else (kinds.Ident, cs))

    -- emoji are odd, and one at the front is taken
    emoji_taken : is_emoji_mark (first r) ≡ true → length (behind is_odd_rest r) ≤ length (skip r)
    emoji_taken is = by r is
      where
        by : (t : List ℕ) → is_emoji_mark (first t) ≡ true → length (behind is_odd_rest t) ≤ length (skip t)
        by [] e = omega arith
        by (c ∷ cs) e = odd (is_id_continue c)
          where
            odd : (b : Bool) → length (if (b || is_emoji_mark c) || (c == 0x200d) then behind is_odd_rest cs else c ∷ cs) ≤ length cs
            odd true = end_le (behind_end is_odd_rest cs)
            odd false = rw e (end_le (behind_end is_odd_rest cs))

    go : (l : Bool) → begins_literal (first r) ≡ l → (e : Bool) → is_emoji_mark (first r) ≡ e → Fits r s (word_as l e r) → Alike r s (word_as l e r) (word_as (begins_literal (first s)) (is_emoji_mark (first s)) s)
    go true k e j h = absurd (by h.known)
      where
        by : (true ≡ false) ⊎ (IsShort r × (r ≡ r)) → ⊥
        by (inl never) = false≢true (sym never)
        by (inr (short, same)) = false≢true (sym (short_plain r short).no_literal ∙ k)
    go false k true j h = absurd (taken is_emoji_mark (λ c p. p.no_emoji) j (emoji_taken j) (held_of h.stays))
    go false k false j h =
        let next = next_of h.stays (omega arith) in
        let literal : begins_literal (first s) ≡ false = off begins_literal (λ c p. p.no_literal) k next in
        let emoji : is_emoji_mark (first s) ≡ false = off is_emoji_mark (λ c p. p.no_emoji) j next in
        rw (literal, emoji) (record { kind = refl; left = ends })
word_before_twins {r = r} {s = s} (front {c = c} t) m =
    branch (Fits r s) (Alike r s) (begins_literal c) _ _ _ _ (λ is h. record { kind = refl; left = front {c = c} t })
    (λ is h. branch (Fits r s) (Alike r s) (is_emoji_mark c) _ _ _ _ (λ k j. record { kind = refl; left = run is_odd_rest (λ d p. p.no_odd) (front {c = c} t) j.stays }) (λ k j. record { kind = refl; left = front {c = c} t }) h) m

-- an identifier after its first character
pub word_twins : {r s a b : List ℕ} → Twins r s a b → Fits r s (word a) → Alike r s (word a) (word b)
unfolding word
word_twins {a = a} t m =
    let left = behind is_id_continue a in
    word_before_twins (run is_id_continue (λ c p. p.no_continue) t (stays_more left m.stays (end_le (word_before_end left)))) m

-- a name or number after a quote
named_twins : {r s text text2 a b : List ℕ} (number : Bool) → Twins r s text text2 → Twins r s a b → Fits r s (named text number a) → Alike r s (named text number a) (named text2 number b)
named_twins {r = r} {s = s} {text = text} {text2 = text2} number texts ends m = go (first r == 39) refl (first r == 35) refl number m
  where
    named_as : (quote hash number : Bool) → (text cs : List ℕ) → TokenKind × List ℕ
    named_as quote hash number text cs =
        if quote then literal text (literals.Char true) false (skip cs) else (if hash && not number then (kinds.UnknownPrefixLifetime, cs) else (kinds.Lifetime number, cs))

    go : (q : Bool) → (first r == 39) ≡ q → (h : Bool) → (first r == 35) ≡ h → (n : Bool) → Fits r s (named_as q h n text r) → Alike r s (named_as q h n text r) (named_as (first s == 39) (first s == 35) n text2 s)
    go true e h k n fit = absurd (taken (λ c. c == 39) (λ c p. p.no_apostrophe) e (end_le (literal_end text (literals.Char true) false (skip r))) (held_of fit.stays))
    go false e true k false fit = absurd (by fit.known)
      where
        by : (true ≡ false) ⊎ (IsShort r × (r ≡ r)) → ⊥
        by (inl never) = false≢true (sym never)
        by (inr (short, same)) = false≢true (sym (short_plain r short).no_hash ∙ k)
    go false e h k true fit =
        let quote : (first s == 39) ≡ false = off (λ c. c == 39) (λ c p. p.no_apostrophe) e (next_of fit.stays (named_le h)) in
        rw (quote, and_none (first s == 35)) (alike_life h)
      where
        named_le : (h : Bool) → length (named_as false h true text r).1 ≤ length r
        named_le true = omega arith
        named_le false = omega arith

        alike_life : (h : Bool) → Alike r s (named_as false h true text r) (kinds.Lifetime true, s)
        alike_life true = record { kind = refl; left = ends }
        alike_life false = record { kind = refl; left = ends }
    go false e false k false fit =
        let next = next_of fit.stays (omega arith) in
        let quote : (first s == 39) ≡ false = off (λ c. c == 39) (λ c p. p.no_apostrophe) e next in
        let hash : (first s == 35) ≡ false = off (λ c. c == 35) (λ c p. p.no_hash) k next in
        rw (quote, hash) (record { kind = refl; left = ends })
named_twins {r = r} {s = s} number texts (front {c = c} t) m =
    branch (Fits r s) (Alike r s) (c == 39) _ _ _ _ (λ is h. literal_twins (literals.Char true) false texts t h.stays)
    (λ is h. branch (Fits r s) (Alike r s) ((c == 35) && not number) _ _ _ _ (λ k j. record { kind = refl; left = front {c = c} t }) (λ k j. record { kind = refl; left = front {c = c} t }) h) m

-- a character is closed if its token is
shut_char : {r s : List ℕ} (text : List ℕ) (found : Bool × List ℕ) → Fits r s (char_literal text found) → Shut r found
unfolding literal
shut_char text found m = record { closed = m.shut; held = held_of (inner text (literals.Char found.0) found.0 m.stays) }

shut_twins : {r s a b : List ℕ} (text : List ℕ) → Twins r s a b → Fits r s (char_literal text (quoted_char a)) → Alike r s (quoted_char a) (quoted_char b)
unfolding literal
shut_twins {a = a} text t m = let found = quoted_char a in char_twins t m.shut (inner text (literals.Char found.0) found.0 m.stays)

char_literal_twins : {r s text text2 a b : List ℕ} → Twins r s text text2 → Twins r s a b → Fits r s (char_literal text (quoted_char a)) → Alike r s (char_literal text (quoted_char a)) (char_literal text2 (quoted_char b))
char_literal_twins {text = text} {a = a} {b = b} texts t m =
    kind_twins literals.Char (λ w. w) texts (quoted_char a) (quoted_char b) (shut_twins text t m) m.stays

-- a name after a quote, and its first character
life_twins : {r s text text2 a b : List ℕ} (x : ℕ) → Twins r s text text2 → Twins r s a b → Fits r s (named text (is_decimal x) (behind is_id_continue a))
    → Alike r s (named text (is_decimal x) (behind is_id_continue a)) (named text2 (is_decimal x) (behind is_id_continue b))
life_twins {text = text} {a = a} x texts t m =
    let left = behind is_id_continue a in
    named_twins (is_decimal x) texts (run is_id_continue (λ c p. p.no_continue) t (stays_more left m.stays (end_le (named_end text (is_decimal x) left)))) m

-- a text that may be a lifetime begins with no backslash
no_escape : (c : ℕ) → (is_id_start c || is_decimal c) ≡ true → (c == 92) ≡ false
no_escape c is = false_from_ne_true (c == 92) (λ e. false≢true (sym (ap (λ x. is_id_start x || is_decimal x) (eqb-true c 92 e) ∙ (rw (no_start 92 (omega arith) refl refl) refl)) ∙ is))

-- the quote of a character that closes it is not left
single_char : {r : List ℕ} (c : ℕ) → (first r == 39) ≡ true → (c == 92) ≡ false → Shut r (quoted_char (c ∷ r)) → ⊥
unfolding quoted_char
single_char {r = r} c quote other m = taken (λ d. d == 39) (λ d p. p.no_apostrophe) quote (omega arith) (subst (Shut r) is m).held
  where
    is : quoted_char (c ∷ r) ≡ (true, skip r)
    is = rw (quote, other) refl

-- `'r#` without a name is a prefix
no_raw : {r s : List ℕ} (text : List ℕ) → Fits r s (named text (is_decimal 114) (behind is_id_continue (35 ∷ r))) → ⊥
no_raw {r = r} {s = s} text m = by (subst (λ t. Fits r s (named text false t)) hash m).known
  where
    hash : behind is_id_continue (35 ∷ r) ≡ 35 ∷ r
    hash = behind_none is_id_continue (35 ∷ r) (is_xid_continue-ascii 35 (omega arith))

    by : (true ≡ false) ⊎ (IsShort r × (35 ∷ r ≡ r)) → ⊥
    by (inl never) = false≢true (sym never)
    by (inr (short, same)) = omega (arith, ap length same)

-- a lifetime or a character of a text, after its quote and its first character
abbrev behind_first : (begins : Bool) → (c : ℕ) → (text cs : List ℕ) → TokenKind × List ℕ
behind_first begins c text cs =
    if begins then (if begins_raw_lifetime (c ∷ cs) then (kinds.RawLifetime, behind is_id_continue (skip (skip cs))) else named text (is_decimal c) (behind is_id_continue cs)) else char_literal text (quoted_char (c ∷ cs))

-- a character or a lifetime
pub apostrophe_twins : {r s text text2 a b : List ℕ} → Twins r s text text2 → Twins r s a b → Fits r s (apostrophe text a) → Alike r s (apostrophe text a) (apostrophe text2 b)
unfolding apostrophe
apostrophe_twins {r = r} {s = s} {text = text} texts ends m = absurd (cond_both (begins_lifetime r) _ (char_literal text (quoted_char r)) (λ x. Fits r s x → ⊥) life (λ e h. no_char (shut_char text (quoted_char r) h)) m)
  where
    found : Bool → TokenKind × List ℕ
    found raw = if raw then (kinds.RawLifetime, behind is_id_continue (skip (skip (skip r)))) else named text (is_decimal (first r)) (behind is_id_continue (skip r))

    long : (raw : Bool) → length (found raw).1 ≤ length (skip r)
    long true = omega (arith, end_le (behind_end is_id_continue (skip (skip (skip r)))), end_le (skip_end (skip (skip r))), end_le (skip_end (skip r)))
    long false = omega (arith, end_le (named_end text (is_decimal (first r)) (behind is_id_continue (skip r))), end_le (behind_end is_id_continue (skip r)))

    life : begins_lifetime r ≡ true → Fits r s (found (begins_raw_lifetime r)) → ⊥
    life e h = taken (λ c. is_id_start c || is_decimal c) (λ c p. rw (p.no_start, p.no_decimal) refl) (and_parts (not (second r == 39)) (is_id_start (first r) || is_decimal (first r)) e).1 (long (begins_raw_lifetime r)) (held_of h.stays)
apostrophe_twins {r = r} {s = s} {text = text} {text2 = text2} texts (front {c = c} ends) m = go (is_id_start c || is_decimal c) refl (first r == 39) refl m
  where
    go : (b : Bool) → (is_id_start c || is_decimal c) ≡ b → (q : Bool) → (first r == 39) ≡ q → Fits r s (behind_first (not q && b) c text r)
        → Alike r s (behind_first (not q && b) c text r) (behind_first (not (first s == 39) && b) c text2 s)
    go false k true e h = rw (and_none (not (first s == 39))) (char_literal_twins texts (front {c = c} ends) h)
    go false k false e h = rw (and_none (not (first s == 39))) (char_literal_twins texts (front {c = c} ends) h)
    go true k true e h = absurd (single_char c e (no_escape c k) (shut_char text (quoted_char (c ∷ r)) h))
    go true k false e h = raws (begins_raw_lifetime (c ∷ r)) refl h
      where
        raws : (w : Bool) → begins_raw_lifetime (c ∷ r) ≡ w → Fits r s (if w then (kinds.RawLifetime, behind is_id_continue (skip (skip r))) else named text (is_decimal c) (behind is_id_continue r))
            → Alike r s (if w then (kinds.RawLifetime, behind is_id_continue (skip (skip r))) else named text (is_decimal c) (behind is_id_continue r)) (behind_first (not (first s == 39) && true) c text2 s)
        raws true w h =
            absurd (taken (λ d. d == 35) (λ d p. p.no_hash) (and_parts (c == 114) _ ((and_parts _ _ w).0)).1 (omega (arith, end_le (behind_end is_id_continue (skip (skip r))), end_le (skip_end (skip r)))) (held_of h.stays))
        raws false w h =
            let next = next_of h.stays (omega (arith, end_le (named_end text (is_decimal c) (behind is_id_continue r)), end_le (behind_end is_id_continue r))) in
            let quote : (first s == 39) ≡ false = off (λ d. d == 39) (λ d p. p.no_apostrophe) e next in
            let raw : begins_raw_lifetime (c ∷ s) ≡ false = off_two (λ d f. ((c == 114) && (d == 35)) && is_id_start f) (λ d f p. ap (λ u. ((c == 114) && u) && is_id_start f) p.no_hash ∙ ap (λ u. u && is_id_start f) (and_none (c == 114))) w next in
            rw (quote, raw) (life_twins c texts ends h)
apostrophe_twins {r = r} {s = s} {text = text} {text2 = text2} texts (front {c = c} (front {c = d} ends)) m =
    branch (Fits r s) (Alike r s) (begins_lifetime (c ∷ d ∷ r)) _ _ _ _
    (λ is h. unless (Fits r s) (Alike r s) (begins_raw_lifetime (c ∷ d ∷ r)) (begins_raw_lifetime (c ∷ d ∷ s)) _ _ _ _
    (λ e k. taken is_id_start (λ x p. p.no_start) (and_parts _ _ e).1 (end_le (behind_end is_id_continue (skip r))) (held_of k.stays))
    (λ e k. marks (c == 114) refl (d == 35) refl k) (λ e k. life_twins c texts (front {c = d} ends) k) h)
    (λ is h. char_literal_twins texts (front {c = c} (front {c = d} ends)) h) m
  where
    marks : (u : Bool) → (c == 114) ≡ u → (v : Bool) → (d == 35) ≡ v → Fits r s (named text (is_decimal c) (behind is_id_continue (d ∷ r))) → ((u && v) && is_id_start (first s)) ≡ false
    marks false e v k h = refl
    marks true e false k h = refl
    marks true e true k h = absurd (no_raw text (subst (λ x. Fits r s (named text (is_decimal 114) (behind is_id_continue (x ∷ r)))) (eqb-true d 35 k) (subst (λ x. Fits r s (named text (is_decimal x) (behind is_id_continue (d ∷ r)))) (eqb-true c 114 e) h)))
apostrophe_twins {r = r} {s = s} texts (front {c = c} (front {c = d} (front {c = e} {a = a} t))) m =
    branch (Fits r s) (Alike r s) (begins_lifetime (c ∷ d ∷ e ∷ a)) _ _ _ _
    (λ is h. branch (Fits r s) (Alike r s) (begins_raw_lifetime (c ∷ d ∷ e ∷ a)) _ _ _ _ (λ k j. record { kind = refl; left = run is_id_continue (λ x p. p.no_continue) t j.stays })
    (λ k j. life_twins c texts (front {c = d} (front {c = e} t)) j) h)
    (λ is h. char_literal_twins texts (front {c = c} (front {c = d} (front {c = e} t))) h) m
