-- Which token of a text is a number or a literal in quotes, by its first characters.
use Rattle.std.proofs.Common.{◌≡◌, ℕ, ◌-◌, Bool, true, false, ◌==◌, ◌&&◌, not, List, [], ◌∷◌, ◌++◌, refl, sym, ap, ◌∙◌, if◌then◌else◌, suc, replicate, subst, arith}
use Rattle.std.proofs.Math.Bool.{or-true}
use Rattle.std.proofs.lemmas.Bool.{and_parts, false≢true, ne_eqb, eqb-true}
use Rattle.syntax_edit.proofs.QuotedTexts.{QuotedAs, char_closes, is_quoted, is_quoted_token, quoted_as, quoted_back, raw_back, string_closes, raw_byte_opens, raw_c_opens, raw_opens}
use Rattle.syntax_edit.proofs.ToldKinds.{apostrophe_kind, word_kind, lifetime_as, named_as}
use Rattle.syntax_lex.proofs.KeepFacts.{not_true, no_start}
use Rattle.syntax_lex.proofs.Tables.{symbol_passes, Known, known, opening_facts}
use Rattle.syntax_lex.specs.Stops.{is_number, is_number_kind, is_closed}
use Rattle.syntax_lex.proofs.EndFacts.{number_end, behind_end, on, skip_end}
use Rattle.syntax_lex.specs.Class.{is_decimal, is_decimal_part, is_id_start, passes, is_id_continue}
use Rattle.syntax_lex.specs.Closing.{behind_quote}
use Rattle.syntax_lex.specs.Front.{behind, byte_length, first, second, skip}
use Rattle.syntax_lex.specs.Number.{base_of, begins_exponent, begins_fraction, behind_sign, class_of, has_digit, has_letter, number, with_exponent, with_fraction}
use Rattle.syntax_lex.specs.Opening.{opening}
use Rattle.syntax_lex.specs.Quoted.{literal, apostrophe, begins_lifetime, begins_raw_lifetime, quoted_char}
use Rattle.syntax_lex.specs.Reading.{reading, reading_of}
use Rattle.syntax_lex.specs.declared.opening.Family.TheVariants as opens
use Rattle.syntax_lex.specs.declared.opening.Family.{Family}
use Rattle.syntax_lex.specs.declared.token.Base.TheVariants.{Binary, Octal, Decimal, Hexadecimal}
use Rattle.syntax_lex.specs.declared.token.Base.{Base}
use Rattle.syntax_lex.specs.declared.token.LiteralKind.TheVariants as literals
use Rattle.syntax_lex.specs.declared.token.LiteralKind.{LiteralKind}
use Rattle.syntax_lex.specs.declared.token.TokenKind.TheVariants as kinds
use Rattle.syntax_lex.specs.declared.token.TokenKind.{TokenKind}
use Rattle.syntax_parse.proofs.ShapeParts.{begins}
use Rattle.syntax_parse.proofs.TextFacts.{end_split}
use Rattle.unicode_ident.specs.Ident.{is_xid_start}

-- no `_` begins the rest after a number
abbrev NoLine : List ℕ → Type 0
NoLine cs = (first cs == 95) ≡ false

run_ends : (p : ℕ → Bool) (cs : List ℕ) → p 95 ≡ true → NoLine (behind p cs)
run_ends p [] line = refl
run_ends p (c ∷ cs) line = go (p c) refl (run_ends p cs line)
  where
    go : (b : Bool) → p c ≡ b → NoLine (behind p cs) → NoLine (behind p (c ∷ cs))
    go true e more = rw e more
    go false e more = rw e (ne_eqb c 95 (λ k. false≢true (sym e ∙ ap p k ∙ line)))

-- a number, with no `_` after it
abbrev IsEnded : LiteralKind × List ℕ → Type 0
IsEnded found = (is_number_kind found.0 ≡ true) × NoLine found.1

exponent_ends : (base : Base) (kind : LiteralKind) (cs : List ℕ) → is_number_kind kind ≡ true → NoLine cs → IsEnded (with_exponent base kind cs)
unfolding with_exponent
exponent_ends base kind cs is line = go (begins_exponent cs) refl
  where
    go : (b : Bool) → begins_exponent cs ≡ b → IsEnded (with_exponent base kind cs)
    go true e = rw e (refl, run_ends is_decimal_part (behind_sign (skip cs)) refl)
    go false e = rw e (is, line)

line_start : is_id_start 95 ≡ true
line_start = or-true (is_xid_start 95)

fraction_ends : (base : Base) (cs : List ℕ) → NoLine cs → IsEnded (with_fraction base cs)
unfolding with_fraction
fraction_ends base cs line = go (begins_fraction cs) refl (is_decimal (second cs)) refl
  where
    go : (b : Bool) → begins_fraction cs ≡ b → (d : Bool) → is_decimal (second cs) ≡ d → IsEnded (with_fraction base cs)
    go true e true k = rw (e, k) (exponent_ends base (literals.Float base false) (behind is_decimal_part (skip cs)) refl (run_ends is_decimal_part (skip cs) refl))
    go true e false k =
        let other : not (is_id_start (second cs)) ≡ true = (and_parts ((first cs == 46) && not (second cs == 46)) (not (is_id_start (second cs))) e).1 in
        rw (e, k) (refl, ne_eqb (second cs) 95 (λ is. false≢true (ap (λ b. not b) (sym line_start ∙ ap is_id_start (sym is)) ∙ other)))
    go false e d k = rw e (exponent_ends base (literals.Int base false) cs refl line)

base_line : (base : Base) → passes (class_of base) 95 ≡ true
base_line Binary = refl
base_line Octal = refl
base_line Decimal = refl
base_line Hexadecimal = refl

abbrev number_in : Base → List ℕ → LiteralKind × List ℕ
number_in base cs =
    if has_letter base
    then (if has_digit base (skip cs) then with_fraction base (behind (passes (class_of base)) (skip cs)) else (literals.Int base true, behind (passes (class_of base)) (skip cs)))
    else with_fraction base (behind is_decimal_part cs)

pub number_ends : (digit : ℕ) (cs : List ℕ) → IsEnded (number digit cs)
unfolding number
number_ends digit cs = by (base_of digit (first cs))
  where
    run : (base : Base) → NoLine (behind (passes (class_of base)) (skip cs))
    run base = run_ends (passes (class_of base)) (skip cs) (base_line base)

    lettered : (base : Base) (some : Bool) → IsEnded (if some then with_fraction base (behind (passes (class_of base)) (skip cs)) else (literals.Int base true, behind (passes (class_of base)) (skip cs)))
    lettered base true = fraction_ends base (behind (passes (class_of base)) (skip cs)) (run base)
    lettered base false = (refl, run base)

    by : (base : Base) → IsEnded (number_in base cs)
    by Binary = lettered Binary (has_digit Binary (skip cs))
    by Octal = lettered Octal (has_digit Octal (skip cs))
    by Decimal = fraction_ends Decimal (behind is_decimal_part cs) (run_ends is_decimal_part cs refl)
    by Hexadecimal = lettered Hexadecimal (has_digit Hexadecimal (skip cs))

-- a number's text: the rest at its suffix begins with no `_`
pub record IsNumber (cs : List ℕ) (start : ℕ) : Type 0 where
  pub front : List ℕ
  pub rest : List ℕ
  pub are : cs ≡ front ++ rest
  pub place : start ≡ byte_length cs - byte_length rest
  pub no_line : (first rest == 95) ≡ false

-- where the suffix of a literal begins
abbrev pub start_of : TokenKind → ℕ
start_of (kinds.Literal kind start) = start
start_of _ = 0

pub number_back : (c : ℕ) (cs : List ℕ) (kind : TokenKind) → reading (c ∷ cs) ≡ (kind, []) → is_number kind ≡ true → IsNumber (c ∷ cs) (start_of kind)
unfolding reading reading_of literal
number_back c cs kind read is = go (opening c (first cs) (second cs)) read
  where
    none : (p : TokenKind × List ℕ) → is_number p.0 ≡ false → p ≡ (kind, []) → ⊥
    none p other e = false≢true (sym other ∙ ap (λ q. is_number q.0) e ∙ is)

    go : (family : Family) → reading_of family (c ∷ cs) cs ≡ (kind, []) → IsNumber (c ∷ cs) (start_of kind)
    go opens.Number h =
        let split = end_split (number_end c cs) in record {
          front = c ∷ split.0;
          rest = (number c cs).1;
          are = ap (λ t. c ∷ t) split.1;
          place = sym (ap (λ p. start_of p.0) h);
          no_line = (number_ends c cs).1;
        }
    go opens.Symbol h = absurd (none _ (not_true _ (symbol_passes (λ n k. not (is_number k)) refl c refl)) h)
    go opens.Word h = absurd (none _ (word_kind (λ k. is_number k ≡ false) refl refl refl cs) h)
    go opens.Apostrophe h = absurd (none _ (apostrophe_kind (λ k. is_number k ≡ false) refl refl (λ digit. refl) (λ closed start. refl) (c ∷ cs) cs) h)
    go family h = absurd (none _ refl h)

-- a `"` opens a string, and a `'` a character or a lifetime
string_opens : (d e : ℕ) → opening 34 d e ≡ opens.Str
unfolding opening
string_opens d e = rw (no_start 34 (omega arith) refl refl) refl

apostrophe_opens : (d e : ℕ) → opening 39 d e ≡ opens.Apostrophe
unfolding opening
apostrophe_opens d e = rw (no_start 39 (omega arith) refl refl) refl

-- a text that begins no lifetime before a quote begins none if nothing follows the quote
no_lifetime : (cs body rest : List ℕ) → cs ≡ body ++ 39 ∷ rest → begins_lifetime cs ≡ false → begins_lifetime (body ++ 39 ∷ []) ≡ false
no_lifetime cs [] rest are none = rw (no_start 39 (omega arith) refl refl) refl
no_lifetime cs (x ∷ []) rest are none = refl
no_lifetime cs (x ∷ y ∷ ys) rest are none = sym (ap begins_lifetime are) ∙ none

-- a character, after its first quote
apostrophe_back : (cs : List ℕ) (token : TokenKind) → reading (39 ∷ cs) ≡ (token, []) → apostrophe (39 ∷ cs) cs ≡ (token, []) → is_quoted_token token ≡ true → QuotedAs token (39 ∷ cs)
unfolding reading reading_of apostrophe literal
apostrophe_back cs token read h is = go (begins_lifetime cs) refl (begins_raw_lifetime cs) h
  where
    left : List ℕ
    left = behind is_id_continue (skip cs)

    none : (p : TokenKind × List ℕ) → is_quoted_token p.0 ≡ false → p ≡ (token, []) → ⊥
    none p other e = false≢true (sym other ∙ ap (λ q. is_quoted_token q.0) e ∙ is)

    named_is : (quote : Bool) → (first left == 39) ≡ quote → (hash : Bool) → named_as (39 ∷ cs) quote hash (is_decimal (first cs)) left ≡ (token, []) → QuotedAs token (39 ∷ cs)
    named_is false e true k = absurd (none _ refl k)
    named_is false e false k = absurd (none _ refl k)
    named_is true e hash k =
        let ends : left ≡ 39 ∷ [] = begins left 38 (eqb-true (first left) 39 e) ∙ ap (λ t. 39 ∷ t) (ap (λ p. p.1) k) in
        let split = end_split (on (behind_end is_id_continue (skip cs)) (skip_end cs)) in
        let are : cs ≡ split.0 ++ 39 ∷ [] = split.1 ∙ ap (λ t. split.0 ++ t) ends in
        let told : kinds.Literal (literals.Char true) (byte_length (39 ∷ cs) - byte_length []) ≡ token = ap (λ t. kinds.Literal (literals.Char true) (byte_length (39 ∷ cs) - byte_length t)) (sym (ap (λ p. p.1) k)) ∙ ap (λ p. p.0) k in
        let all : reading (39 ∷ cs) ≡ (kinds.Literal (literals.Char true) (byte_length (39 ∷ cs) - byte_length []), []) = read ∙ ap (λ t. (t, [])) (sym told) in
        subst (λ t. QuotedAs t (39 ∷ cs)) told
        (quoted_as (literals.Char true) (39 ∷ cs) (39 ∷ []) split.0 (39 ∷ []) [] refl refl (ap (λ t. 39 ∷ t) are)
        (subst (λ t. reading (39 ∷ t) ≡ (kinds.Literal (literals.Char true) (byte_length (39 ∷ t) - byte_length []), [])) are all))

    go : (b : Bool) → begins_lifetime cs ≡ b → (raw : Bool) → lifetime_as (39 ∷ cs) b raw cs left ≡ (token, []) → QuotedAs token (39 ∷ cs)
    go true e true k = absurd (none _ refl k)
    go true e false k = named_is (first left == 39) refl ((first left == 35) && not (is_decimal (first cs))) k
    go false e raw k =
        quoted_back (39 ∷ cs) (39 ∷ []) cs 39 literals.Char quoted_char token refl refl refl char_closes
        (λ body rest are.
        let text : List ℕ = body ++ 39 ∷ [] in
        ap (λ f. reading_of f (39 ∷ text) text) (apostrophe_opens (first text) (second text))
        ∙ ap (λ b. lifetime_as (39 ∷ text) b (begins_raw_lifetime text) text (behind is_id_continue (skip text))) (no_lifetime cs body rest are e))
        (ap (λ p. is_quoted_token p.0) k ∙ is) (ap (λ p. p.0) k)

-- a number has no quotes
number_plain : (kind : LiteralKind) → is_number_kind kind ≡ true → is_quoted kind ≡ false
number_plain kind h = ap (λ b. not b && is_closed kind) h

-- the second character of a text
second_is : (c d n : ℕ) (cs : List ℕ) → c ≡ n → first cs ≡ suc d → c ∷ cs ≡ n ∷ suc d ∷ skip cs
second_is c d n cs e k = ap (λ x. x ∷ cs) e ∙ ap (λ t. n ∷ t) (begins cs d k)

-- a literal in quotes that takes all of a text
pub quotes_back : (c : ℕ) (cs : List ℕ) (token : TokenKind) → reading (c ∷ cs) ≡ (token, []) → is_quoted_token token ≡ true → QuotedAs token (c ∷ cs)
unfolding reading reading_of opening literal
quotes_back c cs token read is = go (opening c (first cs) (second cs)) (opening_facts c (first cs) (second cs)) read
  where
    none : (p : TokenKind × List ℕ) → is_quoted_token p.0 ≡ false → p ≡ (token, []) → ⊥
    none p other e = false≢true (sym other ∙ ap (λ q. is_quoted_token q.0) e ∙ is)

    go : (family : Family) → Known family c (first cs) → reading_of family (c ∷ cs) cs ≡ (token, []) → QuotedAs token (c ∷ cs)
    go opens.Str (known e) h =
        quoted_back (c ∷ cs) (34 ∷ []) cs 34 literals.Str (behind_quote false) token refl refl (ap (λ x. x ∷ cs) e) string_closes
        (λ body rest are. let text : List ℕ = body ++ 34 ∷ [] in ap (λ f. reading_of f (34 ∷ text) text) (string_opens (first text) (second text)))
        (ap (λ p. is_quoted_token p.0) h ∙ is) (ap (λ p. p.0) h)
    go opens.Byte (known (e, k)) h =
        quoted_back (c ∷ cs) (98 ∷ 39 ∷ []) (skip cs) 39 literals.Byte quoted_char token refl refl (second_is c 38 98 cs e k) char_closes (λ body rest are. refl) (ap (λ p. is_quoted_token p.0) h ∙ is) (ap (λ p. p.0) h)
    go opens.ByteStr (known (e, k)) h =
        quoted_back (c ∷ cs) (98 ∷ 34 ∷ []) (skip cs) 34 literals.ByteStr (behind_quote false) token refl refl (second_is c 33 98 cs e k) string_closes (λ body rest are. refl) (ap (λ p. is_quoted_token p.0) h ∙ is) (ap (λ p. p.0) h)
    go opens.CStr (known (e, k)) h =
        quoted_back (c ∷ cs) (99 ∷ 34 ∷ []) (skip cs) 34 literals.CStr (behind_quote false) token refl refl (second_is c 33 99 cs e k) string_closes (λ body rest are. refl) (ap (λ p. is_quoted_token p.0) h ∙ is) (ap (λ p. p.0) h)
    go opens.RawStr (known e) h =
        raw_back (c ∷ cs) (114 ∷ []) cs literals.RawStr token (λ n. refl) (λ n. refl) (ap (λ x. x ∷ cs) e)
        (λ n t. let text : List ℕ = replicate n 35 ++ 34 ∷ t in ap (λ f. reading_of f (114 ∷ text) text) (raw_opens n t))
        (ap (λ p. is_quoted_token p.0) h ∙ is) (ap (λ p. p.0) h)
    go opens.RawByteStr (known (e, k)) h =
        raw_back (c ∷ cs) (98 ∷ 114 ∷ []) (skip cs) literals.RawByteStr token (λ n. refl) (λ n. refl) (second_is c 113 98 cs e k)
        (λ n t. let text : List ℕ = replicate n 35 ++ 34 ∷ t in ap (λ f. reading_of f (98 ∷ 114 ∷ text) (114 ∷ text)) (raw_byte_opens n t))
        (ap (λ p. is_quoted_token p.0) h ∙ is) (ap (λ p. p.0) h)
    go opens.RawCStr (known (e, k)) h =
        raw_back (c ∷ cs) (99 ∷ 114 ∷ []) (skip cs) literals.RawCStr token (λ n. refl) (λ n. refl) (second_is c 113 99 cs e k)
        (λ n t. let text : List ℕ = replicate n 35 ++ 34 ∷ t in ap (λ f. reading_of f (99 ∷ 114 ∷ text) (114 ∷ text)) (raw_c_opens n t))
        (ap (λ p. is_quoted_token p.0) h ∙ is) (ap (λ p. p.0) h)
    go opens.Apostrophe (known e) h =
        subst (λ x. reading (x ∷ cs) ≡ (token, []) → apostrophe (x ∷ cs) cs ≡ (token, []) → QuotedAs token (x ∷ cs)) (sym e) (λ r k. apostrophe_back cs token r k is) read h
    go opens.Number _ h = absurd (none _ (number_plain _ (number_ends c cs).0) h)
    go opens.Symbol _ h = absurd (none _ (not_true _ (symbol_passes (λ n k. not (is_quoted_token k)) refl c refl)) h)
    go opens.Word _ h = absurd (none _ (word_kind (λ k. is_quoted_token k ≡ false) refl refl refl cs) h)
    go family _ h = absurd (none _ refl h)
