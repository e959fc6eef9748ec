-- A text between quotes has nothing wrong exactly if it is characters and escapes that the literal may hold.
use Rattle.std.proofs.Common.{◌≡◌, ◌≢◌, ℕ, zero, suc, ◌+◌, ◌*◌, ◌<◌, ◌≤◌, Bool, true, false, ◌&&◌, ◌||◌, not, ◌==◌, cond, nat_le, List, [], ◌∷◌, ◌++◌, length, Option, None, Some, refl, sym, ap, subst, ◌∙◌, ⊎_elim, inl, inr, arith, append_assoc}
use Rattle.std.proofs.lemmas.Bool.{and_parts, and_right, cases_Bool, cases_eq, cases_lt, eq-eqb, eqb-true, false≢true, lt-leb, lt-ltb, ne_eqb, or_left}
use Rattle.std.proofs.lemmas.Str.{encodes-chars}
use Rattle.std.proofs.Math.Utf8.{encodes}
use Rattle.std.specs.List.{AllByRecursion}
use Rattle.std.specs.Prelude.{◌⊎◌, IsUtf8, nat_lt, unwrap_or}
use Rattle.std.specs.Str.{chars}
use Rattle.syntax_lex.specs.declared.token.LiteralKind.{LiteralKind}
use Rattle.syntax_parse.specs.Escapes.{behind_one, count_fault, counted, escape_step, fault_behind, hex_digit, hex_first, hex_second, is_escape, is_scalar, is_single, step, takes_high, takes_null, takes_unicode, unicode_end, unicode_first, unicode_more, unicode_open, wants_escape, with_digit}
use Rattle.syntax_parse.proofs.TableText.{AreUnits, nothing, more, IsDigit, IsDigitOrLine, IsLiteralText, IsUnicode, IsUnit, character, simple, null, byte, unicode, line_end, MayHold, StandsForItself, digits_in, number_behind, number_in}
use Rattle.syntax_parse.specs.declared.escapes.Reached.{Reached}
use Rattle.syntax_parse.specs.declared.escapes.Reached.TheVariants.{Plain, Backslash, Hex, HexDigit, Unicode, UnicodeOpen, UnicodeDigits, Wrong}
use Rattle.syntax_parse.specs.declared.fault.BadToken.{BadToken}
use Rattle.syntax_parse.specs.declared.fault.BadToken.TheVariants as bad
use Rattle.syntax_parse.proofs.LiteralBytes.{at_ascii, at_wide, low_within, no_wrong, wide_escape, wide_hex, wide_mark}
use Rattle.syntax_parse.proofs.UnitFacts.{Alike, Unit as Front, alike_behind, alike_held, alike_scalar, behind_x, capped_behind, digits_none, null_none, plain_none}

-- a digit is no `_`
digit_no_line : (c value : ℕ) → IsDigit c value → c ≢ 95
digit_no_line c value is e = let absent : None ≡ Some value = sym (ap hex_digit e) ∙ is in cc

kept : (c value : ℕ) (body : List ℕ) → IsDigit c value → digits_in (c ∷ body) ≡ c ∷ digits_in body
kept c value body is = ap (λ t. cond t (digits_in body) (c ∷ digits_in body)) (ne_eqb c 95 (digit_no_line c value is))

-- the number of digits whose first is known
pub number_is : (c value : ℕ) (body : List ℕ) → IsDigit c value → number_in (c ∷ body) ≡ number_behind value (digits_in body)
number_is c value body is =
    let from_none : 0 * 16 + value ≡ value = omega arith in
    ap (number_behind 0) (kept c value body is) ∙ ap (λ o. number_behind (0 * 16 + unwrap_or o 0) (digits_in body)) is ∙ ap (λ n. number_behind n (digits_in body)) from_none

first_digit : (kind : LiteralKind) (found : Option ℕ) (count : ℕ) (bytes : List ℕ) → fault_behind kind (unicode_first found) count bytes ≡ None
    → (value : ℕ) × (found ≡ Some value) × (fault_behind kind (UnicodeDigits 1 value) count bytes ≡ None)
first_digit kind None count bytes none = absurd (no_wrong kind bad.BadUnicodeEscape count bytes (unicode_first None) refl none)
first_digit kind (Some value) count bytes none = (value, refl, none)

behind_open : (kind : LiteralKind) (count : ℕ) (cs : List ℕ) → takes_unicode kind ≡ true → fault_behind kind UnicodeOpen count (encodes cs) ≡ None
    → Front kind count (92 ∷ 117 ∷ 123 ∷ cs)
behind_open kind count [] takes none = cc
behind_open kind count (c ∷ cs) takes none =
    let low = low_within kind UnicodeOpen count c cs tt none in
    let f = first_digit kind (hex_digit c) count (encodes cs) (sym (at_ascii kind UnicodeOpen count c cs low) ∙ none) in
    let d = digits_none kind 1 f.0 count cs (omega arith) f.2 in
    let alike = alike_behind f.0 f.0 (digits_in d.body) (inl refl) in
    let number = number_is c f.0 d.body f.1 in
    record {
      unit = 92 ∷ 117 ∷ 123 ∷ ((c ∷ d.body) ++ 125 ∷ []);
      rest = d.rest;
      split = ap (λ t. 92 ∷ 117 ∷ 123 ∷ c ∷ t) (d.split ∙ sym (append_assoc d.body (125 ∷ []) d.rest));
      is = unicode takes (record {
        first = c;
        value = f.0;
        rest = d.body;
        begins = refl;
        digit = f.1;
        digits = d.each;
        few = omega (arith, d.few, ap length (kept c f.0 d.body f.1));
        scalar = ap is_scalar number ∙ sym (alike_scalar (capped_behind f.0 (digits_in d.body)) (number_behind f.0 (digits_in d.body)) alike) ∙ d.scalar;
        held = subst (MayHold kind) (sym number) (alike_held kind (capped_behind f.0 (digits_in d.body)) (number_behind f.0 (digits_in d.body)) alike d.held);
      });
      none = d.none;
      shorter = omega (arith, d.shorter);
    }

behind_u : (kind : LiteralKind) (count : ℕ) (cs : List ℕ) → takes_unicode kind ≡ true → fault_behind kind Unicode count (encodes cs) ≡ None
    → Front kind count (92 ∷ 117 ∷ cs)
behind_u kind count [] takes none = cc
behind_u kind count (c ∷ cs) takes none =
    let low = low_within kind Unicode count c cs tt none in
    let stepped : fault_behind kind (unicode_open c) count (encodes cs) ≡ None = sym (at_ascii kind Unicode count c cs low) ∙ none in
    ⊎_elim
    (λ brace.
    let f = behind_open kind count cs takes (sym (ap (λ t. fault_behind kind (cond t UnicodeOpen (Wrong bad.BadUnicodeEscape)) count (encodes cs)) (eq-eqb c 123 brace)) ∙ stepped) in
    subst (λ x. Front kind count (92 ∷ 117 ∷ x ∷ cs)) (sym brace) f)
    (λ other. absurd (no_wrong kind bad.BadUnicodeEscape count (encodes cs) (unicode_open c) (ap (λ t. cond t UnicodeOpen (Wrong bad.BadUnicodeEscape)) (ne_eqb c 123 other)) stepped))
    (cases_eq c 123)

-- the state after a backslash and one character, by the kind of the character
abbrev after : (kind : LiteralKind) (c : ℕ) → (is_simple is_zero is_x is_u ends : Bool) → Reached
after kind c is_simple is_zero is_x is_u ends =
    cond is_simple Plain (cond is_zero (behind_one kind true) (cond is_x Hex (cond is_u Unicode (cond ends Plain (Wrong bad.UnknownEscape)))))

two_bytes : (kind : LiteralKind) (count c : ℕ) (cs : List ℕ) → IsUnit kind (92 ∷ c ∷ []) → fault_behind kind Plain count (encodes cs) ≡ None → Front kind count (92 ∷ c ∷ cs)
two_bytes kind count c cs is none = record { unit = 92 ∷ c ∷ []; rest = cs; split = refl; is = is; none = none; shorter = omega arith }

ends_line : (c : ℕ) → ((c == 10) || (c == 13)) ≡ true → (c ≡ 10) ⊎ (c ≡ 13)
ends_line c e = ⊎_elim (λ feed. inl feed) (λ other. ⊎_elim (λ return. inr return) (λ neither. let no : ((c == 10) || (c == 13)) ≡ false = rw (ne_eqb c 10 other, ne_eqb c 13 neither) refl in absurd (false≢true (sym no ∙ e))) (cases_eq c 13)) (cases_eq c 10)

escape_front : (kind : LiteralKind) (count c : ℕ) (cs : List ℕ) → fault_behind kind (escape_step kind c) count (encodes cs) ≡ None → Front kind count (92 ∷ c ∷ cs)
escape_front kind count c cs none =
    let u = (c == 117) && takes_unicode kind in
    let l = ((c == 10) || (c == 13)) && not (is_single kind) in
    let at : Reached → Option BadToken = λ r. fault_behind kind r count (encodes cs) in
    ⊎_elim
    (λ s. two_bytes kind count c cs (simple s) (sym (ap (λ t. at (after kind c t (c == 48) (c == 120) u l)) s) ∙ none))
    (λ no_s.
    ⊎_elim
    (λ z.
    let n = null_none kind true count (encodes cs) (sym (ap at (ap (λ t. after kind c t (c == 48) (c == 120) u l) no_s ∙ ap (λ t. after kind c false t (c == 120) u l) (eq-eqb c 48 z))) ∙ none) in
    let may : MayHold kind 0 = ⊎_elim (λ takes. inl takes) (λ never. absurd (false≢true (sym never))) n.0 in
    subst (λ x. Front kind count (92 ∷ x ∷ cs)) (sym z) (two_bytes kind count 48 cs (null may) n.1))
    (λ no_z.
    let past : escape_step kind c ≡ after kind c false false (c == 120) u l = ap (λ t. after kind c t (c == 48) (c == 120) u l) no_s ∙ ap (λ t. after kind c false t (c == 120) u l) (ne_eqb c 48 no_z) in
    ⊎_elim
    (λ x.
    subst (λ y. Front kind count (92 ∷ y ∷ cs)) (sym x) (behind_x kind count cs (sym (ap at (past ∙ ap (λ t. after kind c false false t u l) (eq-eqb c 120 x))) ∙ none)))
    (λ no_x.
    let farther : escape_step kind c ≡ after kind c false false false u l = past ∙ ap (λ t. after kind c false false t u l) (ne_eqb c 120 no_x) in
    ⊎_elim
    (λ yes_u.
    let parts = and_parts (c == 117) (takes_unicode kind) yes_u in
    subst (λ y. Front kind count (92 ∷ y ∷ cs)) (sym (eqb-true c 117 parts.0)) (behind_u kind count cs parts.1 (sym (ap at (farther ∙ ap (λ t. after kind c false false false t l) yes_u)) ∙ none)))
    (λ no_u.
    ⊎_elim
    (λ yes_l.
    let parts = and_parts ((c == 10) || (c == 13)) (not (is_single kind)) yes_l in
    two_bytes kind count c cs (line_end (not_true (is_single kind) parts.1) (ends_line c parts.0)) (sym (ap at (farther ∙ ap (λ t. after kind c false false false t l) no_u ∙ ap (λ t. after kind c false false false false t) yes_l)) ∙ none))
    (λ no_l.
    absurd (no_wrong kind bad.UnknownEscape count (encodes cs) (escape_step kind c) (farther ∙ ap (λ t. after kind c false false false t l) no_u ∙ ap (λ t. after kind c false false false false t) no_l) none))
    (cases_Bool l))
    (cases_Bool u))
    (cases_eq c 120))
    (cases_eq c 48))
    (cases_Bool (is_escape c))
  where
    not_true : (x : Bool) → not x ≡ true → x ≡ false
    not_true true e = cc
    not_true false e = refl

behind_backslash : (kind : LiteralKind) (count : ℕ) (cs : List ℕ) → fault_behind kind Backslash count (encodes cs) ≡ None → Front kind count (92 ∷ cs)
behind_backslash kind count [] none = cc
behind_backslash kind count (c ∷ cs) none =
    let low = low_within kind Backslash count c cs tt none in
    escape_front kind count c cs (sym (at_ascii kind Backslash count c cs low) ∙ none)

-- one character in front
character_front : (kind : LiteralKind) (count c : ℕ) (cs : List ℕ) → c ≢ 92 → fault_behind kind Plain count (encodes (c ∷ cs)) ≡ None → Front kind (counted true count) (c ∷ cs)
character_front kind count c cs other none =
    ⊎_elim
    (λ low.
    let one : nat_lt c 128 ≡ true = lt-ltb c 128 low in
    let begun : fault_behind kind (step kind Plain c) (counted true count) (encodes cs) ≡ None =
    sym (ap (λ t. fault_behind kind (step kind Plain c) (counted t count) (encodes cs)) (or_left (nat_lt c 128) (nat_le 192 c) one)) ∙ sym (at_ascii kind Plain count c cs low) ∙ none in
    let p = plain_none kind c (counted true count) (encodes cs) other begun in
    record { unit = c ∷ []; rest = cs; split = refl; is = character p.0; none = p.1; shorter = omega arith })
    (λ wide.
    record {
      unit = c ∷ [];
      rest = cs;
      split = refl;
      is = character (record { no_backslash = other; no_mark = inr (wide_mark c wide); held = inr (λ e. omega (arith, wide, e)) });
      none = sym (at_wide kind count c cs wide) ∙ none;
      shorter = omega arith;
    })
    (cases_lt c 128)

front_of : (kind : LiteralKind) (count c : ℕ) (cs : List ℕ) → fault_behind kind Plain count (encodes (c ∷ cs)) ≡ None → Front kind (counted true count) (c ∷ cs)
front_of kind count c cs none =
    ⊎_elim
    (λ slash.
    let begun : fault_behind kind Plain count (encodes (92 ∷ cs)) ≡ None = subst (λ x. fault_behind kind Plain count (encodes (x ∷ cs)) ≡ None) slash none in
    subst (λ x. Front kind (counted true count) (x ∷ cs)) (sym slash) (behind_backslash kind (counted true count) cs (sym (at_ascii kind Plain count 92 cs (omega arith)) ∙ begun)))
    (λ other. character_front kind count c cs other none)
    (cases_eq c 92)

-- the number of characters, counted up to two
abbrev plus : (count units : ℕ) → ℕ
plus count zero = count
plus count (suc units) = plus (counted true count) units

sound : (kind : LiteralKind) (fuel : ℕ) (cs : List ℕ) (count : ℕ) → length cs ≤ fuel → fault_behind kind Plain count (encodes cs) ≡ None
    → (units : ℕ) × AreUnits kind units cs × (count_fault kind (plus count units) ≡ None)
sound kind fuel [] count few none = (0, nothing, none)
sound kind zero (c ∷ cs) count few none = absurd (omega (arith, few))
sound kind (suc fuel) (c ∷ cs) count few none =
    let f = front_of kind count c cs none in
    let s = sound kind fuel f.rest (counted true count) (omega (arith, few, f.shorter)) f.none in
    (suc s.0, subst (AreUnits kind (suc s.0)) (sym f.split) (more f.is s.1), s.2)

low_digit : (c value : ℕ) → IsDigit c value → c < 128
low_digit c value is = ⊎_elim (λ low. low) (λ wide. let absent : None ≡ Some value = sym (wide_hex c wide) ∙ is in cc) (cases_lt c 128)

low_escape : (c : ℕ) → is_escape c ≡ true → c < 128
low_escape c is = ⊎_elim (λ low. low) (λ wide. absurd (false≢true (sym (wide_escape c wide) ∙ is))) (cases_lt c 128)

-- the state after the backslash that begins an escape
slashed : (kind : LiteralKind) (count c : ℕ) (cs : List ℕ) → c < 128
    → fault_behind kind Plain count (encodes (92 ∷ c ∷ cs)) ≡ fault_behind kind (escape_step kind c) (counted true count) (encodes cs)
slashed kind count c cs low = at_ascii kind Plain count 92 (c ∷ cs) (omega arith) ∙ at_ascii kind Backslash (counted true count) c cs low

null_fits : (kind : LiteralKind) (zeroed : Bool) → (takes_null kind ≡ true) ⊎ (zeroed ≡ false) → behind_one kind zeroed ≡ Plain
null_fits kind true (inl takes) = ap (λ t. cond (not t) (Wrong bad.NullInCStr) Plain) takes
null_fits kind false (inl takes) = refl
null_fits kind zeroed (inr none) = ap (behind_one kind) none

zero_or : (kind : LiteralKind) (number : ℕ) → MayHold kind number → (takes_null kind ≡ true) ⊎ ((number == 0) ≡ false)
zero_or kind number (inl takes) = inl takes
zero_or kind number (inr some) = inr (ne_eqb number 0 some)

-- a character that means itself is read
plain_fits : (kind : LiteralKind) (c : ℕ) → StandsForItself kind c → step kind Plain c ≡ Plain
plain_fits kind c it =
    let unmarked : (is_single kind && wants_escape c) ≡ false = ⊎_elim (λ many. ap (λ t. t && wants_escape c) many) (λ no_mark. and_right (is_single kind) (wants_escape c) no_mark) it.no_mark in
    ap (λ t. cond t Backslash (cond (is_single kind && wants_escape c) (Wrong bad.WantsEscape) (behind_one kind (c == 0)))) (ne_eqb c 92 it.no_backslash)
    ∙ ap (λ t. cond t (Wrong bad.WantsEscape) (behind_one kind (c == 0))) unmarked
    ∙ null_fits kind (c == 0) (zero_or kind c it.held)

-- digits and `_`, and the brace after them, are read
digits_run : (kind : LiteralKind) (digits value count : ℕ) (body rest : List ℕ) → AllByRecursion IsDigitOrLine body → digits + length (digits_in body) ≤ 6
    → is_scalar (capped_behind value (digits_in body)) ≡ true → MayHold kind (capped_behind value (digits_in body))
    → fault_behind kind (UnicodeDigits digits value) count (encodes (body ++ 125 ∷ rest)) ≡ fault_behind kind Plain count (encodes rest)
digits_run kind digits value count [] rest each few scalar held =
    at_ascii kind (UnicodeDigits digits value) count 125 rest (omega arith)
    ∙ ap (λ t. fault_behind kind (cond t (behind_one kind (value == 0)) (Wrong bad.BadUnicodeEscape)) count (encodes rest)) scalar
    ∙ ap (λ r. fault_behind kind r count (encodes rest)) (null_fits kind (value == 0) (zero_or kind value held))
digits_run kind digits value count (c ∷ body) rest (inl line, each) few scalar held =
    let dropped : digits_in (c ∷ body) ≡ digits_in body = ap (λ t. cond t (digits_in body) (c ∷ digits_in body)) (eq-eqb c 95 line) in
    at_ascii kind (UnicodeDigits digits value) count c (body ++ 125 ∷ rest) (omega (arith, line))
    ∙ ap (λ t. fault_behind kind (cond t (UnicodeDigits digits value) (cond (c == 125) (unicode_end kind value) (unicode_more digits value (hex_digit c)))) count (encodes (body ++ 125 ∷ rest))) (eq-eqb c 95 line)
    ∙ digits_run kind digits value count body rest each (omega (arith, few, ap length dropped)) (subst (λ d. is_scalar (capped_behind value d) ≡ true) dropped scalar) (subst (λ d. MayHold kind (capped_behind value d)) dropped held)
digits_run kind digits value count (c ∷ body) rest (inr (digit, is), each) few scalar held =
    let low = low_digit c digit is in
    let k = kept c digit body is in
    let same : capped_behind value (digits_in (c ∷ body)) ≡ capped_behind (with_digit value digit) (digits_in body) =
    ap (capped_behind value) k ∙ ap (λ o. capped_behind (with_digit value (unwrap_or o 0)) (digits_in body)) is in
    let no_brace : c ≢ 125 = λ e. let absent : None ≡ Some digit = sym (ap hex_digit e) ∙ is in cc in
    let room : digits < 6 = omega (arith, few, ap length k) in
    at_ascii kind (UnicodeDigits digits value) count c (body ++ 125 ∷ rest) low
    ∙ ap (λ t. fault_behind kind (cond t (UnicodeDigits digits value) (cond (c == 125) (unicode_end kind value) (unicode_more digits value (hex_digit c)))) count (encodes (body ++ 125 ∷ rest))) (ne_eqb c 95 (digit_no_line c digit is))
    ∙ ap (λ t. fault_behind kind (cond t (unicode_end kind value) (unicode_more digits value (hex_digit c))) count (encodes (body ++ 125 ∷ rest))) (ne_eqb c 125 no_brace)
    ∙ ap (λ o. fault_behind kind (unicode_more digits value o) count (encodes (body ++ 125 ∷ rest))) is
    ∙ ap (λ t. fault_behind kind (cond t (UnicodeDigits (digits + 1) (with_digit value digit)) (Wrong bad.BadUnicodeEscape)) count (encodes (body ++ 125 ∷ rest))) (lt-ltb digits 6 room)
    ∙ digits_run kind (digits + 1) (with_digit value digit) count body rest each (omega (arith, few, ap length k)) (sym (ap is_scalar same) ∙ scalar) (subst (MayHold kind) same held)

turned : (a b : ℕ) → Alike a b → Alike b a
turned a b (inl e) = inl (sym e)
turned a b (inr (big, other)) = inr (other, big)

-- `\u{..}` is read, after its `u`
unicode_run : (kind : LiteralKind) (count : ℕ) (text rest : List ℕ) → IsUnicode kind text
    → fault_behind kind Unicode count (encodes (123 ∷ ((text ++ 125 ∷ []) ++ rest))) ≡ fault_behind kind Plain count (encodes rest)
unicode_run kind count text rest it =
    let body = it.rest in
    let digits = digits_in body in
    let alike = alike_behind it.value it.value digits (inl refl) in
    let same : (text ++ 125 ∷ []) ++ rest ≡ it.first ∷ (body ++ 125 ∷ rest) = ap (λ t. (t ++ 125 ∷ []) ++ rest) it.begins ∙ ap (λ t. it.first ∷ t) (append_assoc body (125 ∷ []) rest) in
    let number : number_in text ≡ number_behind it.value digits = ap number_in it.begins ∙ number_is it.first it.value body it.digit in
    let k : length (digits_in text) ≡ suc (length digits) = ap (λ t. length (digits_in t)) it.begins ∙ ap length (kept it.first it.value body it.digit) in
    at_ascii kind Unicode count 123 ((text ++ 125 ∷ []) ++ rest) (omega arith)
    ∙ ap (λ t. fault_behind kind UnicodeOpen count (encodes t)) same
    ∙ at_ascii kind UnicodeOpen count it.first (body ++ 125 ∷ rest) (low_digit it.first it.value it.digit)
    ∙ ap (λ o. fault_behind kind (unicode_first o) count (encodes (body ++ 125 ∷ rest))) it.digit
    ∙ digits_run kind 1 it.value count body rest it.digits (omega (arith, it.few, k))
    (alike_scalar (capped_behind it.value digits) (number_behind it.value digits) alike ∙ sym (ap is_scalar number) ∙ it.scalar)
    (alike_held kind (number_behind it.value digits) (capped_behind it.value digits) (turned (capped_behind it.value digits) (number_behind it.value digits) alike) (subst (MayHold kind) number it.held))

line_run : (kind : LiteralKind) (count c : ℕ) (rest : List ℕ) → is_single kind ≡ false → (c ≡ 10) ⊎ (c ≡ 13)
    → fault_behind kind Plain count (encodes (92 ∷ c ∷ rest)) ≡ fault_behind kind Plain (counted true count) (encodes rest)
line_run kind count c rest many (inl e) =
    slashed kind count c rest (omega (arith, e)) ∙ ap (λ x. fault_behind kind (escape_step kind x) (counted true count) (encodes rest)) e
    ∙ ap (λ t. fault_behind kind (cond (not t) Plain (Wrong bad.UnknownEscape)) (counted true count) (encodes rest)) many
line_run kind count c rest many (inr e) =
    slashed kind count c rest (omega (arith, e)) ∙ ap (λ x. fault_behind kind (escape_step kind x) (counted true count) (encodes rest)) e
    ∙ ap (λ t. fault_behind kind (cond (not t) Plain (Wrong bad.UnknownEscape)) (counted true count) (encodes rest)) many

-- one unit is read, and counts as one
unit_run : (kind : LiteralKind) (count : ℕ) (unit rest : List ℕ) → IsUnit kind unit → fault_behind kind Plain count (encodes (unit ++ rest)) ≡ fault_behind kind Plain (counted true count) (encodes rest)
unit_run kind count _ rest (character {c = c} it) =
    ⊎_elim
    (λ low.
    at_ascii kind Plain count c rest low
    ∙ ap (λ t. fault_behind kind (step kind Plain c) (counted t count) (encodes rest)) (or_left (nat_lt c 128) (nat_le 192 c) (lt-ltb c 128 low))
    ∙ ap (λ r. fault_behind kind r (counted true count) (encodes rest)) (plain_fits kind c it))
    (λ wide. at_wide kind count c rest wide)
    (cases_lt c 128)
unit_run kind count _ rest (simple {c = c} is) =
    slashed kind count c rest (low_escape c is)
    ∙ ap (λ t. fault_behind kind (after kind c t (c == 48) (c == 120) ((c == 117) && takes_unicode kind) (((c == 10) || (c == 13)) && not (is_single kind))) (counted true count) (encodes rest)) is
unit_run kind count _ rest (null may) =
    let fits : (takes_null kind ≡ true) ⊎ (true ≡ false) = ⊎_elim (λ takes. inl takes) (λ never. absurd (never refl)) may in
    slashed kind count 48 rest (omega arith) ∙ ap (λ r. fault_behind kind r (counted true count) (encodes rest)) (null_fits kind true fits)
unit_run kind count _ rest (byte {a = c} {b = d} {high = high} {low = low} first second fits may) =
    let m = counted true count in
    let few : (nat_le 8 high && not (takes_high kind)) ≡ false = ⊎_elim (λ takes. and_right (nat_le 8 high) (not (takes_high kind)) (ap not takes)) (λ small. ap (λ t. t && not (takes_high kind)) (lt-leb 8 high small)) fits in
    let zeroed : (takes_null kind ≡ true) ⊎ (((high == 0) && (low == 0)) ≡ false) = ⊎_elim (λ takes. inl takes) (λ some. inr (some_digit high low some)) may in
    slashed kind count 120 (c ∷ d ∷ rest) (omega arith)
    ∙ at_ascii kind Hex m c (d ∷ rest) (low_digit c high first)
    ∙ ap (λ o. fault_behind kind (hex_first o) m (encodes (d ∷ rest))) first
    ∙ at_ascii kind (HexDigit high) m d rest (low_digit d low second)
    ∙ ap (λ o. fault_behind kind (hex_second kind high o) m (encodes rest)) second
    ∙ ap (λ t. fault_behind kind (cond t (Wrong bad.HexEscapeTooLarge) (behind_one kind ((high == 0) && (low == 0)))) m (encodes rest)) few
    ∙ ap (λ r. fault_behind kind r m (encodes rest)) (null_fits kind ((high == 0) && (low == 0)) zeroed)
  where
    some_digit : (high low : ℕ) → high * 16 + low ≢ 0 → ((high == 0) && (low == 0)) ≡ false
    some_digit high low some =
        ⊎_elim (λ h. and_right (high == 0) (low == 0) (ne_eqb low 0 (λ l. some (omega (arith, h, l))))) (λ h. ap (λ t. t && (low == 0)) (ne_eqb high 0 h)) (cases_eq high 0)
unit_run kind count _ rest (unicode {text = text} takes it) =
    slashed kind count 117 (123 ∷ ((text ++ 125 ∷ []) ++ rest)) (omega arith)
    ∙ ap (λ t. fault_behind kind (cond t Unicode (Wrong bad.UnknownEscape)) (counted true count) (encodes (123 ∷ ((text ++ 125 ∷ []) ++ rest)))) takes
    ∙ unicode_run kind (counted true count) text rest it
unit_run kind count _ rest (line_end {c = c} many ends) = line_run kind count c rest many ends

complete : (kind : LiteralKind) (units count : ℕ) (cs : List ℕ) → AreUnits kind units cs → fault_behind kind Plain count (encodes cs) ≡ count_fault kind (plus count units)
complete kind _ count _ nothing = refl
complete kind _ count _ (more {unit = unit} {rest = rest} {count = units} is others) = unit_run kind count unit rest is ∙ complete kind units (counted true count) rest others

stays_two : (units : ℕ) → plus 2 units ≡ 2
stays_two zero = refl
stays_two (suc units) = stays_two units

-- one character if the literal holds one
one_unit : (kind : LiteralKind) (units : ℕ) → count_fault kind (plus 0 units) ≡ None → (is_single kind ≡ false) ⊎ (units ≡ 1)
one_unit kind units fine = ⊎_elim (λ single. inr (counts units (sym (ap (λ t. fault_if t (plus 0 units)) single) ∙ fine))) (λ many. inl many) (cases_Bool (is_single kind))
  where
    fault_if : (single : Bool) (count : ℕ) → Option BadToken
    fault_if single count = cond single (cond (count == 0) (Some bad.EmptyChar) (cond (count == 1) None (Some bad.SeveralChars))) None

    counts : (units : ℕ) → fault_if true (plus 0 units) ≡ None → units ≡ 1
    counts zero e = cc
    counts (suc zero) e = refl
    counts (suc (suc units)) e = let two : fault_if true (plus 0 (suc (suc units))) ≡ Some bad.SeveralChars = ap (fault_if true) (stays_two units) in let wrong : Some bad.SeveralChars ≡ None = sym two ∙ e in cc

unit_one : (kind : LiteralKind) (units : ℕ) → (is_single kind ≡ false) ⊎ (units ≡ 1) → count_fault kind (plus 0 units) ≡ None
unit_one kind units (inl many) = ap (λ t. cond t (cond (plus 0 units == 0) (Some bad.EmptyChar) (cond (plus 0 units == 1) None (Some bad.SeveralChars))) None) many
unit_one kind units (inr one) = ap (λ n. count_fault kind (plus 0 n)) one ∙ by_kind (is_single kind)
  where
    by_kind : (single : Bool) → cond single (cond (1 == 0) (Some bad.EmptyChar) (cond (1 == 1) None (Some bad.SeveralChars))) None ≡ None
    by_kind true = refl
    by_kind false = refl

pub table_text : (kind : LiteralKind) (text : List ℕ) → IsUtf8 text → (fault_behind kind Plain 0 text ≡ None → IsLiteralText kind text) × (IsLiteralText kind text → fault_behind kind Plain 0 text ≡ None)
table_text kind text utf8 =
    let spelled = encodes-chars text utf8 in (
      (λ none.
          let s = sound kind (length (chars text)) (chars text) 0 (omega arith) (ap (fault_behind kind Plain 0) spelled ∙ none) in
          record { count = s.0; units = s.1; one = one_unit kind s.0 s.2 }),
      (λ it. sym (ap (fault_behind kind Plain 0) spelled) ∙ complete kind it.count 0 (chars text) it.units ∙ unit_one kind it.count it.one),
    )
