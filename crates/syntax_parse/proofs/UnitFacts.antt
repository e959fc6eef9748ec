-- A text between quotes with nothing wrong is characters and escapes, one after another.
use Rattle.std.proofs.Common.{◌≡◌, ◌≢◌, ℕ, ◌+◌, ◌*◌, ◌<◌, ◌≤◌, Bool, true, false, ◌&&◌, not, ◌==◌, cond, nat_le, List, [], ◌∷◌, ◌++◌, length, Option, None, Some, refl, sym, ap, subst, ◌∙◌, ⊎_elim, inl, inr, arith}
use Rattle.std.proofs.lemmas.Bool.{and_cases, and_right, cases_Bool, cases_eq, eq-eqb, eqb-false, le-ltb, leb-false, ltb-false, ltb-true, ne_eqb, or_from}
use Rattle.std.proofs.Math.Utf8.{encodes}
use Rattle.std.specs.List.{AllByRecursion}
use Rattle.std.specs.Prelude.{◌⊎◌, nat_lt, unwrap_or}
use Rattle.syntax_lex.specs.declared.token.LiteralKind.{LiteralKind}
use Rattle.syntax_parse.specs.Escapes.{behind_one, fault_behind, hex_digit, hex_first, hex_second, is_scalar, is_single, step, takes_high, takes_null, unicode_end, unicode_more, unicode_step, wants_escape, with_digit}
use Rattle.syntax_parse.proofs.TableText.{IsDigit, IsDigitOrLine, IsUnit, byte, MayHold, StandsForItself, digits_in, number_behind}
use Rattle.syntax_parse.specs.declared.escapes.Reached.TheVariants.{Plain, Backslash, Hex, HexDigit, UnicodeDigits, Wrong}
use Rattle.syntax_parse.specs.declared.fault.BadToken.TheVariants as bad
use Rattle.syntax_parse.proofs.LiteralBytes.{at_ascii, low_within, no_wrong}

not_false : (x : Bool) → not x ≡ false → x ≡ true
not_false true e = refl
not_false false e = cc

-- a null is there only if the literal takes one
pub null_none : (kind : LiteralKind) (zeroed : Bool) (count : ℕ) (bytes : List ℕ) → fault_behind kind (behind_one kind zeroed) count bytes ≡ None
    → ((takes_null kind ≡ true) ⊎ (zeroed ≡ false)) × (fault_behind kind Plain count bytes ≡ None)
null_none kind zeroed count bytes none =
    ⊎_elim
    (λ refused. absurd (no_wrong kind bad.NullInCStr count bytes (behind_one kind zeroed) (ap (λ t. cond t (Wrong bad.NullInCStr) Plain) refused) none))
    (λ fine. (
      ⊎_elim (λ no_null. inr no_null) (λ takes. inl (not_false (takes_null kind) takes)) (and_cases zeroed (not (takes_null kind)) fine),
      sym (ap (λ t. fault_behind kind (cond t (Wrong bad.NullInCStr) Plain) count bytes) fine) ∙ none,
    ))
    (cases_Bool (zeroed && not (takes_null kind)))

held_if : (kind : LiteralKind) (number : ℕ) → ((takes_null kind ≡ true) ⊎ ((number == 0) ≡ false)) → MayHold kind number
held_if kind number either = ⊎_elim (λ takes. inl takes) (λ other. inr (λ e. eqb-false number 0 other e)) either

-- a character that means itself
pub plain_none : (kind : LiteralKind) (c count : ℕ) (bytes : List ℕ) → c ≢ 92 → fault_behind kind (step kind Plain c) count bytes ≡ None
    → StandsForItself kind c × (fault_behind kind Plain count bytes ≡ None)
plain_none kind c count bytes other none =
    let unslashed : step kind Plain c ≡ cond (is_single kind && wants_escape c) (Wrong bad.WantsEscape) (behind_one kind (c == 0)) =
    ap (λ t. cond t Backslash (cond (is_single kind && wants_escape c) (Wrong bad.WantsEscape) (behind_one kind (c == 0)))) (ne_eqb c 92 other) in
    ⊎_elim
    (λ marked. absurd (no_wrong kind bad.WantsEscape count bytes (step kind Plain c) (unslashed ∙ ap (λ t. cond t (Wrong bad.WantsEscape) (behind_one kind (c == 0))) marked) none))
    (λ fine.
    let rest = null_none kind (c == 0) count bytes (sym (ap (λ r. fault_behind kind r count bytes) (unslashed ∙ ap (λ t. cond t (Wrong bad.WantsEscape) (behind_one kind (c == 0))) fine)) ∙ none) in
    (record { no_backslash = other; no_mark = and_cases (is_single kind) (wants_escape c) fine; held = held_if kind c rest.0 }, rest.1))
    (cases_Bool (is_single kind && wants_escape c))

-- after `\x`: one digit, and another
hex_one : (kind : LiteralKind) (found : Option ℕ) (count : ℕ) (bytes : List ℕ) → fault_behind kind (hex_first found) count bytes ≡ None
    → (high : ℕ) × (found ≡ Some high) × (fault_behind kind (HexDigit high) count bytes ≡ None)
hex_one kind None count bytes none = absurd (no_wrong kind bad.BadHexEscape count bytes (hex_first None) refl none)
hex_one kind (Some high) count bytes none = (high, refl, none)

record Second (kind : LiteralKind) (high : ℕ) (found : Option ℕ) (count : ℕ) (bytes : List ℕ) : Type 0 where
  low : ℕ
  is : found ≡ Some low
  fits : (takes_high kind ≡ true) ⊎ (high < 8)
  held : MayHold kind (high * 16 + low)
  none : fault_behind kind Plain count bytes ≡ None

no_number : (high low : ℕ) → ((high == 0) && (low == 0)) ≡ false → high * 16 + low ≢ 0
no_number high low e is = ⊎_elim (λ h. eqb-false high 0 h (omega (arith, is))) (λ l. eqb-false low 0 l (omega (arith, is))) (and_cases (high == 0) (low == 0) e)

hex_two : (kind : LiteralKind) (high : ℕ) (found : Option ℕ) (count : ℕ) (bytes : List ℕ) → fault_behind kind (hex_second kind high found) count bytes ≡ None
    → Second kind high found count bytes
hex_two kind high None count bytes none = absurd (no_wrong kind bad.BadHexEscape count bytes (hex_second kind high None) refl none)
hex_two kind high (Some low) count bytes none =
    ⊎_elim
    (λ large. absurd (no_wrong kind bad.HexEscapeTooLarge count bytes (hex_second kind high (Some low)) (ap (λ t. cond t (Wrong bad.HexEscapeTooLarge) (behind_one kind ((high == 0) && (low == 0)))) large) none))
    (λ fine.
    let rest = null_none kind ((high == 0) && (low == 0)) count bytes (sym (ap (λ t. fault_behind kind (cond t (Wrong bad.HexEscapeTooLarge) (behind_one kind ((high == 0) && (low == 0)))) count bytes) fine) ∙ none) in
    record {
      low = low;
      is = refl;
      fits = ⊎_elim (λ few. inr (leb-false 8 high few)) (λ takes. inl (not_false (takes_high kind) takes)) (and_cases (nat_le 8 high) (not (takes_high kind)) fine);
      held = ⊎_elim (λ takes. inl takes) (λ some. inr (no_number high low some)) rest.0;
      none = rest.1;
    })
    (cases_Bool (nat_le 8 high && not (takes_high kind)))

-- an escape, or a character, at the front of a text with nothing wrong
pub record Unit (kind : LiteralKind) (count : ℕ) (text : List ℕ) : Type 0 where
  pub unit : List ℕ
  pub rest : List ℕ
  pub split : text ≡ unit ++ rest
  pub is : IsUnit kind unit
  pub none : fault_behind kind Plain count (encodes rest) ≡ None
  pub shorter : length rest < length text

behind_digit : (kind : LiteralKind) (high count a : ℕ) (cs : List ℕ) → IsDigit a high → fault_behind kind (HexDigit high) count (encodes cs) ≡ None
    → Unit kind count (92 ∷ 120 ∷ a ∷ cs)
behind_digit kind high count a [] digit none = cc
behind_digit kind high count a (b ∷ cs) digit none =
    let low = low_within kind (HexDigit high) count b cs tt none in
    let s = hex_two kind high (hex_digit b) count (encodes cs) (sym (at_ascii kind (HexDigit high) count b cs low) ∙ none) in
    record { unit = 92 ∷ 120 ∷ a ∷ b ∷ []; rest = cs; split = refl; is = byte digit s.is s.fits s.held; none = s.none; shorter = omega arith }

pub behind_x : (kind : LiteralKind) (count : ℕ) (cs : List ℕ) → fault_behind kind Hex count (encodes cs) ≡ None → Unit kind count (92 ∷ 120 ∷ cs)
behind_x kind count [] none = cc
behind_x kind count (a ∷ cs) none =
    let low = low_within kind Hex count a cs tt none in
    let h = hex_one kind (hex_digit a) count (encodes cs) (sym (at_ascii kind Hex count a cs low) ∙ none) in
    behind_digit kind h.0 count a cs h.1 h.2

-- the number that digits give after another, as long as it is the number of a character
abbrev pub capped_behind : (before : ℕ) → List ℕ → ℕ
capped_behind before [] = before
capped_behind before (c ∷ cs) = capped_behind (with_digit before (unwrap_or (hex_digit c) 0)) cs

-- two numbers are equal, or both are too large for a character
abbrev pub Alike : ℕ → ℕ → Type 0
Alike a b = (a ≡ b) ⊎ ((1114112 ≤ a) × (1114112 ≤ b))

alike_digit : (a b digit : ℕ) → Alike a b → Alike (with_digit a digit) (b * 16 + digit)
alike_digit a b digit (inl e) =
    ⊎_elim
    (λ small. inl (ap (λ t. cond t (a * 16 + digit) a) small ∙ ap (λ x. x * 16 + digit) e))
    (λ large. let same : with_digit a digit ≡ a = ap (λ t. cond t (a * 16 + digit) a) large in let big : 1114112 ≤ a = ltb-false a 1114112 large in inr (omega (arith, same, big), omega (arith, e, big)))
    (cases_Bool (nat_lt a 1114112))
alike_digit a b digit (inr (big, other)) =
    let same : with_digit a digit ≡ a = ap (λ t. cond t (a * 16 + digit) a) (le-ltb a 1114112 big) in
    inr (omega (arith, same, big), omega (arith, other))

pub alike_behind : (a b : ℕ) (digits : List ℕ) → Alike a b → Alike (capped_behind a digits) (number_behind b digits)
alike_behind a b [] alike = alike
alike_behind a b (c ∷ cs) alike = alike_behind (with_digit a (unwrap_or (hex_digit c) 0)) (b * 16 + unwrap_or (hex_digit c) 0) cs (alike_digit a b (unwrap_or (hex_digit c) 0) alike)

no_scalar : (a : ℕ) → 1114112 ≤ a → is_scalar a ≡ false
no_scalar a big = or_from (nat_lt a 55296) (nat_le 57344 a && nat_lt a 1114112) (le-ltb a 55296 (omega (arith, big))) (and_right (nat_le 57344 a) (nat_lt a 1114112) (le-ltb a 1114112 big))

pub alike_scalar : (a b : ℕ) → Alike a b → is_scalar a ≡ is_scalar b
alike_scalar a b (inl e) = ap is_scalar e
alike_scalar a b (inr (big, other)) = no_scalar a big ∙ sym (no_scalar b other)

pub alike_held : (kind : LiteralKind) (a b : ℕ) → Alike a b → MayHold kind a → MayHold kind b
alike_held kind a b alike (inl takes) = inl takes
alike_held kind a b (inl e) (inr some) = inr (λ z. some (e ∙ z))
alike_held kind a b (inr (big, other)) (inr some) = inr (λ z. omega (arith, other, z))

-- the digits after the first one of `\u{..}`, and the brace after them
pub record Digits (kind : LiteralKind) (digits value count : ℕ) (text : List ℕ) : Type 0 where
  pub body : List ℕ
  pub rest : List ℕ
  pub split : text ≡ body ++ 125 ∷ rest
  pub each : AllByRecursion IsDigitOrLine body
  pub few : digits + length (digits_in body) ≤ 6
  pub scalar : is_scalar (capped_behind value (digits_in body)) ≡ true
  pub held : MayHold kind (capped_behind value (digits_in body))
  pub none : fault_behind kind Plain count (encodes rest) ≡ None
  pub shorter : length rest < length text

at_brace : (kind : LiteralKind) (digits value count : ℕ) (cs : List ℕ) → digits ≤ 6 → fault_behind kind (unicode_end kind value) count (encodes cs) ≡ None
    → Digits kind digits value count (125 ∷ cs)
at_brace kind digits value count cs few none =
    ⊎_elim
    (λ scalar.
    let rest = null_none kind (value == 0) count (encodes cs) (sym (ap (λ t. fault_behind kind (cond t (behind_one kind (value == 0)) (Wrong bad.BadUnicodeEscape)) count (encodes cs)) scalar) ∙ none) in
    record { body = []; rest = cs; split = refl; each = tt; few = omega (arith, few); scalar = scalar; held = held_if kind value rest.0; none = rest.1; shorter = omega arith })
    (λ no_char. absurd (no_wrong kind bad.BadUnicodeEscape count (encodes cs) (unicode_end kind value) (ap (λ t. cond t (behind_one kind (value == 0)) (Wrong bad.BadUnicodeEscape)) no_char) none))
    (cases_Bool (is_scalar value))

digit_more : (kind : LiteralKind) (digits value count : ℕ) (found : Option ℕ) (bytes : List ℕ) → fault_behind kind (unicode_more digits value found) count bytes ≡ None
    → (digit : ℕ) × (found ≡ Some digit) × (digits < 6) × (fault_behind kind (UnicodeDigits (digits + 1) (with_digit value digit)) count bytes ≡ None)
digit_more kind digits value count None bytes none = absurd (no_wrong kind bad.BadUnicodeEscape count bytes (unicode_more digits value None) refl none)
digit_more kind digits value count (Some digit) bytes none =
    ⊎_elim
    (λ few. (digit, refl, ltb-true digits 6 few, sym (ap (λ t. fault_behind kind (cond t (UnicodeDigits (digits + 1) (with_digit value digit)) (Wrong bad.BadUnicodeEscape)) count bytes) few) ∙ none))
    (λ many. absurd (no_wrong kind bad.BadUnicodeEscape count bytes (unicode_more digits value (Some digit)) (ap (λ t. cond t (UnicodeDigits (digits + 1) (with_digit value digit)) (Wrong bad.BadUnicodeEscape)) many) none))
    (cases_Bool (nat_lt digits 6))

-- a line, or a digit, in front of digits
line_front : (kind : LiteralKind) (digits value count : ℕ) (cs : List ℕ) → Digits kind digits value count cs → Digits kind digits value count (95 ∷ cs)
line_front kind digits value count cs d =
    record { body = 95 ∷ d.body; rest = d.rest; split = ap (λ t. 95 ∷ t) d.split; each = (inl refl, d.each); few = d.few; scalar = d.scalar; held = d.held; none = d.none; shorter = omega (arith, d.shorter) }

digit_front : (kind : LiteralKind) (digits value count c digit : ℕ) (cs : List ℕ) → c ≢ 95 → IsDigit c digit → Digits kind (digits + 1) (with_digit value digit) count cs
    → Digits kind digits value count (c ∷ cs)
digit_front kind digits value count c digit cs no_line is d =
    let kept : digits_in (c ∷ d.body) ≡ c ∷ digits_in d.body = ap (λ t. cond t (digits_in d.body) (c ∷ digits_in d.body)) (ne_eqb c 95 no_line) in
    let same : capped_behind value (digits_in (c ∷ d.body)) ≡ capped_behind (with_digit value digit) (digits_in d.body) =
    ap (capped_behind value) kept ∙ ap (λ o. capped_behind (with_digit value (unwrap_or o 0)) (digits_in d.body)) is in
    record {
      body = c ∷ d.body;
      rest = d.rest;
      split = ap (λ t. c ∷ t) d.split;
      each = (inr (digit, is), d.each);
      few = omega (arith, d.few, ap length kept);
      scalar = ap is_scalar same ∙ d.scalar;
      held = subst (MayHold kind) (sym same) d.held;
      none = d.none;
      shorter = omega (arith, d.shorter);
    }

pub digits_none : (kind : LiteralKind) (digits value count : ℕ) (cs : List ℕ) → digits ≤ 6 → fault_behind kind (UnicodeDigits digits value) count (encodes cs) ≡ None
    → Digits kind digits value count cs
digits_none kind digits value count [] few none = cc
digits_none kind digits value count (c ∷ cs) few none =
    let low = low_within kind (UnicodeDigits digits value) count c cs tt none in
    let stepped : fault_behind kind (unicode_step kind digits value c) count (encodes cs) ≡ None = sym (at_ascii kind (UnicodeDigits digits value) count c cs low) ∙ none in
    let else_of = λ (line brace : Bool). cond line (UnicodeDigits digits value) (cond brace (unicode_end kind value) (unicode_more digits value (hex_digit c))) in
    ⊎_elim
    (λ line.
    subst (λ x. Digits kind digits value count (x ∷ cs)) (sym line)
    (line_front kind digits value count cs (digits_none kind digits value count cs few (sym (ap (λ t. fault_behind kind (else_of t (c == 125)) count (encodes cs)) (eq-eqb c 95 line)) ∙ stepped))))
    (λ no_line.
    let behind : fault_behind kind (cond (c == 125) (unicode_end kind value) (unicode_more digits value (hex_digit c))) count (encodes cs) ≡ None =
    sym (ap (λ t. fault_behind kind (else_of t (c == 125)) count (encodes cs)) (ne_eqb c 95 no_line)) ∙ stepped in
    ⊎_elim
    (λ brace.
    subst (λ x. Digits kind digits value count (x ∷ cs)) (sym brace)
    (at_brace kind digits value count cs few (sym (ap (λ t. fault_behind kind (cond t (unicode_end kind value) (unicode_more digits value (hex_digit c))) count (encodes cs)) (eq-eqb c 125 brace)) ∙ behind)))
    (λ no_brace.
    let m = digit_more kind digits value count (hex_digit c) (encodes cs) (sym (ap (λ t. fault_behind kind (cond t (unicode_end kind value) (unicode_more digits value (hex_digit c))) count (encodes cs)) (ne_eqb c 125 no_brace)) ∙ behind) in
    digit_front kind digits value count c m.0 cs no_line m.1 (digits_none kind (digits + 1) (with_digit value m.0) count cs (omega (arith, m.2)) m.3))
    (cases_eq c 125))
    (cases_eq c 95)
