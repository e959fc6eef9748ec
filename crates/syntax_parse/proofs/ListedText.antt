-- The codes that LiteralText lists are those that the tables of the state machine accept.
use Rattle.std.proofs.Common.{◌≡◌, ◌≢◌, ℕ, zero, suc, ◌+◌, ◌-◌, ◌*◌, ◌<◌, ◌≤◌, Bool, true, false, ◌&&◌, ◌||◌, not, ◌==◌, cond, nat_le, List, [], ◌∷◌, ◌++◌, length, Option, None, Some, codes, refl, sym, ap, subst, ◌∙◌, ⊎_elim, inl, inr, arith}
use Rattle.std.proofs.lemmas.Bool.{and_parts, cases_Bool, cases_eq, eq-eqb, eqb-true, false≢true, leb-true, ne_eqb, or_cases}
use Rattle.std.proofs.lemmas.List.Elements.{All-contains, All-from_recursion}
use Rattle.std.proofs.lemmas.Option.{slice_get_within}
use Rattle.std.proofs.Math.Utf8.{scalar}
use Rattle.std.specs.List.{AllByRecursion}
use Rattle.std.specs.Prelude.{◌⊎◌, Contains, nat_lt, slice_get, unwrap_or}
use Rattle.syntax_lex.specs.declared.token.LiteralKind.{LiteralKind}
use Rattle.syntax_lex.specs.declared.token.LiteralKind.TheVariants as literals
use Rattle.syntax_parse.specs.Escapes.{hex_digit, is_escape, is_scalar, is_single, takes_high, takes_unicode, wants_escape}
use Rattle.syntax_parse.specs.LiteralText.{AreUnits, nothing, more, IsDigit, small, large, IsUnicode, IsUnit, character, simple, null, byte, unicode, line_end, MayHold, MayTell, Tell, none, low_line, digit, holds_one, is_of_bytes}
use Rattle.syntax_parse.proofs.TableText as table

-- the value of each digit of a list is its place
abbrev AreDigits : (from : ℕ) → List ℕ → Type 0
AreDigits from [] = Unit {0}
AreDigits from (x ∷ xs) = (hex_digit x ≡ Some from) × AreDigits (suc from) xs

digit_at : (from : ℕ) (xs : List ℕ) (place c : ℕ) → AreDigits from xs → slice_get xs place ≡ Some c → hex_digit c ≡ Some (from + place)
digit_at from [] place c each is = cc
digit_at from (x ∷ xs) zero c each is =
    let same : x ≡ c = cc in
    let first : from ≡ from + 0 = omega arith in
    sym (ap hex_digit same) ∙ each.0 ∙ ap (λ (n : ℕ). Some n) first
digit_at from (x ∷ xs) (suc place) c each is =
    let next : suc from + place ≡ from + suc place = omega arith in
    digit_at (suc from) xs place c each.1 is ∙ ap (λ (n : ℕ). Some n) next

lower : AreDigits 0 (codes "0123456789abcdef")
lower = (refl, (refl, (refl, (refl, (refl, (refl, (refl, (refl, (refl, (refl, (refl, (refl, (refl, (refl, (refl, (refl, tt))))))))))))))))

upper : AreDigits 0 (codes "0123456789ABCDEF")
upper = (refl, (refl, (refl, (refl, (refl, (refl, (refl, (refl, (refl, (refl, (refl, (refl, (refl, (refl, (refl, (refl, tt))))))))))))))))

-- a digit of the lists is one of the table
digit_known : (c value : ℕ) → IsDigit c value → hex_digit c ≡ Some value
digit_known c value (small is) = let from_none : 0 + value ≡ value = omega arith in digit_at 0 (codes "0123456789abcdef") value c lower is ∙ ap (λ (n : ℕ). Some n) from_none
digit_known c value (large is) = let from_none : 0 + value ≡ value = omega arith in digit_at 0 (codes "0123456789ABCDEF") value c upper is ∙ ap (λ (n : ℕ). Some n) from_none

digit_below : (c value : ℕ) → IsDigit c value → value < 16
digit_below c value (small is) = slice_get_within (codes "0123456789abcdef") value c is
digit_below c value (large is) = slice_get_within (codes "0123456789ABCDEF") value c is

-- P holds of `count` numbers, from `from` on
abbrev AllFrom : (P : ℕ → Type 0) (from count : ℕ) → Type 0
AllFrom P from zero = Unit {0}
AllFrom P from (suc count) = P from × AllFrom P (suc from) count

all_at : (P : ℕ → Type 0) (from count c : ℕ) → AllFrom P from count → from ≤ c → c < from + count → P c
all_at P from zero c each low high = absurd (omega (arith, low, high))
all_at P from (suc count) c each low high =
    ⊎_elim
    (λ first. subst P (sym first) each.0)
    (λ other. all_at P (suc from) count c each.1 (omega (arith, low, other)) (omega (arith, high)))
    (cases_eq c from)

-- a digit of the table is one of the lists
digit_listed : (c value : ℕ) → hex_digit c ≡ Some value → IsDigit c value
digit_listed c value is =
    let decimal = nat_le 48 c && nat_le c 57 in
    let is_small = nat_le 97 c && nat_le c 102 in
    let is_large = nat_le 65 c && nat_le c 70 in
    let found : (d s l : Bool) → Option ℕ = λ d s l. cond d (Some (c - 48)) (cond s (Some (c - 87)) (cond l (Some (c - 55)) None)) in
    ⊎_elim
    (λ yes.
    let parts = and_parts (nat_le 48 c) (nat_le c 57) yes in
    let low : 48 ≤ c = leb-true 48 c parts.0 in
    let high : c ≤ 57 = leb-true c 57 parts.1 in
    let same : Some (c - 48) ≡ Some value = sym (ap (λ t. found t is_small is_large) yes) ∙ is in
    let value_is : c - 48 ≡ value = cc in
    small (subst (λ v. slice_get (codes "0123456789abcdef") v ≡ Some c) value_is (all_at (λ x. slice_get (codes "0123456789abcdef") (x - 48) ≡ Some x) 48 10 c (refl, (refl, (refl, (refl, (refl, (refl, (refl, (refl, (refl, (refl, tt)))))))))) low (omega (arith, high)))))
    (λ no_decimal.
    ⊎_elim
    (λ yes.
    let parts = and_parts (nat_le 97 c) (nat_le c 102) yes in
    let low : 97 ≤ c = leb-true 97 c parts.0 in
    let high : c ≤ 102 = leb-true c 102 parts.1 in
    let same : Some (c - 87) ≡ Some value = sym (ap (λ t. found t is_small is_large) no_decimal ∙ ap (λ t. found false t is_large) yes) ∙ is in
    let value_is : c - 87 ≡ value = cc in
    small (subst (λ v. slice_get (codes "0123456789abcdef") v ≡ Some c) value_is (all_at (λ x. slice_get (codes "0123456789abcdef") (x - 87) ≡ Some x) 97 6 c (refl, (refl, (refl, (refl, (refl, (refl, tt)))))) low (omega (arith, high)))))
    (λ no_small.
    ⊎_elim
    (λ yes.
    let parts = and_parts (nat_le 65 c) (nat_le c 70) yes in
    let low : 65 ≤ c = leb-true 65 c parts.0 in
    let high : c ≤ 70 = leb-true c 70 parts.1 in
    let same : Some (c - 55) ≡ Some value = sym (ap (λ t. found t is_small is_large) no_decimal ∙ ap (λ t. found false t is_large) no_small ∙ ap (λ t. found false false t) yes) ∙ is in
    let value_is : c - 55 ≡ value = cc in
    large (subst (λ v. slice_get (codes "0123456789ABCDEF") v ≡ Some c) value_is (all_at (λ x. slice_get (codes "0123456789ABCDEF") (x - 55) ≡ Some x) 65 6 c (refl, (refl, (refl, (refl, (refl, (refl, tt)))))) low (omega (arith, high)))))
    (λ no_large.
    let absent : None ≡ Some value = sym (ap (λ t. found t is_small is_large) no_decimal ∙ ap (λ t. found false t is_large) no_small ∙ ap (λ t. found false false t) no_large) ∙ is in
    cc)
    (cases_Bool is_large))
    (cases_Bool is_small))
    (cases_Bool decimal)

-- the escapes of two characters
escape_known : (c : ℕ) → Contains (codes "nrt\\'\"") c → is_escape c ≡ true
escape_known c among = All-contains (λ x. is_escape x ≡ true) (codes "nrt\\'\"") c (All-from_recursion (λ x. is_escape x ≡ true) (codes "nrt\\'\"") (refl, (refl, (refl, (refl, (refl, (refl, tt))))))) among

escape_listed : (c : ℕ) → is_escape c ≡ true → Contains (codes "nrt\\'\"") c
escape_listed c is =
    ⊎_elim (λ e. (0, omega arith, sym (eqb-true c 110 e)))
    (λ is.
    ⊎_elim (λ e. (1, omega arith, sym (eqb-true c 114 e)))
    (λ is.
    ⊎_elim (λ e. (2, omega arith, sym (eqb-true c 116 e)))
    (λ is.
    ⊎_elim (λ e. (3, omega arith, sym (eqb-true c 92 e)))
    (λ is.
    ⊎_elim (λ e. (4, omega arith, sym (eqb-true c 39 e))) (λ e. (5, omega arith, sym (eqb-true c 34 e)))
    (or_cases (c == 39) (c == 34) is))
    (or_cases (c == 92) ((c == 39) || (c == 34)) is))
    (or_cases (c == 116) ((c == 92) || ((c == 39) || (c == 34))) is))
    (or_cases (c == 114) ((c == 116) || ((c == 92) || ((c == 39) || (c == 34)))) is))
    (or_cases (c == 110) ((c == 114) || ((c == 116) || ((c == 92) || ((c == 39) || (c == 34))))) is)

-- what needs an escape in a literal of one character
mark_known : (c : ℕ) → (Contains (codes "'\n\r\t") c → ⊥) → wants_escape c ≡ false
mark_known c other = ⊎_elim (λ wants. absurd (other (listed wants))) (λ plain. plain) (cases_Bool (wants_escape c))
  where
    listed : wants_escape c ≡ true → Contains (codes "'\n\r\t") c
    listed is =
        ⊎_elim (λ e. (0, omega arith, sym (eqb-true c 39 e)))
        (λ is.
        ⊎_elim (λ e. (1, omega arith, sym (eqb-true c 10 e)))
        (λ is. ⊎_elim (λ e. (2, omega arith, sym (eqb-true c 13 e))) (λ e. (3, omega arith, sym (eqb-true c 9 e))) (or_cases (c == 13) (c == 9) is))
        (or_cases (c == 10) ((c == 13) || (c == 9)) is))
        (or_cases (c == 39) ((c == 10) || ((c == 13) || (c == 9))) is)

mark_listed : (c : ℕ) → wants_escape c ≡ false → Contains (codes "'\n\r\t") c → ⊥
mark_listed c plain among =
    let wants : wants_escape c ≡ true = All-contains (λ x. wants_escape x ≡ true) (codes "'\n\r\t") c (All-from_recursion (λ x. wants_escape x ≡ true) (codes "'\n\r\t") (refl, (refl, (refl, (refl, tt))))) among in
    false≢true (sym plain ∙ wants)

-- the kinds
pub one_same : (kind : LiteralKind) → is_single kind ≡ holds_one kind
one_same (literals.Char terminated) = refl
one_same (literals.Byte terminated) = refl
one_same _ = refl

unicode_same : (kind : LiteralKind) → takes_unicode kind ≡ not (is_of_bytes kind)
unicode_same (literals.Byte terminated) = refl
unicode_same (literals.ByteStr terminated) = refl
unicode_same _ = refl

bytes_no : (kind : LiteralKind) → takes_unicode kind ≡ true → is_of_bytes kind ≡ false
bytes_no (literals.Byte terminated) takes = absurd (false≢true takes)
bytes_no (literals.ByteStr terminated) takes = absurd (false≢true takes)
bytes_no _ takes = refl

held_known : (kind : LiteralKind) (number : ℕ) → MayHold kind number → table.MayHold kind number
held_known (literals.CStr terminated) number held = inr held
held_known _ number held = inl refl

held_listed : (kind : LiteralKind) (number : ℕ) → table.MayHold kind number → MayHold kind number
held_listed (literals.CStr terminated) number (inl takes) = absurd (false≢true takes)
held_listed (literals.CStr terminated) number (inr some) = some
held_listed _ number held = tt

high_known : (kind : LiteralKind) (high low : ℕ) → MayTell kind (high * 16 + low) → (takes_high kind ≡ true) ⊎ (high < 8)
high_known (literals.Char terminated) high low may = inr (omega (arith, may))
high_known (literals.Str terminated) high low may = inr (omega (arith, may))
high_known (literals.CStr terminated) high low may = inl refl
high_known _ high low may = inl refl

null_known : (kind : LiteralKind) (number : ℕ) → MayTell kind number → table.MayHold kind number
null_known (literals.CStr terminated) number may = inr may
null_known (literals.Char terminated) number may = inl refl
null_known (literals.Str terminated) number may = inl refl
null_known _ number may = inl refl

byte_listed : (kind : LiteralKind) (high low : ℕ) → low < 16 → (takes_high kind ≡ true) ⊎ (high < 8) → table.MayHold kind (high * 16 + low) → MayTell kind (high * 16 + low)
byte_listed (literals.Char terminated) high low few (inl takes) held = absurd (false≢true takes)
byte_listed (literals.Char terminated) high low few (inr below) held = omega (arith, few, below)
byte_listed (literals.Str terminated) high low few (inl takes) held = absurd (false≢true takes)
byte_listed (literals.Str terminated) high low few (inr below) held = omega (arith, few, below)
byte_listed (literals.CStr terminated) high low few fits (inl takes) = absurd (false≢true takes)
byte_listed (literals.CStr terminated) high low few fits (inr some) = some
byte_listed _ high low few fits held = tt

-- what the digits of a text give
record Told (before : ℕ) (text : List ℕ) (digits number : ℕ) : Type 0 where
  each : AllByRecursion table.IsDigitOrLine text
  few : length (table.digits_in text) ≡ digits
  same : table.number_behind before (table.digits_in text) ≡ number

no_line : (c value : ℕ) → hex_digit c ≡ Some value → c ≢ 95
no_line c value is e = let absent : None ≡ Some value = sym (ap hex_digit e) ∙ is in cc

dropped : (c : ℕ) (text : List ℕ) → c ≡ 95 → table.digits_in (c ∷ text) ≡ table.digits_in text
dropped c text is = ap (λ t. cond t (table.digits_in text) (c ∷ table.digits_in text)) (eq-eqb c 95 is)

kept : (c : ℕ) (text : List ℕ) → c ≢ 95 → table.digits_in (c ∷ text) ≡ c ∷ table.digits_in text
kept c text other = ap (λ t. cond t (table.digits_in text) (c ∷ table.digits_in text)) (ne_eqb c 95 other)

next_number : (before c value : ℕ) (rest : List ℕ) → hex_digit c ≡ Some value → table.number_behind before (c ∷ rest) ≡ table.number_behind (before * 16 + value) rest
next_number before c value rest is = ap (λ o. table.number_behind (before * 16 + unwrap_or o 0) rest) is

answer : (before : ℕ) (text : List ℕ) (digits number : ℕ) → Tell before text digits number → Told before text digits number
answer before _ _ _ none = record { each = tt; few = refl; same = refl }
answer before _ digits number (low_line {text = text} tell) =
    let rest = answer before text digits number tell in
    record { each = (inl refl, rest.each); few = rest.few; same = rest.same }
answer before _ _ number (digit {c = c} {value = value} {digits = digits} {text = text} is tell) =
    let rest = answer (before * 16 + value) text digits number tell in
    let found = digit_known c value is in
    let k = kept c text (no_line c value found) in
    record {
      each = (inr (value, found), rest.each);
      few = ap length k ∙ ap suc rest.few;
      same = ap (table.number_behind before) k ∙ next_number before c value (table.digits_in text) found ∙ rest.same;
    }

-- P of the digits of a text
abbrev Telling : (before : ℕ) (text ds : List ℕ) → Type 0
Telling before text ds = Tell before text (length ds) (table.number_behind before ds)

telling : (before : ℕ) (text : List ℕ) → AllByRecursion table.IsDigitOrLine text → Telling before text (table.digits_in text)
telling before [] each = none
telling before (c ∷ text) (inl is, each) =
    subst (Telling before (c ∷ text)) (sym (dropped c text is)) (subst (λ x. Telling before (x ∷ text) (table.digits_in text)) (sym is) (low_line (telling before text each)))
telling before (c ∷ text) (inr (value, is), each) =
    let rest = table.digits_in text in
    let tell : Tell before (c ∷ text) (suc (length rest)) (table.number_behind (before * 16 + value) rest) = digit (digit_listed c value is) (telling (before * 16 + value) text each) in
    subst (Telling before (c ∷ text)) (sym (kept c text (no_line c value is)))
    (subst (λ n. Tell before (c ∷ text) (suc (length rest)) n) (sym (next_number before c value rest is)) tell)

either : (a b : Bool) → cond a true b ≡ (a || b)
either true b = refl
either false b = refl

scalar_same : (number : ℕ) → scalar number ≡ is_scalar number
scalar_same number = either (nat_lt number 55296) (nat_le 57344 number && nat_lt number 1114112)

first_behind : (first value : ℕ) (rest : List ℕ) → hex_digit first ≡ Some value → table.number_in (first ∷ rest) ≡ table.number_behind value (table.digits_in rest)
first_behind first value rest is =
    let from_none : 0 * 16 + value ≡ value = omega arith in
    ap (table.number_behind 0) (kept first rest (no_line first value is)) ∙ next_number 0 first value (table.digits_in rest) is ∙ ap (λ n. table.number_behind n (table.digits_in rest)) from_none

unicode_known : (kind : LiteralKind) (first : ℕ) (rest : List ℕ) → IsUnicode kind first rest → table.IsUnicode kind (first ∷ rest)
unicode_known kind first rest it =
    let found = digit_known first it.value it.begins in
    let behind = answer it.value rest it.digits it.number it.tell in
    let same : table.number_in (first ∷ rest) ≡ it.number = first_behind first it.value rest found ∙ behind.same in
    record {
      first = first;
      value = it.value;
      rest = rest;
      begins = refl;
      digit = found;
      digits = behind.each;
      few = omega (arith, it.few, behind.few, ap length (kept first rest (no_line first it.value found)));
      scalar = ap is_scalar same ∙ sym (scalar_same it.number) ∙ it.scalar;
      held = subst (table.MayHold kind) (sym same) (held_known kind it.number it.held);
    }

unicode_listed : (kind : LiteralKind) (text : List ℕ) → is_of_bytes kind ≡ false → table.IsUnicode kind text → IsUnit kind (92 ∷ 117 ∷ 123 ∷ (text ++ 125 ∷ []))
unicode_listed kind text no_bytes it =
    let same : table.number_in text ≡ table.number_behind it.value (table.digits_in it.rest) = ap table.number_in it.begins ∙ first_behind it.first it.value it.rest it.digit in
    let counted : length (table.digits_in text) ≡ suc (length (table.digits_in it.rest)) = ap (λ t. length (table.digits_in t)) it.begins ∙ ap length (kept it.first it.rest (no_line it.first it.value it.digit)) in
    let listed : IsUnicode kind it.first it.rest = record {
      value = it.value;
      digits = length (table.digits_in it.rest);
      number = table.number_behind it.value (table.digits_in it.rest);
      begins = digit_listed it.first it.value it.digit;
      tell = telling it.value it.rest it.digits;
      few = omega (arith, it.few, counted);
      scalar = scalar_same (table.number_behind it.value (table.digits_in it.rest)) ∙ sym (ap is_scalar same) ∙ it.scalar;
      held = held_listed kind (table.number_behind it.value (table.digits_in it.rest)) (subst (table.MayHold kind) same it.held);
    } in
    subst (λ t. IsUnit kind (92 ∷ 117 ∷ 123 ∷ (t ++ 125 ∷ []))) (sym it.begins) (unicode no_bytes listed)

unit_known : (kind : LiteralKind) (unit : List ℕ) → IsUnit kind unit → table.IsUnit kind unit
unit_known kind _ (character {c = c} it) =
    table.character (record {
      no_backslash = it.no_backslash;
      no_mark = ⊎_elim (λ many. inl (one_same kind ∙ many)) (λ other. inr (mark_known c other)) it.no_mark;
      held = held_known kind c it.held;
    })
unit_known kind _ (simple {c = c} among) = table.simple (escape_known c among)
unit_known kind _ (null may) = table.null (held_known kind 0 may)
unit_known kind _ (byte {a = a} {b = b} {high = high} {low = low} first second may) =
    table.byte (digit_known a high first) (digit_known b low second) (high_known kind high low may) (null_known kind (high * 16 + low) may)
unit_known kind _ (unicode {first = first} {rest = rest} no_bytes it) = table.unicode (unicode_same kind ∙ ap not no_bytes) (unicode_known kind first rest it)
unit_known kind _ (line_end many ends) = table.line_end (one_same kind ∙ many) ends

unit_listed : (kind : LiteralKind) (unit : List ℕ) → table.IsUnit kind unit → IsUnit kind unit
unit_listed kind _ (table.character {c = c} it) =
    character (record {
      no_backslash = it.no_backslash;
      no_mark = ⊎_elim (λ many. inl (sym (one_same kind) ∙ many)) (λ plain. inr (mark_listed c plain)) it.no_mark;
      held = held_listed kind c it.held;
    })
unit_listed kind _ (table.simple {c = c} is) = simple (escape_listed c is)
unit_listed kind _ (table.null may) = null (held_listed kind 0 may)
unit_listed kind _ (table.byte {a = a} {b = b} {high = high} {low = low} first second fits held) =
    let second_listed = digit_listed b low second in
    byte (digit_listed a high first) second_listed (byte_listed kind high low (digit_below b low second_listed) fits held)
unit_listed kind _ (table.unicode {text = text} takes it) = unicode_listed kind text (bytes_no kind takes) it
unit_listed kind _ (table.line_end many ends) = line_end (sym (one_same kind) ∙ many) ends

pub units_known : (kind : LiteralKind) (count : ℕ) (text : List ℕ) → AreUnits kind count text → table.AreUnits kind count text
units_known kind _ _ nothing = table.nothing
units_known kind _ _ (more {unit = unit} {rest = rest} {count = count} is others) = table.more (unit_known kind unit is) (units_known kind count rest others)

pub units_listed : (kind : LiteralKind) (count : ℕ) (text : List ℕ) → table.AreUnits kind count text → AreUnits kind count text
units_listed kind _ _ table.nothing = nothing
units_listed kind _ _ (table.more {unit = unit} {rest = rest} {count = count} is others) = more (unit_listed kind unit is) (units_listed kind count rest others)
