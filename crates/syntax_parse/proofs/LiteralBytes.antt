-- A text between quotes, read byte by byte, is read as its characters and escapes.
use Rattle.std.proofs.Common.{◌≡◌, ℕ, ◌+◌, ◌/◌, ◌%◌, ◌<◌, ◌≤◌, true, false, ◌&&◌, ◌==◌, cond, nat_le, List, [], ◌∷◌, ◌++◌, None, Some, refl, sym, ap, ◌∙◌, ⊎_elim, arith}
use Rattle.std.proofs.lemmas.Bool.{and_right, cases_lt, le-leb, le-ltb, lt-leb, lt-ltb, ne_eqb, or_from, or_right}
use Rattle.std.proofs.lemmas.Str.{encode_ascii}
use Rattle.std.proofs.Math.Utf8.{encode, encodes}
use Rattle.std.specs.Prelude.{nat_lt}
use Rattle.syntax_lex.specs.declared.token.LiteralKind.{LiteralKind}
use Rattle.syntax_parse.specs.Escapes.{begins_one, behind_one, counted, fault_behind, hex_digit, hex_first, hex_second, is_escape, is_single, step, unicode_first, wants_escape}
use Rattle.syntax_parse.specs.declared.escapes.Reached.{Reached}
use Rattle.syntax_parse.specs.declared.escapes.Reached.TheVariants.{Plain, Backslash, Hex, HexDigit, Unicode, UnicodeOpen, UnicodeDigits, Wrong}
use Rattle.syntax_parse.specs.declared.fault.BadToken.{BadToken}
use Rattle.syntax_parse.specs.declared.fault.BadToken.TheVariants as bad

some_is_none : (why : BadToken) → Some why ≡ None → ⊥
some_is_none why e = cc

-- a fault stays
wrong_stays : (kind : LiteralKind) (why : BadToken) (count : ℕ) (bytes : List ℕ) → fault_behind kind (Wrong why) count bytes ≡ Some why
wrong_stays kind why count [] = refl
wrong_stays kind why count (b ∷ bytes) = wrong_stays kind why count bytes

pub no_wrong : (kind : LiteralKind) (why : BadToken) (count : ℕ) (bytes : List ℕ) (reached : Reached) → reached ≡ Wrong why → fault_behind kind reached count bytes ≡ None → ⊥
no_wrong kind why count bytes reached is none = some_is_none why (sym (wrong_stays kind why count bytes) ∙ ap (λ r. fault_behind kind r count bytes) (sym is) ∙ none)

-- a character of one byte
pub at_ascii : (kind : LiteralKind) (reached : Reached) (count c : ℕ) (cs : List ℕ) → c < 128
    → fault_behind kind reached count (encodes (c ∷ cs)) ≡ fault_behind kind (step kind reached c) (counted (begins_one reached c) count) (encodes cs)
at_ascii kind reached count c cs low = ap (λ b. fault_behind kind reached count (b ++ encodes cs)) (encode_ascii c low)

pub wide_is : (c k : ℕ) → 128 ≤ c → k < 128 → (c == k) ≡ false
wide_is c k wide low = ne_eqb c k (λ e. omega (arith, wide, low, e))

pub wide_mark : (c : ℕ) → 128 ≤ c → wants_escape c ≡ false
wide_mark c wide = rw (wide_is c 39 wide (omega arith), wide_is c 10 wide (omega arith), wide_is c 13 wide (omega arith), wide_is c 9 wide (omega arith)) refl

pub wide_escape : (c : ℕ) → 128 ≤ c → is_escape c ≡ false
wide_escape c wide =
    rw (wide_is c 110 wide (omega arith), wide_is c 114 wide (omega arith), wide_is c 116 wide (omega arith), wide_is c 92 wide (omega arith), wide_is c 39 wide (omega arith), wide_is c 34 wide (omega arith)) refl

pub wide_hex : (c : ℕ) → 128 ≤ c → hex_digit c ≡ None
wide_hex c wide =
    rw (and_right (nat_le 48 c) (nat_le c 57) (lt-leb c 57 (omega (arith, wide))), and_right (nat_le 97 c) (nat_le c 102) (lt-leb c 102 (omega (arith, wide))), and_right (nat_le 65 c) (nat_le c 70) (lt-leb c 70 (omega (arith, wide)))) refl

plain_wide : (kind : LiteralKind) (c : ℕ) → 128 ≤ c → step kind Plain c ≡ Plain
plain_wide kind c wide =
    ap (λ t. cond t Backslash (cond (is_single kind && wants_escape c) (Wrong bad.WantsEscape) (behind_one kind (c == 0)))) (wide_is c 92 wide (omega arith))
    ∙ ap (λ t. cond t (Wrong bad.WantsEscape) (behind_one kind (c == 0))) (and_right (is_single kind) (wants_escape c) (wide_mark c wide))
    ∙ ap (behind_one kind) (wide_is c 0 wide (omega arith))

at_lead : (kind : LiteralKind) (count a : ℕ) (bytes : List ℕ) → 192 ≤ a → fault_behind kind Plain count (a ∷ bytes) ≡ fault_behind kind Plain (counted true count) bytes
at_lead kind count a bytes high =
    ap (λ r. fault_behind kind r (counted (begins_one Plain a) count) bytes) (plain_wide kind a (omega (arith, high)))
    ∙ ap (λ t. fault_behind kind Plain (counted t count) bytes) (or_right (nat_lt a 128) (nat_le 192 a) (le-leb 192 a high))

-- a byte that continues a character
abbrev Follows : ℕ → Type 0
Follows a = (128 ≤ a) × (a < 192)

abbrev AllFollow : List ℕ → Type 0
AllFollow [] = Unit {0}
AllFollow (a ∷ more) = Follows a × AllFollow more

-- the bytes of a character beyond ASCII
pub record Wide (c : ℕ) : Type 0 where
  pub lead : ℕ
  pub more : List ℕ
  pub high : 192 ≤ lead
  pub follow : AllFollow more
  pub is : encode c ≡ lead ∷ more

next_follows : (x : ℕ) → Follows (128 + x % 64)
next_follows x = (omega arith, omega arith)

pub wide_shape : (c : ℕ) → 128 ≤ c → Wide c
unfolding encode
wide_shape c wide =
    ⊎_elim
    (λ h. record { lead = 192 + c / 64; more = (128 + c % 64) ∷ []; high = omega arith; follow = (next_follows c, tt); is = rw (le-ltb c 128 wide, lt-ltb c 2048 h) refl })
    (λ l.
    ⊎_elim
    (λ h. record { lead = 224 + c / 4096; more = (128 + c / 64 % 64) ∷ (128 + c % 64) ∷ []; high = omega arith; follow = (next_follows (c / 64), (next_follows c, tt)); is = rw (le-ltb c 128 wide, le-ltb c 2048 l, lt-ltb c 65536 h) refl })
    (λ m. record { lead = 240 + c / 262144; more = (128 + c / 4096 % 64) ∷ (128 + c / 64 % 64) ∷ (128 + c % 64) ∷ []; high = omega arith; follow = (next_follows (c / 4096), (next_follows (c / 64), (next_follows c, tt))); is = rw (le-ltb c 128 wide, le-ltb c 2048 l, le-ltb c 65536 m) refl })
    (cases_lt c 65536))
    (cases_lt c 2048)

all_next : (kind : LiteralKind) (count : ℕ) (more bytes : List ℕ) → AllFollow more → fault_behind kind Plain count (more ++ bytes) ≡ fault_behind kind Plain count bytes
all_next kind count [] bytes follow = refl
all_next kind count (a ∷ more) bytes follow =
    ap (λ r. fault_behind kind r (counted (begins_one Plain a) count) (more ++ bytes)) (plain_wide kind a follow.0.0)
    ∙ ap (λ t. fault_behind kind Plain (counted t count) (more ++ bytes)) (or_from (nat_lt a 128) (nat_le 192 a) (le-ltb a 128 follow.0.0) (lt-leb 192 a follow.0.1))
    ∙ all_next kind count more bytes follow.1

-- a character of several bytes, outside of an escape
pub at_wide : (kind : LiteralKind) (count c : ℕ) (cs : List ℕ) → 128 ≤ c → fault_behind kind Plain count (encodes (c ∷ cs)) ≡ fault_behind kind Plain (counted true count) (encodes cs)
at_wide kind count c cs wide =
    let w = wide_shape c wide in
    ap (λ t. fault_behind kind Plain count (t ++ encodes cs)) w.is ∙ at_lead kind count w.lead (w.more ++ encodes cs) w.high ∙ all_next kind (counted true count) w.more (encodes cs) w.follow

-- the state is within an escape
abbrev pub IsWithin : Reached → Type 0
IsWithin Plain = ⊥
IsWithin (Wrong why) = ⊥
IsWithin Backslash = Unit {0}
IsWithin Hex = Unit {0}
IsWithin (HexDigit high) = Unit {0}
IsWithin Unicode = Unit {0}
IsWithin UnicodeOpen = Unit {0}
IsWithin (UnicodeDigits count value) = Unit {0}

wide_wrong : (kind : LiteralKind) (reached : Reached) (c : ℕ) → IsWithin reached → 128 ≤ c → (why : BadToken) × (step kind reached c ≡ Wrong why)
wide_wrong kind Plain c within wide = elim within [ ]
wide_wrong kind (Wrong _) c within wide = elim within [ ]
wide_wrong kind Backslash c within wide =
    (bad.UnknownEscape, rw (wide_is c 110 wide (omega arith), wide_is c 114 wide (omega arith), wide_is c 116 wide (omega arith), wide_is c 92 wide (omega arith), wide_is c 39 wide (omega arith), wide_is c 34 wide (omega arith), wide_is c 48 wide (omega arith), wide_is c 120 wide (omega arith), wide_is c 117 wide (omega arith), wide_is c 10 wide (omega arith), wide_is c 13 wide (omega arith)) refl)
wide_wrong kind Hex c within wide = (bad.BadHexEscape, ap hex_first (wide_hex c wide))
wide_wrong kind (HexDigit high) c within wide = (bad.BadHexEscape, ap (hex_second kind high) (wide_hex c wide))
wide_wrong kind Unicode c within wide = (bad.BadUnicodeEscape, rw (wide_is c 123 wide (omega arith)) refl)
wide_wrong kind UnicodeOpen c within wide = (bad.BadUnicodeEscape, ap unicode_first (wide_hex c wide))
wide_wrong kind (UnicodeDigits count value) c within wide = (bad.BadUnicodeEscape, rw (wide_is c 95 wide (omega arith), wide_is c 125 wide (omega arith), wide_hex c wide) refl)

-- no character beyond ASCII is within an escape
pub low_within : (kind : LiteralKind) (reached : Reached) (count c : ℕ) (cs : List ℕ) → IsWithin reached → fault_behind kind reached count (encodes (c ∷ cs)) ≡ None → c < 128
low_within kind reached count c cs within none =
    ⊎_elim (λ low. low)
    (λ wide.
    let w = wide_shape c wide in
    let wrong = wide_wrong kind reached w.lead within (omega (arith, w.high)) in
    absurd (no_wrong kind wrong.0 (counted (begins_one reached w.lead) count) (w.more ++ encodes cs) (step kind reached w.lead) wrong.1 (sym (ap (λ t. fault_behind kind reached count (t ++ encodes cs)) w.is) ∙ none)))
    (cases_lt c 128)
