-- The parts that a closed literal is made of.
use Rattle.std.proofs.Common.{◌≡◌, ℕ, ◌+◌, ◌<◌, ◌-◌, Bool, true, false, ◌==◌, ◌&&◌, not, List, [], ◌∷◌, ◌++◌, refl, sym, ap, ◌∙◌, arith, cond, subst}
use Rattle.std.proofs.lemmas.Bool.{eqb-true, and_parts}
use Rattle.std.specs.Prelude.{unwrap_or, is_some}
use Rattle.syntax_lex.specs.Class.{is_decimal, is_decimal_part, passes, is_emoji_mark, is_id_continue, is_id_start, is_whitespace}
use Rattle.syntax_lex.specs.Closing.{behind_quote}
use Rattle.syntax_lex.specs.Ends.{IsEnd, whole, later}
use Rattle.syntax_lex.specs.Front.{byte_length, first, second, skip, behind}
use Rattle.syntax_lex.specs.Quoted.{apostrophe, begins_lifetime, begins_raw_lifetime, literal, quoted_char}
use Rattle.syntax_lex.specs.Number.{base_of, begins_exponent, begins_fraction, class_of, has_digit, has_letter, number, with_exponent, with_fraction}
use Rattle.syntax_lex.specs.Opening.{begins_raw, opening, symbol}
use Rattle.syntax_lex.specs.Reading.{reading, reading_of}
use Rattle.syntax_lex.specs.Word.{begins_literal, word}
use Rattle.syntax_lex.specs.declared.opening.Family.{Family}
use Rattle.syntax_lex.specs.declared.opening.Family.TheVariants as opens
use Rattle.syntax_lex.specs.declared.token.Base.{Base}
use Rattle.syntax_lex.specs.declared.token.LiteralKind.{LiteralKind}
use Rattle.syntax_lex.specs.declared.token.LiteralKind.TheVariants as literals
use Rattle.syntax_lex.specs.declared.token.TokenKind.{TokenKind}
use Rattle.syntax_lex.specs.declared.token.TokenKind.TheVariants as kinds
use Rattle.syntax_lex.proofs.EndFacts.{behind_end, number_end, on, skip_end}
use Rattle.syntax_lex.proofs.GrammarFacts.{string_closed}
use Rattle.syntax_parse.proofs.ShapeParts.{numeric, Shape, one_byte, byte_length-both, front_of, begins, char_closed, quoted_shape, raw_shape, numeric_shape}

-- how many bytes precede the value of a literal, and how many follow it
abbrev pub ahead_of : LiteralKind → ℕ
ahead_of (literals.Int base empty) = 0
ahead_of (literals.Float base empty) = 0
ahead_of (literals.Char terminated) = 1
ahead_of (literals.Byte terminated) = 2
ahead_of (literals.Str terminated) = 1
ahead_of (literals.ByteStr terminated) = 2
ahead_of (literals.CStr terminated) = 2
ahead_of (literals.RawStr hashes) = 2 + unwrap_or hashes 0
ahead_of (literals.RawByteStr hashes) = 3 + unwrap_or hashes 0
ahead_of (literals.RawCStr hashes) = 3 + unwrap_or hashes 0

abbrev pub after_of : LiteralKind → ℕ
after_of (literals.Int base empty) = 0
after_of (literals.Float base empty) = 0
after_of (literals.Char terminated) = 1
after_of (literals.Byte terminated) = 1
after_of (literals.Str terminated) = 1
after_of (literals.ByteStr terminated) = 1
after_of (literals.CStr terminated) = 1
after_of (literals.RawStr hashes) = 1 + unwrap_or hashes 0
after_of (literals.RawByteStr hashes) = 1 + unwrap_or hashes 0
after_of (literals.RawCStr hashes) = 1 + unwrap_or hashes 0

-- a literal that is closed
abbrev pub is_closed : LiteralKind → Bool
is_closed (literals.Int base empty) = true
is_closed (literals.Float base empty) = true
is_closed (literals.Char terminated) = terminated
is_closed (literals.Byte terminated) = terminated
is_closed (literals.Str terminated) = terminated
is_closed (literals.ByteStr terminated) = terminated
is_closed (literals.CStr terminated) = terminated
is_closed (literals.RawStr hashes) = is_some hashes
is_closed (literals.RawByteStr hashes) = is_some hashes
is_closed (literals.RawCStr hashes) = is_some hashes

-- the reading is no literal, or one that is not closed, or has a shape
abbrev pub ShapeAs : TokenKind → (left text : List ℕ) → Type 0
ShapeAs (kinds.Literal kind place) left text = is_closed kind ≡ true → Shape text left (ahead_of kind) (after_of kind) place
ShapeAs _ left text = Unit {0}

data Shaped (found : TokenKind × List ℕ) (text : List ℕ) : Type 0 where
  shaped : ShapeAs found.0 found.1 text → Shaped found text

shape_in : (found : TokenKind × List ℕ) (text : List ℕ) → Shaped found text → ShapeAs found.0 found.1 text
shape_in found text (shaped h) = h

either : (b : Bool) (x y : TokenKind × List ℕ) (text : List ℕ) → (b ≡ true → Shaped x text) → (b ≡ false → Shaped y text) → Shaped (cond b x y) text
either true x y text h k = h refl
either false x y text h k = k refl

-- a kind that is no literal
data IsOther (kind : TokenKind) : Type 0 where
  other : ((left text : List ℕ) → ShapeAs kind left text) → IsOther kind

other_in : (kind : TokenKind) (left text : List ℕ) → IsOther kind → ShapeAs kind left text
other_in kind left text (other h) = h left text

either_kind : (b : Bool) (x y : TokenKind) → IsOther x → IsOther y → IsOther (cond b x y)
either_kind true x y h k = h
either_kind false x y h k = k

symbol_other : (c : ℕ) → IsOther (symbol c)
unfolding symbol
symbol_other c =
    either_kind (c == 59) kinds.Semi _ (other (λ _ _. tt)) (
    either_kind (c == 44) kinds.Comma _ (other (λ _ _. tt)) (
    either_kind (c == 46) kinds.Dot _ (other (λ _ _. tt)) (
    either_kind (c == 40) kinds.OpenParen _ (other (λ _ _. tt)) (
    either_kind (c == 41) kinds.CloseParen _ (other (λ _ _. tt)) (
    either_kind (c == 123) kinds.OpenBrace _ (other (λ _ _. tt)) (
    either_kind (c == 125) kinds.CloseBrace _ (other (λ _ _. tt)) (
    either_kind (c == 91) kinds.OpenBracket _ (other (λ _ _. tt)) (
    either_kind (c == 93) kinds.CloseBracket _ (other (λ _ _. tt)) (
    either_kind (c == 64) kinds.At _ (other (λ _ _. tt)) (
    either_kind (c == 35) kinds.Pound _ (other (λ _ _. tt)) (
    either_kind (c == 126) kinds.Tilde _ (other (λ _ _. tt)) (
    either_kind (c == 63) kinds.Question _ (other (λ _ _. tt)) (
    either_kind (c == 58) kinds.Colon _ (other (λ _ _. tt)) (
    either_kind (c == 36) kinds.Dollar _ (other (λ _ _. tt)) (
    either_kind (c == 61) kinds.Eq _ (other (λ _ _. tt)) (
    either_kind (c == 33) kinds.Bang _ (other (λ _ _. tt)) (
    either_kind (c == 60) kinds.Lt _ (other (λ _ _. tt)) (
    either_kind (c == 62) kinds.Gt _ (other (λ _ _. tt)) (
    either_kind (c == 45) kinds.Minus _ (other (λ _ _. tt)) (
    either_kind (c == 38) kinds.And _ (other (λ _ _. tt)) (
    either_kind (c == 124) kinds.Or _ (other (λ _ _. tt)) (
    either_kind (c == 43) kinds.Plus _ (other (λ _ _. tt)) (
    either_kind (c == 42) kinds.Star _ (other (λ _ _. tt)) (
    either_kind (c == 47) kinds.Slash _ (other (λ _ _. tt)) (
    either_kind (c == 94) kinds.Caret _ (other (λ _ _. tt)) (
    either_kind (c == 37) kinds.Percent _ (other (λ _ _. tt)) (
    other (λ _ _. tt))))))))))))))))))))))))))))

symbol_shape : (c : ℕ) (left text : List ℕ) → ShapeAs (symbol c) left text
symbol_shape c left text = other_in (symbol c) left text (symbol_other c)

-- what the first two characters are, by the family that they select
abbrev Facts : Family → (c d : ℕ) → Type 0
Facts opens.RawStr c d = c < 128
Facts opens.Byte c d = (c < 128) × (d ≡ 39)
Facts opens.ByteStr c d = (c < 128) × (d ≡ 34)
Facts opens.RawByteStr c d = (c < 128) × (d ≡ 114)
Facts opens.CStr c d = (c < 128) × (d ≡ 34)
Facts opens.RawCStr c d = (c < 128) × (d ≡ 114)
Facts opens.Apostrophe c d = c < 128
Facts opens.Str c d = c < 128
Facts _ c d = Unit {0}

data Known (family : Family) (c d : ℕ) : Type 0 where
  known : Facts family c d → Known family c d

known_in : (family : Family) (c d : ℕ) → Known family c d → Facts family c d
known_in family c d (known h) = h

facts : (b : Bool) (x y : Family) (c d : ℕ) → (b ≡ true → Known x c d) → (b ≡ false → Known y c d) → Known (cond b x y) c d
facts true x y c d h k = h refl
facts false x y c d h k = k refl

is_low : (c n : ℕ) → (c == n) ≡ true → n < 128 → c < 128
is_low c n h lt = omega (arith, eqb-true c n h)

opening_facts : (c d e : ℕ) → Known (opening c d e) c d
unfolding opening
opening_facts c d e =
    facts (is_whitespace c) _ _ c d (λ _. known tt) (λ _.
    facts (c == 47) _ _ c d (λ _. facts (d == 47) _ _ c d (λ _. known tt) (λ _. facts (d == 42) _ _ c d (λ _. known tt) (λ _. known tt))) (λ _.
    facts (c == 114) _ _ c d (λ h. facts ((d == 35) && is_id_start e) _ _ c d (λ _. known tt) (λ _. facts (begins_raw d) _ _ c d (λ _. known (is_low c 114 h (omega arith))) (λ _. known tt))) (λ _.
    facts (c == 98) _ _ c d
    (λ h. facts (d == 39) _ _ c d (λ k. known (is_low c 98 h (omega arith), eqb-true d 39 k)) (λ _.
    facts (d == 34) _ _ c d (λ k. known (is_low c 98 h (omega arith), eqb-true d 34 k)) (λ _.
    facts ((d == 114) && begins_raw e) _ _ c d (λ k. known (is_low c 98 h (omega arith), eqb-true d 114 (and_parts (d == 114) (begins_raw e) k).0)) (λ _. known tt)))) (λ _.
    facts (c == 99) _ _ c d
    (λ h. facts (d == 34) _ _ c d (λ k. known (is_low c 99 h (omega arith), eqb-true d 34 k)) (λ _.
    facts ((d == 114) && begins_raw e) _ _ c d (λ k. known (is_low c 99 h (omega arith), eqb-true d 114 (and_parts (d == 114) (begins_raw e) k).0)) (λ _. known tt))) (λ _.
    facts (is_id_start c) _ _ c d (λ _. known tt) (λ _.
    facts (is_decimal c) _ _ c d (λ _. known tt) (λ _.
    facts (c == 39) _ _ c d (λ h. known (is_low c 39 h (omega arith))) (λ _.
    facts (c == 34) _ _ c d (λ h. known (is_low c 34 h (omega arith))) (λ _.
    facts ((c == 35) && begins_raw d) _ _ c d (λ _. known tt) (λ _.
    facts (is_emoji_mark c) _ _ c d (λ _. known tt) (λ _. known tt)))))))))))

two_bytes : (c d : ℕ) → c < 128 → d < 128 → byte_length (c ∷ d ∷ []) ≡ 2
two_bytes c d lc ld = byte_length-both (c ∷ []) (d ∷ []) ∙ omega (arith, one_byte c lc, one_byte d ld)

-- a character or a lifetime
apostrophe_shape : (c : ℕ) (cs : List ℕ) → c < 128 → Shaped (apostrophe (c ∷ cs) cs) (c ∷ cs)
unfolding apostrophe literal
apostrophe_shape c cs lt =
    either (begins_lifetime cs) _ _ (c ∷ cs)
    (λ _. either (begins_raw_lifetime cs) _ _ (c ∷ cs) (λ _. shaped tt)
    (λ _. either (first (behind is_id_continue (skip cs)) == 39) _ _ (c ∷ cs)
    (λ h. shaped (λ closed.
    let tail = behind is_id_continue (skip cs) in
    let f = front_of (on (behind_end is_id_continue (skip cs)) (skip_end cs)) in record {
      before = c ∷ [];
      body = f.0;
      after = 39 ∷ [];
      rest = skip tail;
      text = ap (λ t. c ∷ t) (f.1 ∙ ap (λ t. f.0 ++ t) (begins tail 38 (eqb-true (first tail) 39 h)));
      open_len = one_byte c lt;
      close_len = one_byte 39 (omega arith);
      suffix = refl;
      ends = whole;
    }))
    (λ _. either ((first (behind is_id_continue (skip cs)) == 35) && not (is_decimal (first cs))) _ _ (c ∷ cs) (λ _. shaped tt) (λ _. shaped tt))))
    (λ _. shaped (λ closed. quoted_shape (c ∷ cs) (c ∷ []) cs 39 1 literals.Char (quoted_char cs) (omega arith) refl (one_byte c lt) closed (char_closed cs)))

word_shape : (cs text : List ℕ) → Shaped (word cs) text
unfolding word
word_shape cs text =
    let tail = behind is_id_continue cs in
    either (begins_literal (first tail)) _ _ text (λ _. shaped tt) (λ _. either (is_emoji_mark (first tail)) _ _ text (λ _. shaped tt) (λ _. shaped tt))

-- a kind of number has nothing before and after its value
data IsNumber (kind : LiteralKind) : Type 0 where
  numeral : ahead_of kind ≡ 0 → after_of kind ≡ 0 → IsNumber kind

one_or : (b : Bool) (x y : LiteralKind × List ℕ) → IsNumber x.0 → IsNumber y.0 → IsNumber (cond b x y).0
one_or true x y h k = h
one_or false x y h k = k

exponent_kind : (base : Base) (kind : LiteralKind) (cs : List ℕ) → IsNumber kind → IsNumber (with_exponent base kind cs).0
unfolding with_exponent
exponent_kind base kind cs h = one_or (begins_exponent cs) _ _ (numeral refl refl) h

fraction_kind : (base : Base) (cs : List ℕ) → IsNumber (with_fraction base cs).0
unfolding with_fraction
fraction_kind base cs =
    one_or (begins_fraction cs) _ _
    (one_or (is_decimal (second cs)) _ _ (exponent_kind base (literals.Float base false) (behind is_decimal_part (skip cs)) (numeral refl refl)) (numeral refl refl))
    (exponent_kind base (literals.Int base false) cs (numeral refl refl))

number_kind : (c : ℕ) (cs : List ℕ) → IsNumber (number c cs).0
unfolding number
number_kind c cs =
    let base = base_of c (first cs) in
    one_or (has_letter base) _ _
    (one_or (has_digit base (skip cs)) _ _ (fraction_kind base (behind (passes (class_of base)) (skip cs))) (numeral refl refl))
    (fraction_kind base (behind is_decimal_part cs))

number_shape : (text : List ℕ) (found : LiteralKind × List ℕ) → IsEnd found.1 text → IsNumber found.0 → ShapeAs (numeric text found).0 (numeric text found).1 text
unfolding literal
number_shape text found is_end (numeral a b) = λ closed.
    let place = byte_length text - byte_length found.1 in
    subst (λ n. Shape text (numeric text found).1 n (after_of found.0) place) (sym a)
    (subst (λ n. Shape text (numeric text found).1 0 n place) (sym b) (numeric_shape text found is_end))

plain : (cs rest : List ℕ) → behind_quote false cs ≡ (true, rest) → (body : List ℕ) × (cs ≡ body ++ 34 ∷ rest)
plain cs rest h = let f = string_closed cs rest h in (f.0, f.2)

shape_as : (f : Family) (c : ℕ) (cs : List ℕ) → Facts f c (first cs) → ShapeAs (reading_of f (c ∷ cs) cs).0 (reading_of f (c ∷ cs) cs).1 (c ∷ cs)
unfolding reading_of literal
shape_as opens.LineComment c cs h = tt
shape_as opens.BlockComment c cs h = tt
shape_as opens.Whitespace c cs h = tt
shape_as opens.RawIdent c cs h = tt
shape_as opens.Guarded c cs h = tt
shape_as opens.OddWord c cs h = tt
shape_as opens.Word c cs h = shape_in (word cs) (c ∷ cs) (word_shape cs (c ∷ cs))
shape_as opens.Symbol c cs h = symbol_shape c cs (c ∷ cs)
shape_as opens.Apostrophe c cs h = shape_in (apostrophe (c ∷ cs) cs) (c ∷ cs) (apostrophe_shape c cs h)
shape_as opens.Number c cs h = number_shape (c ∷ cs) (number c cs) (later (number_end c cs)) (number_kind c cs)
shape_as opens.Str c cs h = λ closed. quoted_shape (c ∷ cs) (c ∷ []) cs 34 1 literals.Str (behind_quote false cs) (omega arith) refl (one_byte c h) closed (plain cs)
shape_as opens.Byte c cs h = λ closed. quoted_shape (c ∷ cs) (c ∷ 39 ∷ []) (skip cs) 39 2 literals.Byte (quoted_char (skip cs)) (omega arith) (ap (λ t. c ∷ t) (begins cs 38 h.1)) (two_bytes c 39 h.0 (omega arith)) closed (char_closed (skip cs))
shape_as opens.ByteStr c cs h = λ closed. quoted_shape (c ∷ cs) (c ∷ 34 ∷ []) (skip cs) 34 2 literals.ByteStr (behind_quote false (skip cs)) (omega arith) (ap (λ t. c ∷ t) (begins cs 33 h.1)) (two_bytes c 34 h.0 (omega arith)) closed (plain (skip cs))
shape_as opens.CStr c cs h = λ closed. quoted_shape (c ∷ cs) (c ∷ 34 ∷ []) (skip cs) 34 2 literals.CStr (behind_quote false (skip cs)) (omega arith) (ap (λ t. c ∷ t) (begins cs 33 h.1)) (two_bytes c 34 h.0 (omega arith)) closed (plain (skip cs))
shape_as opens.RawStr c cs h = λ closed. raw_shape (c ∷ cs) (c ∷ []) cs 1 literals.RawStr refl (one_byte c h) closed
shape_as opens.RawByteStr c cs h = λ closed. raw_shape (c ∷ cs) (c ∷ 114 ∷ []) (skip cs) 2 literals.RawByteStr (ap (λ t. c ∷ t) (begins cs 113 h.1)) (two_bytes c 114 h.0 (omega arith)) closed
shape_as opens.RawCStr c cs h = λ closed. raw_shape (c ∷ cs) (c ∷ 114 ∷ []) (skip cs) 2 literals.RawCStr (ap (λ t. c ∷ t) (begins cs 113 h.1)) (two_bytes c 114 h.0 (omega arith)) closed

-- a literal that is closed has a shape
pub literal_shape : (c : ℕ) (cs : List ℕ) → ShapeAs (reading (c ∷ cs)).0 (reading (c ∷ cs)).1 (c ∷ cs)
unfolding reading
literal_shape c cs = shape_as (opening c (first cs) (second cs)) c cs (known_in (opening c (first cs) (second cs)) c (first cs) (opening_facts c (first cs) (second cs)))
