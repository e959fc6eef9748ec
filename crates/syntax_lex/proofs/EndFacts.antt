-- What follows a token is an end of its text.
use Rattle.std.proofs.Common.{◌≡◌, ℕ, zero, suc, ◌+◌, ◌-◌, Bool, true, false, ◌&&◌, ◌==◌, cond, List, [], ◌∷◌, drop, nat_le, refl}
use Rattle.std.proofs.lemmas.Bool.{cond_both}
use Rattle.syntax_lex.specs.Class.{is_decimal, is_decimal_part, is_id_start, is_id_continue, is_emoji_mark, is_odd_rest, passes}
use Rattle.syntax_lex.specs.Closing.{behind_comment, behind_quote, behind_raw, closes_comment, opens_comment, hashes_of, raw_body, raw_text}
use Rattle.syntax_lex.specs.Ends.{IsEnd, whole, later}
use Rattle.syntax_lex.specs.Front.{first, second, skip, behind, behind_name}
use Rattle.syntax_lex.specs.Number.{base_of, begins_exponent, begins_fraction, behind_sign, class_of, has_digit, has_letter, number, with_exponent, with_fraction}
use Rattle.syntax_lex.specs.Opening.{opening}
use Rattle.syntax_lex.specs.Quoted.{apostrophe, begins_lifetime, begins_raw_lifetime, behind_apostrophe, gives_up, literal, named, quoted_char}
use Rattle.syntax_lex.specs.Reading.{reading, reading_of}
use Rattle.syntax_lex.specs.Word.{begins_literal, word, word_before}
use Rattle.syntax_lex.specs.declared.token.LiteralKind.{LiteralKind}
use Rattle.syntax_lex.specs.declared.token.Base.{Base}
use Rattle.syntax_lex.specs.declared.opening.Family.{Family}
use Rattle.syntax_lex.specs.declared.opening.Family.TheVariants as opens

-- an end of an end
pub on : {a b c : List ℕ} → IsEnd a b → IsEnd b c → IsEnd a c
on h whole = h
on h (later k) = later (on h k)

-- the rest after either of two readings
pub left : {A : Type 0} (b : Bool) (x y : A × List ℕ) (cs : List ℕ) → (b ≡ true → IsEnd x.1 cs) → (b ≡ false → IsEnd y.1 cs) → IsEnd (cond b x y).1 cs
left true x y cs h k = h refl
left false x y cs h k = k refl

pub skip_end : (cs : List ℕ) → IsEnd (skip cs) cs
skip_end [] = whole
skip_end (c ∷ cs) = later whole

pub behind_end : (p : ℕ → Bool) (cs : List ℕ) → IsEnd (behind p cs) cs
behind_end p [] = whole
behind_end p (c ∷ cs) = cond_both (p c) (behind p cs) (c ∷ cs) (λ x. IsEnd x (c ∷ cs)) (λ _. later (behind_end p cs)) (λ _. whole)

pub drop_end : (n : ℕ) (cs : List ℕ) → IsEnd (drop n cs) cs
drop_end zero cs = whole
drop_end (suc n) [] = whole
drop_end (suc n) (c ∷ cs) = later (drop_end n cs)

pub behind_name_end : (cs : List ℕ) → IsEnd (behind_name cs) cs
behind_name_end cs = cond_both (is_id_start (first cs)) (behind is_id_continue (skip cs)) cs (λ x. IsEnd x cs) (λ _. on (behind_end _ (skip cs)) (skip_end cs)) (λ _. whole)

pub behind_sign_end : (cs : List ℕ) → IsEnd (behind_sign cs) cs
behind_sign_end cs = cond_both _ (skip cs) cs (λ x. IsEnd x cs) (λ _. skip_end cs) (λ _. whole)

pub behind_quote_end : (escaped : Bool) (cs : List ℕ) → IsEnd (behind_quote escaped cs).1 cs
behind_quote_end true [] = whole
behind_quote_end false [] = whole
behind_quote_end true (c ∷ cs) = later (behind_quote_end false cs)
behind_quote_end false (c ∷ cs) = left (c == 34) (true, cs) (behind_quote (c == 92) cs) (c ∷ cs) (λ _. later whole) (λ _. later (behind_quote_end (c == 92) cs))

pub behind_apostrophe_end : (escaped : Bool) (cs : List ℕ) → IsEnd (behind_apostrophe escaped cs).1 cs
behind_apostrophe_end true [] = whole
behind_apostrophe_end false [] = whole
behind_apostrophe_end true (c ∷ cs) = later (behind_apostrophe_end false cs)
behind_apostrophe_end false (c ∷ cs) =
    left (c == 39) (true, cs) (cond (gives_up c (first cs)) (false, c ∷ cs) (behind_apostrophe (c == 92) cs)) (c ∷ cs) (λ _. later whole)
    (λ _. left (gives_up c (first cs)) (false, c ∷ cs) (behind_apostrophe (c == 92) cs) (c ∷ cs) (λ _. whole) (λ _. later (behind_apostrophe_end (c == 92) cs)))

pub behind_comment_end : (inner : ℕ) (cs : List ℕ) → IsEnd (behind_comment inner cs).1 cs
behind_comment_end inner [] = whole
behind_comment_end inner (c ∷ []) = later whole
behind_comment_end inner (c ∷ e ∷ cs) =
    left (opens_comment c e) _ _ (c ∷ e ∷ cs) (λ _. later (later (behind_comment_end (inner + 1) cs)))
    (λ _. left (closes_comment c e) _ _ (c ∷ e ∷ cs)
    (λ _. left (inner == 0) (true, cs) (behind_comment (inner - 1) cs) (c ∷ e ∷ cs) (λ _. later (later whole)) (λ _. later (later (behind_comment_end (inner - 1) cs))))
    (λ _. later (behind_comment_end inner (e ∷ cs))))

pub behind_raw_end : (n : ℕ) (cs : List ℕ) → IsEnd (behind_raw n cs).1 cs
behind_raw_end n [] = whole
behind_raw_end n (c ∷ cs) = left ((c == 34) && nat_le n (hashes_of cs)) (true, drop n cs) (behind_raw n cs) (c ∷ cs) (λ _. later (drop_end n cs)) (λ _. later (behind_raw_end n cs))

pub raw_body_end : (n : ℕ) (cs : List ℕ) → IsEnd (raw_body n cs).1 cs
raw_body_end n cs = left (first cs == 34) _ _ cs (λ _. on (behind_raw_end n (skip cs)) (skip_end cs)) (λ _. skip_end cs)

pub raw_text_end : (cs : List ℕ) → IsEnd (raw_text cs).1 cs
unfolding raw_text
raw_text_end cs = on (raw_body_end (hashes_of cs) (drop (hashes_of cs) cs)) (drop_end (hashes_of cs) cs)

pub quoted_char_end : (cs : List ℕ) → IsEnd (quoted_char cs).1 cs
unfolding quoted_char
quoted_char_end cs = left _ (true, skip (skip cs)) (behind_apostrophe false cs) cs (λ _. on (skip_end (skip cs)) (skip_end cs)) (λ _. behind_apostrophe_end false cs)

pub literal_end : (text : List ℕ) (kind : LiteralKind) (suffixed : Bool) (cs : List ℕ) → IsEnd (literal text kind suffixed cs).1 cs
unfolding literal
literal_end text kind suffixed cs = cond_both suffixed (behind_name cs) cs (λ x. IsEnd x cs) (λ _. behind_name_end cs) (λ _. whole)

pub with_exponent_end : (base : Base) (kind : LiteralKind) (cs : List ℕ) → IsEnd (with_exponent base kind cs).1 cs
unfolding with_exponent
with_exponent_end base kind cs =
    left (begins_exponent cs) _ (kind, cs) cs (λ _. on (behind_end is_decimal_part (behind_sign (skip cs))) (on (behind_sign_end (skip cs)) (skip_end cs))) (λ _. whole)

pub with_fraction_end : (base : Base) (cs : List ℕ) → IsEnd (with_fraction base cs).1 cs
unfolding with_fraction
with_fraction_end base cs =
    left (begins_fraction cs) _ _ cs
    (λ _. left (is_decimal (second cs)) _ _ cs (λ _. on (with_exponent_end base _ (behind is_decimal_part (skip cs))) (on (behind_end is_decimal_part (skip cs)) (skip_end cs))) (λ _. skip_end cs))
    (λ _. with_exponent_end base _ cs)

pub number_end : (digit : ℕ) (cs : List ℕ) → IsEnd (number digit cs).1 cs
unfolding number
number_end digit cs =
    let base = base_of digit (first cs) in
    left (has_letter base) _ _ cs
    (λ _. left (has_digit base (skip cs)) _ _ cs
    (λ _. on (with_fraction_end base (behind (passes (class_of base)) (skip cs))) (on (behind_end (passes (class_of base)) (skip cs)) (skip_end cs)))
    (λ _. on (behind_end (passes (class_of base)) (skip cs)) (skip_end cs)))
    (λ _. on (with_fraction_end base (behind is_decimal_part cs)) (behind_end is_decimal_part cs))

pub named_end : (text : List ℕ) (n : Bool) (cs : List ℕ) → IsEnd (named text n cs).1 cs
named_end text n cs =
    left (first cs == 39) _ _ cs (λ _. on (literal_end text _ false (skip cs)) (skip_end cs))
    (λ _. left _ _ _ cs (λ _. whole) (λ _. whole))

pub apostrophe_end : (text cs : List ℕ) → IsEnd (apostrophe text cs).1 cs
unfolding apostrophe
apostrophe_end text cs =
    left (begins_lifetime cs) _ _ cs
    (λ _. left (begins_raw_lifetime cs) _ _ cs
    (λ _. on (behind_end is_id_continue (skip (skip (skip cs)))) (on (skip_end (skip (skip cs))) (on (skip_end (skip cs)) (skip_end cs))))
    (λ _. on (named_end text (is_decimal (first cs)) (behind is_id_continue (skip cs))) (on (behind_end is_id_continue (skip cs)) (skip_end cs))))
    (λ _. on (literal_end text _ _ (quoted_char cs).1) (quoted_char_end cs))

pub word_before_end : (cs : List ℕ) → IsEnd (word_before cs).1 cs
word_before_end cs =
    left (begins_literal (first cs)) _ _ cs (λ _. whole)
    (λ _. left (is_emoji_mark (first cs)) _ _ cs (λ _. behind_end is_odd_rest cs) (λ _. whole))

pub word_end : (cs : List ℕ) → IsEnd (word cs).1 cs
unfolding word
word_end cs = on (word_before_end (behind is_id_continue cs)) (behind_end is_id_continue cs)

pub reading_of_end : (family : Family) (text cs : List ℕ) → IsEnd (reading_of family text cs).1 cs
unfolding reading_of
reading_of_end opens.LineComment text cs = on (behind_end _ (skip cs)) (skip_end cs)
reading_of_end opens.BlockComment text cs = on (behind_comment_end 0 (skip cs)) (skip_end cs)
reading_of_end opens.Whitespace text cs = behind_end _ cs
reading_of_end opens.RawIdent text cs = on (behind_name_end (skip cs)) (skip_end cs)
reading_of_end opens.RawStr text cs = on (literal_end text _ _ (raw_text cs).1) (raw_text_end cs)
reading_of_end opens.Byte text cs = on (literal_end text _ _ (quoted_char (skip cs)).1) (on (quoted_char_end (skip cs)) (skip_end cs))
reading_of_end opens.ByteStr text cs = on (literal_end text _ _ (behind_quote false (skip cs)).1) (on (behind_quote_end false (skip cs)) (skip_end cs))
reading_of_end opens.RawByteStr text cs = on (literal_end text _ _ (raw_text (skip cs)).1) (on (raw_text_end (skip cs)) (skip_end cs))
reading_of_end opens.CStr text cs = on (literal_end text _ _ (behind_quote false (skip cs)).1) (on (behind_quote_end false (skip cs)) (skip_end cs))
reading_of_end opens.RawCStr text cs = on (literal_end text _ _ (raw_text (skip cs)).1) (on (raw_text_end (skip cs)) (skip_end cs))
reading_of_end opens.Word text cs = word_end cs
reading_of_end opens.Number text cs = on (literal_end text _ true (number (first text) cs).1) (number_end (first text) cs)
reading_of_end opens.Guarded text cs = skip_end cs
reading_of_end opens.Apostrophe text cs = apostrophe_end text cs
reading_of_end opens.Str text cs = on (literal_end text _ _ (behind_quote false cs).1) (behind_quote_end false cs)
reading_of_end opens.OddWord text cs = behind_end _ cs
reading_of_end opens.Symbol text cs = whole

-- the rest after the first token is an end of the rest after the first character
pub reading_end : (c : ℕ) (cs : List ℕ) → IsEnd (reading (c ∷ cs)).1 cs
unfolding reading
reading_end c cs = reading_of_end (opening c (first cs) (second cs)) (c ∷ cs) cs
