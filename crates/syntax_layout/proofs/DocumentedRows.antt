-- Examples of attributes and of the comments that replace them. Each holds by computation.
use Rattle.std.proofs.Common.{◌≡◌, ◌≢◌, ℕ, zero, suc, Bool, true, false, ◌==◌, ◌&&◌, List, [], ◌∷◌, ◌++◌, take, drop, None, Some, codes, refl, sym, ap, ◌∙◌, subst, arith}
use Rattle.std.proofs.lemmas.Bool.{and_parts, false≢true}
use Rattle.std.proofs.lemmas.List.{take-append-drop}
use Rattle.std.proofs.lemmas.Str.{IsUtf8-nil, chars-nil}
use Rattle.std.specs.List.{list_any}
use Rattle.std.specs.Prelude.{not}
use Rattle.std.specs.Str.{IsUtf8, chars}
use Rattle.syntax_layout.proofs.CommentChunks.{utf8_more}
use Rattle.syntax_layout.specs.Documented.{IsDocumented, IsReplaced, attribute_opening, becomes, comment, documents, first_line_end, is_line_end, is_white, nothing, raw_string, stays}
use Rattle.syntax_lex.specs.Closing.{raw_text}
use Rattle.syntax_lex.specs.Front.{byte_length}
use Rattle.syntax_lex.specs.Number.{number, with_exponent, with_fraction}
use Rattle.syntax_lex.specs.Opening.{opening, symbol}
use Rattle.syntax_lex.specs.Quoted.{apostrophe, literal, quoted_char}
use Rattle.syntax_lex.specs.Reading.{first_token_of, reading, reading_of}
use Rattle.syntax_lex.specs.Word.{word}
use Rattle.syntax_lex.specs.declared.token.DocStyle.{DocStyle}
use Rattle.syntax_lex.specs.declared.token.DocStyle.TheVariants.{Outer, Inner}
use Rattle.ucd_emoji.proofs.Computing.{ucd_emoji}
use Rattle.unicode_ident.proofs.Computing.{unicode_ident}

-- an attribute with a text, and what follows it
abbrev attribute : DocStyle → (doc behind : List ℕ) → List ℕ
attribute style doc behind = attribute_opening style ++ (raw_string doc ++ 93 ∷ behind)

-- attributes and the comments with the same texts: with quotes and hashes in the text, of both styles, and with no text
texts : (attribute Outer (codes " a") (codes "\n") ≡ codes "#[doc = r\" a\"]\n") × (comment Outer (codes " a") ≡ codes "/// a")
    × (attribute Inner (codes " a") (codes "\n") ≡ codes "# ![doc = r\" a\"]\n") × (comment Inner (codes " a") ≡ codes "//! a")
    × (attribute Outer (codes "\"a\"") [] ≡ codes "#[doc = r#\"\"a\"\"#]") × (comment Outer (codes "\"a\"") ≡ codes "///\"a\"")
    × (attribute Outer (codes "\"#") [] ≡ codes "#[doc = r##\"\"#\"##]")
    × (attribute Outer (codes "a # b") [] ≡ codes "#[doc = r\"a # b\"]")
    × (attribute Outer [] [] ≡ codes "#[doc = r\"\"]") × (comment Outer [] ≡ codes "///")
texts = (refl, refl, refl, refl, refl, refl, refl, refl, refl, refl)

-- the ends of lines behind an attribute: spaces before one are dropped, and its carriage return is kept
ends : (first_line_end (codes "\nx") ≡ Some ([], codes "\nx"))
    × (first_line_end (codes "  \nx") ≡ Some ([], codes "\nx"))
    × (first_line_end (codes "\r\nx") ≡ Some (codes "\r", codes "\nx"))
    × (first_line_end (codes " \r\n") ≡ Some (codes "\r", codes "\n"))
ends = (refl, refl, refl, refl)

-- An attribute stays if no end of a line follows: another token, a tab, a bare carriage return, the end of the text. It also stays if its
-- text has an end of a line, or begins with a slash.
stay : (first_line_end (codes " pub fn f() {}\n") ≡ None)
    × (first_line_end (codes "\t\n") ≡ None)
    × (first_line_end (codes "\rx\n") ≡ None)
    × (first_line_end (codes "  ") ≡ None)
    × (list_any is_line_end (codes " a\n b") ≡ true)
    × (list_any is_line_end (codes " a\r") ≡ true)
    × (list_any is_line_end (codes " a") ≡ false)
    × (documents (codes "/ a") ≡ false)
    × (documents (codes " / a") ≡ true)
    × (documents [] ≡ true)
stay = (refl, refl, refl, refl, refl, refl, refl, refl, refl, refl)

letters : IsUtf8 (codes " \"a")
letters = utf8_more 32 (codes "\"a") (omega arith) (utf8_more 34 (codes "a") (omega arith) (utf8_more 97 [] (omega arith) IsUtf8-nil))

-- an attribute that is replaced
replaced : IsReplaced Outer (codes " \"a") (codes "\r") (codes "\nb") (codes "#[doc = r#\" \"a\"#] \r\nb")
replaced = record {
  literal = codes "r#\" \"a\"#] \r\nb";
  behind = codes " \r\nb";
  opens = refl;
  closed = record { utf8 = letters; is = refl; few = omega arith };
  line = refl;
  documents = refl;
  ends = refl;
}

-- whether no `#` follows white space or nothing, within so many tokens that are all
abbrev has_no_hash : (most : ℕ) → (begins : Bool) → (text : List ℕ) → Bool
has_no_hash zero begins [] = true
has_no_hash zero begins (b ∷ bs) = false
has_no_hash (suc most) begins [] = true
has_no_hash (suc most) begins (b ∷ bs) =
    not (begins && (b == 35)) && has_no_hash most (is_white (first_token_of (chars (b ∷ bs))).kind) (drop (first_token_of (chars (b ∷ bs))).len (b ∷ bs))

hash_ahead : (style : DocStyle) (more : List ℕ) (most : ℕ) → has_no_hash most true (attribute_opening style ++ more) ≡ true → ⊥
hash_ahead Outer more zero h = false≢true h
hash_ahead Inner more zero h = false≢true h
hash_ahead Outer more (suc most) h = false≢true h
hash_ahead Inner more (suc most) h = false≢true h

none_behind : (most : ℕ) (begins : Bool) (text : List ℕ) → chars text ≢ [] → has_no_hash most begins text ≡ true
    → (left : ℕ) × (has_no_hash left (is_white (first_token_of (chars text)).kind) (drop (first_token_of (chars text)).len text) ≡ true)
none_behind most begins [] some h = absurd (some chars-nil)
none_behind zero begins (b ∷ bs) some h = absurd (false≢true h)
none_behind (suc most) begins (b ∷ bs) some h = (most, (and_parts (not (begins && (b == 35))) _ h).1)

-- then nothing else is written of the text
stays_whole : (most : ℕ) {begins : Bool} {text written : List ℕ} → has_no_hash most begins text ≡ true → IsDocumented begins text written → written ≡ text
stays_whole most h nothing = refl
stays_whole most {text = text} h (becomes {style = style} it behind) = absurd (hash_ahead style it.literal most (subst (λ t. has_no_hash most true t ≡ true) it.opens h))
stays_whole most {begins = begins} {text = text} h (stays {token = token} some is none behind) =
    let left = none_behind most begins text some h in
    let same = stays_whole left.0 (subst (λ t. has_no_hash left.0 (is_white t.kind) (drop t.len text) ≡ true) (sym is) left.1) behind in
    ap (λ w. take token.len text ++ w) same ∙ take-append-drop token.len text

-- an attribute stays if a token precedes it that is no white space
unparted : (written : List ℕ) → IsDocumented true (codes "a#[doc = r\" b\"]\n") written → written ≡ codes "a#[doc = r\" b\"]\n"
unfolding chars first_token_of reading reading_of opening symbol word number with_fraction with_exponent literal quoted_char apostrophe raw_text byte_length unicode_ident ucd_emoji lib.Utf8.encode
unparted written it = stays_whole 10 refl it
