-- Chunks with a space before them.
use Rattle.std.proofs.Common.{◌≡◌, ◌≢◌, ℕ, ◌<◌, Bool, true, false, List, [], ◌∷◌, ◌++◌, Some, refl, sym, ap, ◌∙◌, arith}
use Rattle.std.proofs.lemmas.Str.{IsUtf8-append, IsUtf8-from_ascii, chars-append, chars-nil}
use Rattle.std.specs.Str.{chars}
use Rattle.syntax_edit.proofs.KindFacts.{blank_read}
use Rattle.syntax_edit.proofs.Seams.{match_cons, space_blank, space_chunk}
use Rattle.syntax_edit.specs.Kept.{ends_in_line}
use Rattle.syntax_lex.proofs.Twins.{behind_none}
use Rattle.syntax_lex.specs.Class.{is_whitespace}
use Rattle.syntax_lex.specs.Front.{behind, first}
use Rattle.syntax_lex.specs.Reading.{reading}
use Rattle.syntax_lex.specs.declared.token.TokenKind.TheVariants as kinds
use Rattle.syntax_parse.specs.Parsed.{next_kind}
use Rattle.syntax_parse.specs.declared.bracket.Bracket.{Bracket}
use Rattle.syntax_parse.specs.declared.role.Role.TheVariants.{Nothing}
use Rattle.syntax_unparse.proofs.Chunks.{AreChunks, Chunk, IsChunk, joined, match, match_as, means_of, tokens_of}
use Rattle.syntax_unparse.proofs.Fronts.{ascii_first, not_nil, text}
use Rattle.syntax_unparse.proofs.KindFacts.{ascii_one}

-- a chunk that means nothing does not change the open brackets
pub blank_match : (before : List Bracket) (x : Chunk) (xs : List Chunk) → x.role ≡ Nothing → match before (x ∷ xs) ≡ match before xs
blank_match before x xs none = match_cons before x xs ∙ ap (λ role. match_as before role (λ next. match next xs)) none

-- chunks with bytes before them that mean nothing
pub record Put (front : List ℕ) (tail : List Chunk) : Type 0 where
  pub new : List Chunk
  pub are : AreChunks new
  pub text_is : joined new ≡ front ++ joined tail
  pub means : means_of new ≡ means_of tail
  pub matches : (before : List Bracket) → match before new ≡ match before tail
  pub line : ends_in_line (tokens_of tail) ≡ false → ends_in_line (tokens_of new) ≡ false

-- white space as a chunk
abbrev pub white : List ℕ → Chunk
white w = record { text = w; kind = kinds.Whitespace; role = Nothing; means = [] }

space_read : (r : List ℕ) → reading (chars (32 ∷ []) ++ r) ≡ (kinds.Whitespace, behind is_whitespace r)
space_read r = ap (λ t. reading (t ++ r)) (ascii_first 32 [] (omega arith) ∙ ap (λ t. 32 ∷ t) chars-nil) ∙ blank_read 32 r refl

some_space : (t : List ℕ) → chars (32 ∷ t) ≢ []
some_space t e = by (sym (ascii_first 32 t (omega arith)) ∙ e)
  where
    by : 32 ∷ chars t ≡ [] → ⊥
    by h = cc

-- a space before what begins with no white space
pub space_is : (chunks : List Chunk) → behind is_whitespace (text chunks) ≡ text chunks → IsChunk (white (32 ∷ [])) chunks
space_is chunks none = record {
  utf8 = space_blank.utf8;
  some = λ e. some_space [] e;
  reads = space_read (text chunks) ∙ ap (λ t. (kinds.Whitespace, t)) none;
  role = refl;
  means = λ part at. refl;
}

-- white space of ASCII before white space
pub merged_is : (b : ℕ) (n : Chunk) (ns : List Chunk) → b < 128 → is_whitespace b ≡ true → IsChunk n ns → behind is_whitespace (text (n ∷ ns)) ≡ text ns → IsChunk (white (b ∷ n.text)) ns
merged_is b n ns low blank it all =
    let letters : chars (b ∷ n.text) ≡ b ∷ chars n.text = ascii_first b n.text low in
    record {
      utf8 = IsUtf8-append (b ∷ []) n.text (IsUtf8-from_ascii (b ∷ []) (ascii_one b low)) it.utf8;
      some = λ e. not_nil b (chars n.text) (sym letters ∙ e);
      reads =
          ap (λ t. reading (t ++ text ns)) letters ∙ blank_read b (chars n.text ++ text ns) blank
          ∙ ap (λ t. (kinds.Whitespace, t)) (ap (behind is_whitespace) (sym (chars-append n.text (joined ns) it.utf8)) ∙ all);
      role = refl;
      means = λ part at. refl;
    }

pub first_letter : (letters more : List ℕ) → letters ≢ [] → first (letters ++ more) ≡ first letters
first_letter [] more some = absurd (some refl)
first_letter (c ∷ cs) more some = refl

-- chunks with a space before them, and white space is their first token
pub put_space : (tail : List Chunk) → AreChunks tail → (it : Put (32 ∷ []) tail) × (next_kind (tokens_of it.new) ≡ Some kinds.Whitespace)
put_space [] are = (
  record {
    new = white (32 ∷ []) ∷ [];
    are = (space_is [] (ap (behind is_whitespace) chars-nil ∙ sym chars-nil), are);
    text_is = refl;
    means = refl;
    matches = λ before. blank_match before (white (32 ∷ [])) [] refl;
    line = λ h. refl;
  },
  refl,
)
put_space (n ∷ ns) are = go (is_whitespace (first (chars n.text))) refl
  where
    go : (b : Bool) → is_whitespace (first (chars n.text)) ≡ b → (it : Put (32 ∷ []) (n ∷ ns)) × (next_kind (tokens_of it.new) ≡ Some kinds.Whitespace)
    go true e =
        let known = space_chunk n ns are.0 e in
        let merged = white (32 ∷ n.text) in (
          record {
            new = merged ∷ ns;
            are = (merged_is 32 n ns (omega arith) refl are.0 known.all, are.1);
            text_is = refl;
            means = ap (λ t. t ++ means_of ns) (sym known.means);
            matches = λ before. blank_match before merged ns refl ∙ sym (blank_match before n ns known.role);
            line = by ns;
          },
          refl,
        )
      where
        by : (ns : List Chunk) → ends_in_line (tokens_of (n ∷ ns)) ≡ false → ends_in_line (tokens_of (white (32 ∷ n.text) ∷ ns)) ≡ false
        by [] h = refl
        by (m ∷ ms) h = h
    go false e =
        let apart : is_whitespace (first (text (n ∷ ns))) ≡ false =
        ap (λ t. is_whitespace (first t)) (chars-append n.text (joined ns) are.0.utf8) ∙ ap is_whitespace (first_letter (chars n.text) (text ns) are.0.some) ∙ e in (
          record {
            new = white (32 ∷ []) ∷ n ∷ ns;
            are = (space_is (n ∷ ns) (behind_none is_whitespace (text (n ∷ ns)) apart), are);
            text_is = refl;
            means = refl;
            matches = λ before. blank_match before (white (32 ∷ [])) (n ∷ ns) refl;
            line = λ h. h;
          },
          refl,
        )
