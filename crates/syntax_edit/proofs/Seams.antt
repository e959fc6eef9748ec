-- White space before a text that is made of chunks, and chunks after chunks, if their texts are joined.
use Rattle.std.proofs.Common.{◌≡◌, ◌≢◌, ℕ, Bool, true, false, List, [], ◌∷◌, ◌++◌, length, Some, refl, sym, ap, ◌∙◌, subst, arith, append_assoc, if◌then◌else◌, inl, inr, None, ap₂, ⊎_elim, append-nil}
use Rattle.std.proofs.lemmas.Bool.{not-false}
use Rattle.std.proofs.lemmas.Str.{IsUtf8-append, IsUtf8-from_ascii, chars-IsAscii, chars-append, chars-nil, IsUtf8-nil}
use Rattle.std.specs.List.{slice_get}
use Rattle.std.specs.Str.{chars, IsUtf8}
use Rattle.syntax_edit.proofs.KindFacts.{blank_read, Last, last_is, some_part, SameBefore, pieces_same, sound_role}
use Rattle.syntax_edit.proofs.Tokens.{kept_more, token_parted}
use Rattle.syntax_edit.proofs.Touches.{last_of, last_snoc, snoc, touch}
use Rattle.syntax_edit.specs.Kept.{ends_in_line, is_line, is_sound}
use Rattle.syntax_lex.proofs.Twins.{behind_none}
use Rattle.syntax_lex.specs.Stops.{is_ended}
use Rattle.syntax_edit.specs.Texts.{may_touch, wants_space, joined as with_seam}
use Rattle.syntax_lex.specs.Class.{is_whitespace}
use Rattle.syntax_lex.specs.Front.{first, behind}
use Rattle.syntax_lex.specs.Reading.{reading}
use Rattle.syntax_lex.specs.declared.token.TokenKind.TheVariants as kinds
use Rattle.syntax_parse.specs.Parsed.{next_kind}
use Rattle.syntax_parse.specs.Pieces.{pieces_of, spacing_before}
use Rattle.syntax_parse.specs.Role.{role_in}
use Rattle.syntax_parse.specs.Spelled.{Sort}
use Rattle.syntax_parse.specs.declared.bracket.Bracket.{Bracket}
use Rattle.syntax_parse.specs.declared.fault.BadToken.{BadToken}
use Rattle.syntax_parse.specs.declared.role.Role.TheVariants.{Nothing, Bad}
use Rattle.syntax_unparse.proofs.Chunks.{AreChunks, Chunk, IsChunk, joined, match, match_as, means_of, tokens_of}
use Rattle.syntax_unparse.proofs.Fronts.{text, ascii_first, not_nil}
use Rattle.syntax_unparse.proofs.KindFacts.{ascii_one}
use Rattle.syntax_unparse.specs.Settled.{sorts}
use Rattle.tt_base.specs.TreeText.{space_if}

pub match_cons : (before : List Bracket) (x : Chunk) (xs : List Chunk) → match before (x ∷ xs) ≡ match_as before x.role (λ next. match next xs)
match_cons [] x xs = refl
match_cons (last ∷ before) x xs = refl

-- chunks with this text and meaning, whose brackets match if those of the others do
pub record Made (t : List ℕ) (meaning : List Sort) (others : List Chunk) : Type 0 where
  pub new : List Chunk
  pub are : AreChunks new
  pub text_is : joined new ≡ t
  pub means : means_of new ≡ meaning
  pub matches : (before : List Bracket) → match before new ≡ match before others

-- the rest after characters that pass a test, if all in front pass
behind_all : (p : ℕ → Bool) (xs r : List ℕ) → behind p xs ≡ [] → behind p (xs ++ r) ≡ behind p r
behind_all p [] r e = refl
behind_all p (x ∷ xs) r e = go (p x) refl (λ h. behind_all p xs r h)
  where
    go : (b : Bool) → p x ≡ b → (behind p xs ≡ [] → behind p (xs ++ r) ≡ behind p r) → behind p (x ∷ (xs ++ r)) ≡ behind p r
    go true k ih = rw k (ih (subst (λ b. (if b then behind p xs else x ∷ xs) ≡ []) k e))
    go false k ih = absurd (by (subst (λ b. (if b then behind p xs else x ∷ xs) ≡ []) k e))
      where
        by : ◌≡◌ {A = List ℕ} (x ∷ xs) [] → ⊥
        by h = omega (arith, ap length h)

-- bytes that are white space
pub record IsBlank (w : List ℕ) : Type 0 where
  pub utf8 : IsUtf8 w
  pub c : ℕ
  pub cs : List ℕ
  pub letters : chars w ≡ c ∷ cs
  pub begins : is_whitespace c ≡ true
  pub all : behind is_whitespace cs ≡ []

-- a space
pub space_blank : IsBlank (32 ∷ [])
space_blank = record { utf8 = IsUtf8-from_ascii (32 ∷ []) (ascii_one 32 (omega arith)); c = 32; cs = []; letters = chars-IsAscii (32 ∷ []) (ascii_one 32 (omega arith)); begins = refl; all = refl }

-- white space that takes all of a text, with a space after it, is white space
pub blank_space : (w : List ℕ) → IsBlank w → IsBlank (w ++ 32 ∷ [])
blank_space w it = record {
  utf8 = IsUtf8-append w (32 ∷ []) it.utf8 space_blank.utf8;
  c = it.c;
  cs = it.cs ++ 32 ∷ [];
  letters = chars-append w (32 ∷ []) it.utf8 ∙ ap (λ t. t ++ chars (32 ∷ [])) it.letters ∙ ap (λ t. it.c ∷ (it.cs ++ t)) (chars-IsAscii (32 ∷ []) (ascii_one 32 (omega arith)));
  begins = it.begins;
  all = behind_all is_whitespace it.cs (32 ∷ []) it.all;
}

blank_before : (w : List ℕ) → IsBlank w → (r : List ℕ) → reading (chars w ++ r) ≡ (kinds.Whitespace, behind is_whitespace r)
blank_before w it r =
    ap (λ t. reading (t ++ r)) it.letters ∙ blank_read it.c (it.cs ++ r) it.begins ∙ ap (λ t. (kinds.Whitespace, t)) (behind_all is_whitespace it.cs r it.all)

blank_some : (w : List ℕ) → IsBlank w → chars w ≢ []
blank_some w it e = omega (arith, ap length (sym it.letters ∙ e))

-- white space as a chunk
abbrev pub blank : List ℕ → Chunk
blank w = record { text = w; kind = kinds.Whitespace; role = Nothing; means = [] }

-- a chunk that begins with white space is white space
pub record IsSpace (n : Chunk) (ns : List Chunk) : Type 0 where
  pub kind : n.kind ≡ kinds.Whitespace
  pub role : n.role ≡ Nothing
  pub means : n.means ≡ []
  pub all : behind is_whitespace (text (n ∷ ns)) ≡ text ns

pub space_chunk : (n : Chunk) (ns : List Chunk) → IsChunk n ns → is_whitespace (first (chars n.text)) ≡ true → IsSpace n ns
space_chunk n ns it is = go (chars n.text) refl
  where
    go : (letters : List ℕ) → chars n.text ≡ letters → IsSpace n ns
    go [] e = absurd (it.some e)
    go (d ∷ ds) e =
        let space : is_whitespace d ≡ true = ap (λ t. is_whitespace (first t)) (sym e) ∙ is in
        let read : reading (d ∷ (ds ++ text ns)) ≡ (n.kind, text ns) = ap (λ t. reading (t ++ text ns)) (sym e) ∙ it.reads in
        let same = sym (blank_read d (ds ++ text ns) space) ∙ read in
        let kind : n.kind ≡ kinds.Whitespace = sym (ap (λ p. p.0) same) in
        record {
          kind = kind;
          role = sym it.role ∙ ap (λ k. role_in k n.text) kind;
          means = means kind;
          all =
              ap (behind is_whitespace) (chars-append n.text (joined ns) it.utf8 ∙ ap (λ t. t ++ text ns) e)
              ∙ ap (λ b. if b then behind is_whitespace (ds ++ text ns) else d ∷ (ds ++ text ns)) space
              ∙ ap (λ p. p.1) same;
        }
      where
        means : n.kind ≡ kinds.Whitespace → n.means ≡ []
        means kind = sym (it.means some_part 0) ∙ ap (λ k. sorts (pieces_of some_part k (next_kind (tokens_of ns)) 0 n.text)) kind

pub empty_front : (xs ys : List ℕ) → xs ++ ys ≡ [] → xs ≡ []
empty_front [] ys e = refl
empty_front (x ∷ xs) ys e = absurd (omega (arith, ap length e))

-- white space with none after it
pub blank_is : (w : List ℕ) (chunks : List Chunk) → IsBlank w → behind is_whitespace (text chunks) ≡ text chunks → IsChunk (blank w) chunks
blank_is w chunks it none = record {
  utf8 = it.utf8;
  some = blank_some w it;
  reads = blank_before w it (text chunks) ∙ ap (λ t. (kinds.Whitespace, t)) none;
  role = refl;
  means = λ part at. refl;
}

-- white space before chunks merges with white space at their beginning, and changes only the text
pub spaced : (w : List ℕ) (chunks : List Chunk) → IsBlank w → AreChunks chunks → (it : Made (w ++ joined chunks) (means_of chunks) chunks) × (next_kind (tokens_of it.new) ≡ Some kinds.Whitespace)
spaced w [] it are =
    (record { new = blank w ∷ []; are = (blank_is w [] it (ap (behind is_whitespace) chars-nil ∙ sym chars-nil), are); text_is = refl; means = refl; matches = λ before. match_cons before (blank w) [] }, refl)
spaced w (n ∷ ns) it are = go (is_whitespace (first (chars n.text))) refl
  where
    front : is_whitespace (first (chars n.text)) ≡ false → is_whitespace (first (text (n ∷ ns))) ≡ false
    front e = ap (λ t. is_whitespace (first t)) (chars-append n.text (joined ns) are.0.utf8) ∙ first_of (chars n.text) are.0.some e
      where
        first_of : (letters : List ℕ) → letters ≢ [] → is_whitespace (first letters) ≡ false → is_whitespace (first (letters ++ text ns)) ≡ false
        first_of [] some h = absurd (some refl)
        first_of (d ∷ ds) some h = h

    go : (b : Bool) → is_whitespace (first (chars n.text)) ≡ b → (made : Made (w ++ joined (n ∷ ns)) (means_of (n ∷ ns)) (n ∷ ns)) × (next_kind (tokens_of made.new) ≡ Some kinds.Whitespace)
    go true e =
        let space = space_chunk n ns are.0 e in
        let merged = blank (w ++ n.text) in (
          record {
            new = merged ∷ ns;
            are = (
              record {
                utf8 = IsUtf8-append w n.text it.utf8 are.0.utf8;
                some = λ none. blank_some w it (empty_front (chars w) (chars n.text) (sym (chars-append w n.text it.utf8) ∙ none));
                reads =
                    ap (λ t. reading (t ++ text ns)) (chars-append w n.text it.utf8)
                    ∙ ap reading (append_assoc (chars w) (chars n.text) (text ns) ∙ ap (λ t. chars w ++ t) (sym (chars-append n.text (joined ns) are.0.utf8)))
                    ∙ blank_before w it (text (n ∷ ns)) ∙ ap (λ t. (kinds.Whitespace, t)) space.all;
                role = refl;
                means = λ part at. refl;
              },
              are.1,
            );
            text_is = append_assoc w n.text (joined ns);
            means = ap (λ t. t ++ means_of ns) (sym space.means);
            matches = λ before. match_cons before merged ns ∙ ap (λ role. match_as before role (λ next. match next ns)) (sym space.role) ∙ sym (match_cons before n ns);
          },
          refl,
        )
    go false e =
        (record { new = blank w ∷ n ∷ ns; are = (blank_is w (n ∷ ns) it (behind_none is_whitespace (text (n ∷ ns)) (front e)), are); text_is = refl; means = refl; matches = λ before. match_cons before (blank w) (n ∷ ns) }, refl)

-- none of the chunks is bad
abbrev pub AreSound : List Chunk → Type 0
AreSound [] = Unit {0}
AreSound (x ∷ xs) = ((why : BadToken) → role_in x.kind x.text ≡ Bad why → ⊥) × AreSound xs

-- these begin with a token of the same kind as those
abbrev pub BeginsAs : (old new : List Chunk) → Type 0
BeginsAs [] new = Unit {0}
BeginsAs (x ∷ xs) new = next_kind (tokens_of new) ≡ Some x.kind

-- the chunks of two texts that are joined
abbrev pub Seam : (front back : List Chunk) → Type 0
Seam front back = (it : Made (with_seam (joined front) (joined back)) (means_of front ++ means_of back) (front ++ back)) × BeginsAs front it.new

-- two lists of chunks that match the same open brackets also do so with one chunk before them
pub match_behind : (x : Chunk) (xs ys : List Chunk) → ((before : List Bracket) → match before xs ≡ match before ys) → (before : List Bracket) → match before (x ∷ xs) ≡ match before (x ∷ ys)
match_behind x xs ys same before =
    let all : match_as before x.role (λ next. match next xs) ≡ match_as before x.role (λ next. match next ys) = λ i. match_as before x.role (λ next. same next i) in
    match_cons before x xs ∙ all ∙ sym (match_cons before x ys)

-- a chunk that is alone, before others
chunk_before : (x : Chunk) (chunks : List Chunk) → IsChunk x [] → reading (chars x.text ++ text chunks) ≡ (x.kind, text chunks) → SameBefore x.kind None (next_kind (tokens_of chunks)) → IsChunk x chunks
chunk_before x chunks it reads same = record {
  utf8 = it.utf8;
  some = it.some;
  reads = reads;
  role = it.role;
  means = λ part at. sym (pieces_same part part x.kind None (next_kind (tokens_of chunks)) at at x.text same) ∙ it.means part at;
}

utf8_joined : (chunks : List Chunk) → AreChunks chunks → IsUtf8 (joined chunks)
utf8_joined [] are = IsUtf8-nil
utf8_joined (x ∷ xs) are = IsUtf8-append x.text (joined xs) are.0.utf8 (utf8_joined xs are.1)

-- the text of chunks has characters
pub some_text : (x : Chunk) (xs : List Chunk) → IsUtf8 x.text → chars x.text ≢ [] → text (x ∷ xs) ≢ []
some_text x xs utf8 some e = some (empty_front (chars x.text) (text xs) (sym (chars-append x.text (joined xs) utf8) ∙ e))

some_joined : (x : Chunk) (xs : List Chunk) → AreChunks (x ∷ xs) → joined (x ∷ xs) ≢ []
some_joined x xs are e = some_text x xs are.0.utf8 are.0.some (ap chars e ∙ chars-nil)

-- the kind of the first chunk is that of the first token of the text
kind_first : (x : Chunk) (xs : List Chunk) (f : ℕ) (fs : List ℕ) → AreChunks (x ∷ xs) → text (x ∷ xs) ≡ f ∷ fs → (reading (f ∷ fs)).0 ≡ x.kind
kind_first x xs f fs are e = ap (λ t. (reading t).0) (sym e ∙ chars-append x.text (joined xs) are.0.utf8) ∙ ap (λ p. p.0) are.0.reads

pub letters_there : (cs : List ℕ) → cs ≢ [] → (f : ℕ) × (fs : List ℕ) × (cs ≡ f ∷ fs)
letters_there [] some = absurd (some refl)
letters_there (f ∷ fs) some = (f, fs, refl)

-- a single token that touches chunks which may touch it
touching : (x : Chunk) (n : Chunk) (ns : List Chunk) (c : ℕ) (cs : List ℕ) → IsChunk x [] → AreChunks (n ∷ ns) → chars x.text ≡ c ∷ cs → reading (c ∷ cs) ≡ (x.kind, []) → is_sound x.kind ≡ true → is_line x.kind ≡ false
    → is_whitespace c ≡ false → wants_space (last_of x.text) (slice_get (joined (n ∷ ns)) 0) ≡ false → IsChunk x (n ∷ ns)
touching x n ns c cs it are letters read sound line space wants =
    ⊎_elim (λ fixed. chunk_before x (n ∷ ns) it (ap (λ t. reading (t ++ text (n ∷ ns))) letters ∙ fixed.0 (text (n ∷ ns))) (inr fixed.1)) by_touch (last_is c cs x.kind space read sound line)
  where
    by_touch : is_ended x.kind ≡ true → IsChunk x (n ∷ ns)
    by_touch ended =
        let (front, l, ends) = snoc x.text (λ e. it.some (ap chars e ∙ chars-nil)) in
        let last : last_of x.text ≡ Some l = ap last_of ends ∙ last_snoc front l in
        let (b, bytes, byte) = letters_there (joined (n ∷ ns)) (some_joined n ns are) in
        let (f, fs, marks) = letters_there (text (n ∷ ns)) (some_text n ns are.0.utf8 are.0.some) in
        let may : may_touch l b ≡ true = not-false (may_touch l b) (sym (ap₂ wants_space last (ap (λ u. slice_get u 0) byte)) ∙ wants) in
        let it2 = touch x.text (joined (n ∷ ns)) c cs x.kind f fs l b it.utf8 (utf8_joined (n ∷ ns) are) letters marks last (ap (λ u. slice_get u 0) byte) read sound ended space may in
        chunk_before x (n ∷ ns) it
        (ap₂ (λ t u. reading (t ++ u)) letters marks ∙ it2.read ∙ ap (λ t. (x.kind, t)) (sym marks))
        (subst (λ k. SameBefore x.kind None (Some k)) (kind_first n ns f fs are marks) it2.same)

-- a single token before white space that begins with a space
spacing : (x : Chunk) (chunks more : List Chunk) (c : ℕ) (cs : List ℕ) → joined more ≡ 32 ∷ joined chunks → next_kind (tokens_of more) ≡ Some kinds.Whitespace → IsChunk x [] → chars x.text ≡ c ∷ cs → reading (c ∷ cs) ≡ (x.kind, [])
    → is_sound x.kind ≡ true → is_line x.kind ≡ false → is_whitespace c ≡ false → IsChunk x more
spacing x chunks more c cs are next it letters read sound line space =
    chunk_before x more it (ap₂ (λ t u. reading (t ++ u)) letters begins ∙ by (last_is c cs x.kind space read sound line) ∙ ap (λ t. (x.kind, t)) (sym begins)) (inl (ap spacing_before (sym next)))
  where
    begins : text more ≡ 32 ∷ text chunks
    begins = ap chars are ∙ ascii_first 32 (joined chunks) (omega arith)

    by : Last c cs x.kind → reading (c ∷ (cs ++ 32 ∷ text chunks)) ≡ (x.kind, 32 ∷ text chunks)
    by (inl fixed) = fixed.0 (32 ∷ text chunks)
    by (inr ended) = token_parted (c ∷ cs) (text chunks) 32 x.kind (not_nil c cs) read sound ended refl

blank_if : (due : Bool) (w : List ℕ) → IsBlank w → IsBlank (w ++ space_if due)
blank_if true w it = blank_space w it
blank_if false w it = subst IsBlank (sym (append-nil w)) it

-- the last chunk, and others after it
seam_end : (x : Chunk) (chunks : List Chunk) → IsChunk x [] → is_sound x.kind ≡ true → is_line x.kind ≡ false → AreChunks chunks → Seam (x ∷ []) chunks
seam_end x chunks it sound line are =
    let (c, cs, letters) = letters_there (chars x.text) it.some in
    let read : reading (c ∷ cs) ≡ (x.kind, []) =
    ap reading (sym letters ∙ sym (append-nil (chars x.text)) ∙ ap (λ t. chars x.text ++ t) (sym chars-nil)) ∙ it.reads ∙ ap (λ t. (x.kind, t)) chars-nil in
    go c cs letters read (is_whitespace c) refl
  where
    due : Bool
    due = wants_space (last_of x.text) (slice_get (joined chunks) 0)

    whole : x.text ++ (space_if due ++ joined chunks) ≡ with_seam (x.text ++ []) (joined chunks)
    whole =
        sym (append_assoc x.text (space_if due) (joined chunks))
        ∙ ap (λ t. (t ++ space_if (wants_space (last_of t) (slice_get (joined chunks) 0))) ++ joined chunks) (sym (append-nil x.text))

    -- what follows a chunk that is no white space
    after : (c : ℕ) (cs : List ℕ) → chars x.text ≡ c ∷ cs → reading (c ∷ cs) ≡ (x.kind, []) → is_whitespace c ≡ false → (b : Bool) → due ≡ b → (more : Made (space_if b ++ joined chunks) (means_of chunks) chunks) × IsChunk x more.new
    after c cs letters read space true e =
        let (more, next) = spaced (32 ∷ []) chunks space_blank are in (more, spacing x chunks more.new c cs more.text_is next it letters read sound line space)
    after c cs letters read space false e = (record { new = chunks; are = are; text_is = refl; means = refl; matches = λ before. refl }, behind chunks are e)
      where
        behind : (more : List Chunk) → AreChunks more → wants_space (last_of x.text) (slice_get (joined more) 0) ≡ false → IsChunk x more
        behind [] fine k = it
        behind (n ∷ ns) fine k = touching x n ns c cs it fine letters read sound line space k

    go : (c : ℕ) (cs : List ℕ) → chars x.text ≡ c ∷ cs → reading (c ∷ cs) ≡ (x.kind, []) → (white : Bool) → is_whitespace c ≡ white → Seam (x ∷ []) chunks
    go c cs letters read true space =
        let known = space_chunk x [] it (ap (λ t. is_whitespace (first t)) letters ∙ space) in
        let w = x.text ++ space_if due in
        let (more, next) = spaced w chunks (blank_if due x.text (record { utf8 = it.utf8; c = c; cs = cs; letters = letters; begins = space; all = ap (λ p. p.1) (sym (blank_read c cs space) ∙ read) })) are in (
          record {
            new = more.new;
            are = more.are;
            text_is = more.text_is ∙ append_assoc x.text (space_if due) (joined chunks) ∙ whole;
            means = more.means ∙ ap (λ t. (t ++ []) ++ means_of chunks) (sym known.means);
            matches = λ before. more.matches before ∙ sym (match_cons before x chunks ∙ ap (λ role. match_as before role (λ next. match next chunks)) known.role);
          },
          next ∙ ap Some (sym known.kind),
        )
    go c cs letters read false space =
        let (more, is) = after c cs letters read space due refl in (
          record {
            new = x ∷ more.new;
            are = (is, more.are);
            text_is = ap (λ t. x.text ++ t) more.text_is ∙ whole;
            means = ap (λ t. x.means ++ t) more.means ∙ ap (λ t. t ++ means_of chunks) (sym (append-nil x.means));
            matches = match_behind x more.new chunks more.matches;
          },
          refl,
        )

pub last_append : (s t : List ℕ) → t ≢ [] → last_of (s ++ t) ≡ last_of t
last_append s t some =
    let (front, l, e) = snoc t some in
    ap last_of (ap (λ u. s ++ u) e ∙ sym (append_assoc s front (l ∷ []))) ∙ last_snoc (s ++ front) l ∙ sym (ap last_of e ∙ last_snoc front l)

-- a text before it changes no seam
seam_front : (s t u : List ℕ) → t ≢ [] → with_seam (s ++ t) u ≡ s ++ with_seam t u
seam_front s t u some =
    let space = space_if (wants_space (last_of t) (slice_get u 0)) in
    ap (λ l. ((s ++ t) ++ space_if (wants_space l (slice_get u 0))) ++ u) (last_append s t some)
    ∙ ap (λ w. w ++ u) (append_assoc s t space)
    ∙ append_assoc s (t ++ space) u

-- chunks after chunks, with a space between them if one is due
pub seam : (front back : List Chunk) → AreChunks front → AreSound front → ends_in_line (tokens_of front) ≡ false → AreChunks back → Seam front back
seam [] back are sound line fine = (record { new = back; are = fine; text_is = refl; means = refl; matches = λ before. refl }, tt)
seam (x ∷ []) back are sound line fine = seam_end x back are.0 (sound_role x.kind x.text sound.0) line fine
seam (x ∷ y ∷ front) back are sound line fine =
    let (inner, begins) = seam (y ∷ front) back are.1 sound.1 line fine in
    let t = joined (y ∷ front) in
    let space = space_if (wants_space (last_of t) (slice_get (joined back) 0)) in
    let rest = space ++ joined back in
    let letters : text inner.new ≡ chars t ++ chars rest = ap chars (inner.text_is ∙ append_assoc t space (joined back)) ∙ chars-append t rest (utf8_joined (y ∷ front) are.1) in
    let it = are.0 in (
      record {
        new = x ∷ inner.new;
        are = (
          record {
            utf8 = it.utf8;
            some = it.some;
            reads =
                ap (λ u. reading (chars x.text ++ u)) letters ∙ kept_more (chars x.text) (chars t) (chars rest) x.kind it.some (some_text y front are.1.0.utf8 are.1.0.some) it.reads (sound_role x.kind x.text sound.0)
                ∙ ap (λ u. (x.kind, u)) (sym letters);
            role = it.role;
            means = λ part at. ap (λ n. sorts (pieces_of part x.kind n at x.text)) begins ∙ it.means part at;
          },
          inner.are,
        );
        text_is = ap (λ u. x.text ++ u) inner.text_is ∙ sym (seam_front x.text t (joined back) (some_joined y front are.1));
        means = ap (λ u. x.means ++ u) inner.means ∙ sym (append_assoc x.means (means_of (y ∷ front)) (means_of back));
        matches = match_behind x inner.new ((y ∷ front) ++ back) inner.matches;
      },
      refl,
    )
