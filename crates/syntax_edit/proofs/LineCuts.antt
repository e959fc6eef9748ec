-- The chunks of a text, if the blank line at its beginning or its end goes.
use Rattle.std.proofs.Common.{◌≡◌, ◌≢◌, ◌<◌, ◌⊎◌, inl, inr, ℕ, Bool, true, false, List, [], ◌∷◌, ◌++◌, length, Some, refl, sym, ap, ap₂, ◌∙◌, subst, arith, append-nil, append_assoc, length-append, if◌then◌else◌}
use Rattle.std.proofs.lemmas.Bool.{and_parts, false≢true}
use Rattle.std.proofs.lemmas.List.{nil_from_length}
use Rattle.std.proofs.lemmas.Str.{IsUtf8-append, IsUtf8-from_ascii, IsUtf8-nil, chars-append, chars-nil}
use Rattle.std.specs.Str.{chars, IsUtf8}
use Rattle.syntax_edit.proofs.Blanks.{are_blank, blank_both}
use Rattle.syntax_edit.proofs.Connecting.{one_blank}
use Rattle.syntax_edit.proofs.DocTexts.{utf8_before, utf8_behind}
use Rattle.syntax_edit.proofs.KindFacts.{blank_read, sound_role}
use Rattle.syntax_edit.proofs.Seams.{AreSound, IsBlank, IsSpace, Made, blank, blank_is, letters_there, match_behind, match_cons, some_text, space_chunk, spaced}
use Rattle.syntax_edit.proofs.Sources.{head_of, tail_of}
use Rattle.syntax_edit.proofs.Tokens.{kept_alone}
use Rattle.syntax_edit.proofs.Touches.{snoc}
use Rattle.syntax_edit.proofs.Whites.{white_between, white_first, white_last}
use Rattle.syntax_edit.specs.Kept.{ends_in_line, is_line, is_parting, is_sound}
use Rattle.syntax_edit.specs.Lines.{is_blank}
use Rattle.syntax_lex.proofs.ByteFacts.{behind_head}
use Rattle.syntax_lex.proofs.FrontFacts.{empty_from_chars}
use Rattle.syntax_lex.specs.Class.{is_whitespace}
use Rattle.syntax_lex.specs.Front.{behind, first}
use Rattle.syntax_lex.specs.Reading.{reading}
use Rattle.syntax_lex.specs.declared.token.TokenKind.{TokenKind}
use Rattle.syntax_lex.specs.declared.token.TokenKind.TheVariants as kinds
use Rattle.syntax_parse.specs.Parsed.{next_kind}
use Rattle.syntax_parse.specs.Pieces.{pieces_of}
use Rattle.syntax_parse.specs.declared.bracket.Bracket.{Bracket}
use Rattle.syntax_unparse.proofs.Chunks.{AreChunks, Chunk, IsChunk, joined, match, match_as, means_of, tokens_of}
use Rattle.syntax_unparse.proofs.Fronts.{text, ascii_first, not_nil}
use Rattle.syntax_unparse.proofs.KindFacts.{ascii_one}
use Rattle.syntax_unparse.specs.Settled.{sorts}

-- an ASCII byte that is white space, and separates tokens
record White (b : ℕ) : Type 0 where
  pub ascii : b < 128
  pub white : is_whitespace b ≡ true
  pub parts : is_parting b ≡ true

abbrev AreWhite : List ℕ → Type 0
AreWhite [] = Unit {0}
AreWhite (b ∷ bs) = White b × AreWhite bs

white_feed : White 10
white_feed = record { ascii = omega arith; white = refl; parts = refl }

white_blank : (b : ℕ) → is_blank b ≡ true → White b × (b ≢ 10)
white_blank b = one_blank (λ n. White n × (n ≢ 10)) b (here 32 (omega arith) refl refl (λ e. omega (arith, e))) (here 9 (omega arith) refl refl (λ e. omega (arith, e))) (here 13 (omega arith) refl refl (λ e. omega (arith, e)))
  where
    here : (n : ℕ) → n < 128 → is_whitespace n ≡ true → is_parting n ≡ true → n ≢ 10 → White n × (n ≢ 10)
    here n low white parts other = (record { ascii = low; white = white; parts = parts }, other)

blanks_white : (w : List ℕ) → are_blank w ≡ true → AreWhite w
blanks_white [] is = tt
blanks_white (b ∷ w) is = let both = and_parts (is_blank b) (are_blank w) is in ((white_blank b both.0).0, blanks_white w both.1)

-- the characters after such bytes, and before them
white_front : (w t : List ℕ) → AreWhite w → chars (w ++ t) ≡ w ++ chars t
white_front [] t all = refl
white_front (b ∷ w) t all = ascii_first b (w ++ t) all.0.ascii ∙ ap (λ u. b ∷ u) (white_front w t all.1)

white_utf8 : (w : List ℕ) → AreWhite w → IsUtf8 w
white_utf8 [] all = IsUtf8-nil
white_utf8 (b ∷ w) all = IsUtf8-append (b ∷ []) w (IsUtf8-from_ascii (b ∷ []) (ascii_one b all.0.ascii)) (white_utf8 w all.1)

utf8_past : (w t : List ℕ) → AreWhite w → IsUtf8 (w ++ t) → IsUtf8 t
utf8_past [] t all utf8 = utf8
utf8_past (b ∷ w) t all utf8 = utf8_past w t all.1 (utf8_behind b (w ++ t) all.0.ascii utf8)

white_back : (t w : List ℕ) → AreWhite w → IsUtf8 (t ++ w) → IsUtf8 t × (chars (t ++ w) ≡ chars t ++ w)
white_back t w all utf8 =
    let fine = utf8_before t w (white_utf8 w all) utf8 in
    (fine, chars-append t w fine ∙ ap (λ u. chars t ++ u) (ap chars (sym (append-nil w)) ∙ white_front w [] all ∙ ap (λ u. w ++ u) chars-nil ∙ append-nil w))

-- the last of them
last_white : (front : List ℕ) (l : ℕ) → AreWhite (front ++ l ∷ []) → White l
last_white [] l all = all.0
last_white (b ∷ front) l all = last_white front l all.1

-- a line feed in two parts of a text is in the first or in the second
feed_in : (x rest s w : List ℕ) → x ++ rest ≡ s ++ 10 ∷ w → ((more : List ℕ) × (s ≡ x ++ more) × (rest ≡ more ++ 10 ∷ w)) ⊎ ((less : List ℕ) × (x ≡ s ++ 10 ∷ less) × (w ≡ less ++ rest))
feed_in [] rest s w e = inl (s, refl, e)
feed_in (c ∷ x) rest [] w e = inr (x, ap (λ d. d ∷ x) (head_of e), sym (tail_of e))
feed_in (c ∷ x) rest (d ∷ s) w e = by (feed_in x rest s w (tail_of e))
  where
    by : ((more : List ℕ) × (s ≡ x ++ more) × (rest ≡ more ++ 10 ∷ w)) ⊎ ((less : List ℕ) × (x ≡ s ++ 10 ∷ less) × (w ≡ less ++ rest))
        → ((more : List ℕ) × (d ∷ s ≡ c ∷ (x ++ more)) × (rest ≡ more ++ 10 ∷ w)) ⊎ ((less : List ℕ) × (c ∷ x ≡ d ∷ (s ++ 10 ∷ less)) × (w ≡ less ++ rest))
    by (inl (more, same, others)) = inl (more, ap₂ (λ a b. a ∷ b) (sym (head_of e)) same, others)
    by (inr (less, same, others)) = inr (less, ap₂ (λ a b. a ∷ b) (head_of e) same, others)

-- a run of characters that takes all of a text takes all of its front; one that leaves a rest takes all before it
run_front : (p : ℕ → Bool) (xs ys : List ℕ) → behind p (xs ++ ys) ≡ [] → behind p xs ≡ []
run_front p [] ys e = refl
run_front p (x ∷ xs) ys e = by (p x) refl (λ h. run_front p xs ys h) e
  where
    by : (b : Bool) → p x ≡ b → (behind p (xs ++ ys) ≡ [] → behind p xs ≡ []) → (if b then behind p (xs ++ ys) else x ∷ (xs ++ ys)) ≡ [] → (if b then behind p xs else x ∷ xs) ≡ []
    by true k more h = more h
    by false k more h = absurd (omega (arith, ap length h))

run_before : (p : ℕ → Bool) (xs r : List ℕ) → behind p (xs ++ r) ≡ r → behind p xs ≡ []
run_before p [] r e = refl
run_before p (x ∷ xs) r e = by (p x) refl (λ h. run_before p xs r h) e
  where
    by : (b : Bool) → p x ≡ b → (behind p (xs ++ r) ≡ r → behind p xs ≡ []) → (if b then behind p (xs ++ r) else x ∷ (xs ++ r)) ≡ r → (if b then behind p xs else x ∷ xs) ≡ []
    by true k more h = more h
    by false k more h = absurd (omega (arith, ap length h, length-append xs r))

run_first : (p : ℕ → Bool) (x : ℕ) (xs : List ℕ) → behind p (x ∷ xs) ≡ [] → p x ≡ true
run_first p x xs e = by (p x) refl e
  where
    by : (b : Bool) → p x ≡ b → (if b then behind p xs else x ∷ xs) ≡ [] → p x ≡ true
    by true k h = k
    by false k h = absurd (omega (arith, ap length h))

-- chunks with this text, and the meaning of others: they are sound as these, and match brackets as these do
pub record Cut (t : List ℕ) (others : List Chunk) : Type 0 where
  pub new : List Chunk
  pub are : AreChunks new
  pub sound : AreSound new
  pub text_is : joined new ≡ t
  pub means : means_of new ≡ means_of others
  pub line : ends_in_line (tokens_of new) ≡ false
  pub matches : (before : List Bracket) (ys : List Chunk) → match before (new ++ ys) ≡ match before (others ++ ys)

-- blank chunks mean nothing
pub cut_all : (chunks : List Chunk) → AreChunks chunks → are_blank (joined chunks) ≡ true → (means_of chunks ≡ []) × ((before : List Bracket) (ys : List Chunk) → match before (chunks ++ ys) ≡ match before ys)
cut_all [] are is = (refl, λ before ys. refl)
cut_all (x ∷ xs) are is =
    let both = and_parts (are_blank x.text) (are_blank (joined xs)) (sym (blank_both x.text (joined xs)) ∙ is) in
    let (means, matches) = cut_all xs are.1 both.1 in
    let space = space_chunk x xs are.0 (begins x.text are.0.some both.0) in (
      ap₂ (λ a b. a ++ b) space.means means,
      λ before ys. match_cons before x (xs ++ ys) ∙ ap (λ role. match_as before role (λ next. match next (xs ++ ys))) space.role ∙ matches before ys,
    )
  where
    begins : (t : List ℕ) → chars t ≢ [] → are_blank t ≡ true → is_whitespace (first (chars t)) ≡ true
    begins [] some blanks = absurd (some chars-nil)
    begins (b ∷ bs) some blanks =
        let white = (white_blank b (and_parts (is_blank b) (are_blank bs) blanks).0).0 in
        ap (λ u. is_whitespace (first u)) (ascii_first b bs white.ascii) ∙ white.white

-- the last chunk up to its last line feed
cut_last : (x : Chunk) (s w : List ℕ) → IsChunk x [] → is_sound x.kind ≡ true → is_line x.kind ≡ false → are_blank w ≡ true → x.text ≡ s ++ 10 ∷ w
    → (it : Cut (s ++ 10 ∷ []) (x ∷ [])) × (next_kind (tokens_of it.new) ≡ Some x.kind)
cut_last x s w it sound line all e =
    let (front, l, ends) = snoc (10 ∷ w) (not_nil 10 w) in
    let whites : AreWhite (10 ∷ w) = (white_feed, blanks_white w all) in
    let white : White l = last_white front l (subst AreWhite ends whites) in
    let read : reading (chars x.text) ≡ (x.kind, []) = ap reading (sym (append-nil (chars x.text)) ∙ ap (λ t. chars x.text ++ t) (sym chars-nil)) ∙ it.reads ∙ ap (λ t. (x.kind, t)) chars-nil in
    let marks : chars x.text ≡ (chars s ++ front) ++ l ∷ [] =
    ap chars e ∙ (white_back s (10 ∷ w) whites (subst IsUtf8 e it.utf8)).1 ∙ ap (λ u. chars s ++ u) ends ∙ sym (append_assoc (chars s) front (l ∷ [])) in
    let kind : x.kind ≡ kinds.Whitespace = white_last (chars s ++ front) l x.kind (ap reading (sym marks) ∙ read) sound line white.white white.parts in
    let kept = s ++ 10 ∷ [] in
    let whole : x.text ≡ kept ++ w = e ∙ sym (append_assoc s (10 ∷ []) w) in
    let (utf8, parts) = white_back kept w (blanks_white w all) (subst IsUtf8 whole it.utf8) in
    let (c, cs, letters) = letters_there (chars kept) (some kept (not_empty s) utf8) in
    let shape : chars x.text ≡ c ∷ (cs ++ w) = ap chars whole ∙ parts ∙ ap (λ u. u ++ w) letters in
    let begins : is_whitespace c ≡ true = white_first c (cs ++ w) (ap (λ u. (reading u).0) (sym shape) ∙ ap (λ p. p.0) read ∙ kind) in
    let run : behind is_whitespace (cs ++ w) ≡ [] = ap (λ p. p.1) (sym (blank_read c (cs ++ w) begins) ∙ ap reading (sym shape) ∙ read) in
    let space = space_chunk x [] it (ap (λ u. is_whitespace (first u)) shape ∙ begins) in
    let is_blank : IsBlank kept = record { utf8 = utf8; c = c; cs = cs; letters = letters; begins = begins; all = run_front is_whitespace cs w run } in (
      record {
        new = blank kept ∷ [];
        are = (blank_is kept [] is_blank (ap (behind is_whitespace) chars-nil ∙ sym chars-nil), tt);
        sound = ((λ why bad. absurd (cc bad)), tt);
        text_is = append-nil kept;
        means = ap (λ t. t ++ []) (sym space.means);
        line = refl;
        matches = λ before ys. match_cons before (blank kept) ys ∙ ap (λ role. match_as before role (λ next. match next ys)) (sym space.role) ∙ sym (match_cons before x ys);
      },
      ap Some (sym kind),
    )
  where
    not_empty : (s : List ℕ) → s ++ 10 ∷ [] ≢ []
    not_empty s e = omega (arith, ap length e, length-append s (10 ∷ []))

    some : (t : List ℕ) → t ≢ [] → IsUtf8 t → chars t ≢ []
    some t there utf8 e = there (nil_from_length t (empty_from_chars t utf8 e))

-- these are not the last if another follows
line_more : (x : Chunk) (new : List Chunk) (kind : TokenKind) → next_kind (tokens_of new) ≡ Some kind → ends_in_line (tokens_of new) ≡ false → ends_in_line (tokens_of (x ∷ new)) ≡ false
line_more x [] kind e h = absurd (cc e)
line_more x (n ∷ ns) kind e h = h

-- chunks up to their last line feed, if only blanks follow it
pub cut_back : (chunks : List Chunk) (s w : List ℕ) → AreChunks chunks → AreSound chunks → ends_in_line (tokens_of chunks) ≡ false → are_blank w ≡ true → joined chunks ≡ s ++ 10 ∷ w
    → (it : Cut (s ++ 10 ∷ []) chunks) × (next_kind (tokens_of it.new) ≡ next_kind (tokens_of chunks))
cut_back [] s w are sound line all e = absurd (omega (arith, ap length e, length-append s (10 ∷ w)))
cut_back (x ∷ []) s w are sound line all e = cut_last x s w are.0 (sound_role x.kind x.text sound.0) line all (sym (append-nil x.text) ∙ e)
cut_back (x ∷ y ∷ xs) s w are sound line all e =
    by (λ more others. cut_back (y ∷ xs) more w are.1 sound.1 line all others) (feed_in x.text (joined (y ∷ xs)) s w e)
  where
    -- the line feed is behind the first chunk
    later : (more : List ℕ) → s ≡ x.text ++ more → joined (y ∷ xs) ≡ more ++ 10 ∷ w → (it : Cut (more ++ 10 ∷ []) (y ∷ xs)) → next_kind (tokens_of it.new) ≡ Some y.kind
        → (it : Cut (s ++ 10 ∷ []) (x ∷ y ∷ xs)) × (next_kind (tokens_of it.new) ≡ Some x.kind)
    later more same others rest begins =
        let it = are.0 in
        let kept = more ++ 10 ∷ [] in
        let whole : joined (y ∷ xs) ≡ kept ++ w = others ∙ sym (append_assoc more (10 ∷ []) w) in
        let (utf8, parts) = white_back kept w (blanks_white w all) (subst IsUtf8 whole (utf8_all (y ∷ xs) are.1)) in
        let (fine, ends) = white_back more (10 ∷ []) (white_feed, tt) utf8 in
        let old : text (y ∷ xs) ≡ text rest.new ++ w = ap chars whole ∙ parts ∙ ap (λ t. chars t ++ w) (sym rest.text_is) in
        let letters : text rest.new ≡ chars more ++ 10 ∷ [] = ap chars rest.text_is ∙ ends in
        let read = kept_part (text rest.new) w x.kind it.some (λ n. omega (arith, ap length (sym letters ∙ n), length-append (chars more) (10 ∷ [])))
        (ap (λ t. reading (chars x.text ++ t)) (sym old) ∙ it.reads ∙ ap (λ t. (x.kind, t)) old) (λ n. no_point (chars more) (sym letters ∙ n)) in (
          record {
            new = x ∷ rest.new;
            are = (record { utf8 = it.utf8; some = it.some; reads = read; role = it.role; means = λ part at. ap (λ n. sorts (pieces_of part x.kind n at x.text)) begins ∙ it.means part at }, rest.are);
            sound = (sound.0, rest.sound);
            text_is = ap (λ t. x.text ++ t) rest.text_is ∙ sym (append_assoc x.text more (10 ∷ [])) ∙ ap (λ t. t ++ 10 ∷ []) (sym same);
            means = ap (λ t. x.means ++ t) rest.means;
            line = line_more x rest.new y.kind begins rest.line;
            matches = λ before ys. match_behind x (rest.new ++ ys) ((y ∷ xs) ++ ys) (λ b. rest.matches b ys) before;
          },
          refl,
        )
      where
        utf8_all : (chunks : List Chunk) → AreChunks chunks → IsUtf8 (joined chunks)
        utf8_all [] are = IsUtf8-nil
        utf8_all (n ∷ ns) are = IsUtf8-append n.text (joined ns) are.0.utf8 (utf8_all ns are.1)

        no_point : (t : List ℕ) → t ++ 10 ∷ [] ≡ 46 ∷ [] → ⊥
        no_point [] n = omega (arith, head_of n)
        no_point (c ∷ t) n = omega (arith, ap length n, length-append t (10 ∷ []))

        kept_part : (kept rest : List ℕ) (kind : TokenKind) → chars x.text ≢ [] → kept ≢ [] → reading (chars x.text ++ (kept ++ rest)) ≡ (x.kind, kept ++ rest) → (kept ≡ 46 ∷ [] → ⊥)
            → reading (chars x.text ++ kept) ≡ (x.kind, kept)
        kept_part kept rest kind some there read other = kept_alone (chars x.text) kept rest x.kind some there read (sound_role x.kind x.text sound.0) (λ is. other)

    -- it is not in the first, since that would be white space before white space
    never : (less : List ℕ) → x.text ≡ s ++ 10 ∷ less → w ≡ less ++ joined (y ∷ xs) → ⊥
    never less same others =
        let (front, l, ends) = snoc (10 ∷ less) (not_nil 10 less) in
        let both = and_parts (are_blank less) (are_blank (joined (y ∷ xs))) (sym (blank_both less (joined (y ∷ xs))) ∙ ap are_blank (sym others) ∙ all) in
        let whites : AreWhite (10 ∷ less) = (white_feed, blanks_white less both.0) in
        let white : White l = last_white front l (subst AreWhite ends whites) in
        let marks : chars x.text ≡ (chars s ++ front) ++ l ∷ [] =
        ap chars same ∙ (white_back s (10 ∷ less) whites (subst IsUtf8 same are.0.utf8)).1 ∙ ap (λ u. chars s ++ u) ends ∙ sym (append_assoc (chars s) front (l ∷ [])) in
        next (joined (y ∷ xs)) refl both.1 (λ f fs behind is_white other. white_between (chars s ++ front) l x.kind f fs
        (ap₂ (λ t u. reading (t ++ u)) (sym marks) (sym behind) ∙ are.0.reads ∙ ap (λ t. (x.kind, t)) behind) (sound_role x.kind x.text sound.0) white.white white.parts is_white other)
      where
        next : (t : List ℕ) → joined (y ∷ xs) ≡ t → are_blank t ≡ true → ((f : ℕ) (fs : List ℕ) → text (y ∷ xs) ≡ f ∷ fs → is_whitespace f ≡ true → f ≢ 10 → ⊥) → ⊥
        next [] is none tell = some_text y xs are.1.0.utf8 are.1.0.some (ap chars is ∙ chars-nil)
        next (b ∷ bs) is blanks tell = let (white, other) = white_blank b (and_parts (is_blank b) (are_blank bs) blanks).0 in tell b (chars bs) (ap chars is ∙ ascii_first b bs white.ascii) white.white other

    by : ((more : List ℕ) → joined (y ∷ xs) ≡ more ++ 10 ∷ w → (it : Cut (more ++ 10 ∷ []) (y ∷ xs)) × (next_kind (tokens_of it.new) ≡ Some y.kind))
        → ((more : List ℕ) × (s ≡ x.text ++ more) × (joined (y ∷ xs) ≡ more ++ 10 ∷ w)) ⊎ ((less : List ℕ) × (x.text ≡ s ++ 10 ∷ less) × (w ≡ less ++ joined (y ∷ xs)))
        → (it : Cut (s ++ 10 ∷ []) (x ∷ y ∷ xs)) × (next_kind (tokens_of it.new) ≡ Some x.kind)
    by shorter (inl (more, same, others)) = let (rest, begins) = shorter more others in later more same others rest begins
    by shorter (inr (less, same, others)) = absurd (never less same others)

-- chunks behind their first line feed, if only blanks precede it
pub cut_front : (chunks : List Chunk) (w r : List ℕ) → AreChunks chunks → are_blank w ≡ true → joined chunks ≡ w ++ 10 ∷ r → Made r (means_of chunks) chunks
cut_front [] w r are all e = absurd (omega (arith, ap length e, length-append w (10 ∷ r)))
cut_front (n ∷ ns) w r are all e =
    by (feed_in n.text (joined ns) w r e)
  where
    letters : text (n ∷ ns) ≡ (w ++ 10 ∷ []) ++ chars r
    letters = ap chars e ∙ white_front w (10 ∷ r) (blanks_white w all) ∙ ap (λ u. w ++ u) (ascii_first 10 r (omega arith)) ∙ sym (append_assoc w (10 ∷ []) (chars r))

    first_white : (w r : List ℕ) → are_blank w ≡ true → is_whitespace (first ((w ++ 10 ∷ []) ++ r)) ≡ true
    first_white [] r is = refl
    first_white (b ∷ w) r is = (white_blank b (and_parts (is_blank b) (are_blank w) is).0).0.white

    whole : text (n ∷ ns) ≡ chars n.text ++ text ns
    whole = chars-append n.text (joined ns) are.0.utf8

    begins : is_whitespace (first (chars n.text)) ≡ true
    begins = go (chars n.text) refl
      where
        go : (t : List ℕ) → chars n.text ≡ t → is_whitespace (first (chars n.text)) ≡ true
        go [] h = absurd (are.0.some h)
        go (c ∷ cs) h =
            ap (λ t. is_whitespace (first t)) h ∙ ap (λ t. is_whitespace (first (t ++ text ns))) (sym h) ∙ ap (λ t. is_whitespace (first t)) (sym whole ∙ letters) ∙ first_white w (chars r) all

    space : IsSpace n ns
    space = space_chunk n ns are.0 begins

    -- no white space follows this chunk
    none : (f : ℕ) (fs : List ℕ) → text ns ≡ f ∷ fs → is_whitespace f ≡ false
    none f fs h = behind_head is_whitespace (text (n ∷ ns)) f fs (space.all ∙ h)

    white_next : (more : List ℕ) → are_blank more ≡ true → joined ns ≡ more ++ 10 ∷ r → ⊥
    white_next [] is h = false≢true (sym (none 10 (chars r) (ap chars h ∙ ascii_first 10 r (omega arith))))
    white_next (b ∷ more) is h =
        let white = (white_blank b (and_parts (is_blank b) (are_blank more) is).0).0 in
        false≢true (sym (none b (chars (more ++ 10 ∷ r)) (ap chars h ∙ ascii_first b (more ++ 10 ∷ r) white.ascii)) ∙ white.white)

    utf8_rest : (q : List ℕ) → n.text ≡ w ++ 10 ∷ q → IsUtf8 q
    utf8_rest q same = utf8_behind 10 q (omega arith) (utf8_past w (10 ∷ q) (blanks_white w all) (subst IsUtf8 same are.0.utf8))

    run_white : (w t : List ℕ) → are_blank w ≡ true → behind is_whitespace ((w ++ 10 ∷ []) ++ t) ≡ behind is_whitespace t
    run_white [] t is = refl
    run_white (b ∷ w) t is =
        let both = and_parts (is_blank b) (are_blank w) is in
        ap (λ k. if k then behind is_whitespace ((w ++ 10 ∷ []) ++ t) else b ∷ ((w ++ 10 ∷ []) ++ t)) (white_blank b both.0).0.white ∙ run_white w t both.1

    -- the rest of the chunk is white space, if there is one
    rest : (q : List ℕ) → n.text ≡ w ++ 10 ∷ q → r ≡ q ++ joined ns → (letters : List ℕ) → chars q ≡ letters → Made r (means_of (n ∷ ns)) (n ∷ ns)
    rest q same others [] h =
        let nothing : q ≡ [] = nil_from_length q (empty_from_chars q (utf8_rest q same) h) in
        record {
          new = ns;
          are = are.1;
          text_is = sym (others ∙ ap (λ t. t ++ joined ns) nothing);
          means = ap (λ t. t ++ means_of ns) (sym space.means);
          matches = λ before. ap (λ role. match_as before role (λ next. match next ns)) (sym space.role) ∙ sym (match_cons before n ns);
        }
    rest q same others (d ∷ ds) h =
        let marks : text (n ∷ ns) ≡ (w ++ 10 ∷ []) ++ ((d ∷ ds) ++ text ns) =
        letters ∙ ap (λ t. (w ++ 10 ∷ []) ++ chars t) others ∙ ap (λ t. (w ++ 10 ∷ []) ++ t) (chars-append q (joined ns) (utf8_rest q same) ∙ ap (λ t. t ++ text ns) h) in
        let run : behind is_whitespace ((d ∷ ds) ++ text ns) ≡ text ns = sym (run_white w (d ∷ (ds ++ text ns)) all) ∙ ap (behind is_whitespace) (sym marks) ∙ space.all in
        let all_white : behind is_whitespace (d ∷ ds) ≡ [] = run_before is_whitespace (d ∷ ds) (text ns) run in
        let first_is = run_first is_whitespace d ds all_white in
        let is_blank : IsBlank q = record { utf8 = utf8_rest q same; c = d; cs = ds; letters = h; begins = first_is; all = ap (λ b. if b then behind is_whitespace ds else d ∷ ds) (sym first_is) ∙ all_white } in
        let (it, next) = spaced q ns is_blank are.1 in
        record {
          new = it.new;
          are = it.are;
          text_is = it.text_is ∙ sym others;
          means = it.means ∙ ap (λ t. t ++ means_of ns) (sym space.means);
          matches = λ before. it.matches before ∙ ap (λ role. match_as before role (λ next. match next ns)) (sym space.role) ∙ sym (match_cons before n ns);
        }

    by : ((more : List ℕ) × (w ≡ n.text ++ more) × (joined ns ≡ more ++ 10 ∷ r)) ⊎ ((less : List ℕ) × (n.text ≡ w ++ 10 ∷ less) × (r ≡ less ++ joined ns)) → Made r (means_of (n ∷ ns)) (n ∷ ns)
    by (inl (more, same, others)) =
        let both = and_parts (are_blank n.text) (are_blank more) (sym (blank_both n.text more) ∙ ap are_blank (sym same) ∙ all) in
        absurd (white_next more both.1 others)
    by (inr (q, same, others)) = rest q same others (chars q) refl
