-- What is put between two tokens, and the first token before it.
use Rattle.std.proofs.Common.{◌≡◌, ◌≢◌, ◌⊎◌, inl, inr, ℕ, Bool, true, false, ◌||◌, ◌&&◌, not, List, [], ◌∷◌, ◌++◌, is_some, Option, None, Some, refl, sym, ap, ap₂, ◌∙◌, append-nil, arith, if◌then◌else◌}
use Rattle.std.proofs.lemmas.Bool.{false≢true, and_parts, or_parts}
use Rattle.std.proofs.lemmas.Str.{chars-append, chars-nil}
use Rattle.std.specs.Str.{chars, IsUtf8}
use Rattle.syntax_edit.proofs.KindFacts.{SameBefore}
use Rattle.syntax_edit.proofs.Sources.{joined-append}
use Rattle.syntax_edit.proofs.Tokens.{token_kept}
use Rattle.syntax_edit.specs.Kept.{ends_in_line, is_number}
use Rattle.syntax_layout.proofs.Chunks.{Put, put_space}
use Rattle.syntax_layout.proofs.GapChunks.{AllBlank, GapChunks, blank_kind, gap_are, gap_chunks, gap_match, gap_means, text_append, word_front}
use Rattle.syntax_layout.proofs.Words.{IsWord, before_space, ends_more, whole_sound}
use Rattle.syntax_layout.specs.Gap.{IsGap}
use Rattle.syntax_layout.specs.Layout.{between, ending, ends_before, joins, joins_before, parting}
use Rattle.syntax_lex.proofs.FrontFacts.{empty_from_chars}
use Rattle.syntax_lex.specs.Class.{is_whitespace}
use Rattle.syntax_lex.specs.Front.{first}
use Rattle.syntax_lex.specs.Reading.{reading}
use Rattle.syntax_lex.specs.declared.token.TokenKind.{TokenKind}
use Rattle.syntax_lex.specs.declared.token.TokenKind.TheVariants as kinds
use Rattle.syntax_parse.specs.Parsed.{next_kind}
use Rattle.syntax_parse.specs.Pieces.{punct_char, spacing_before}
use Rattle.syntax_unparse.proofs.Chunks.{AreChunks, Chunk, joined, tokens_of}
use Rattle.syntax_unparse.proofs.Fronts.{ascii_first, text}
use Rattle.tt_base.specs.TreeText.{space_if}
use Rattle.tt_base.specs.declared.punct.Spacing.TheVariants.{Alone, Joint}

-- a punct is no number
punct_number : (kind : TokenKind) → is_some (punct_char kind) ≡ true → is_number kind ≡ false
punct_number (kinds.Literal kind start) h = absurd (false≢true h)
punct_number kind h = refl

-- what a punct is before, right behind it
joins_told : (kind : TokenKind) → spacing_before (Some kind) ≡ (if joins_before kind then Joint else Alone)
joins_told (kinds.Lifetime digit) = refl
joins_told kinds.RawLifetime = refl
joins_told kind = refl

-- what does not join is no punct, or is read as alone
no_joint : (kind next : TokenKind) → joins kind next ≡ false → (punct_char kind ≡ None) ⊎ (spacing_before (Some next) ≡ Alone)
no_joint kind next h = go (punct_char kind) refl (joins_before next) refl
  where
    go : (o : Option ℕ) → punct_char kind ≡ o → (b : Bool) → joins_before next ≡ b → (punct_char kind ≡ None) ⊎ (spacing_before (Some next) ≡ Alone)
    go None e b k = inl e
    go (Some c) e false k = inr (joins_told next ∙ ap (λ b. if b then Joint else Alone) k)
    go (Some c) e true k = absurd (false≢true (sym h ∙ ap₂ (λ o b. is_some o && b) e k))

-- how a token stands to what stands behind it in a text of which these chunks are left
abbrev pub Stands : (x : Chunk) → (touching : Bool) → (xs : List Chunk) → (source : Option TokenKind) → Type 0
Stands x true xs source = (reading (chars x.text ++ text xs) ≡ (x.kind, text xs)) × (source ≡ next_kind (tokens_of xs))
Stands x false xs source = spacing_before source ≡ Alone

-- the same token before other chunks
pub record Keeps (x : Chunk) (new : List Chunk) (source : Option TokenKind) : Type 0 where
  pub reads : reading (chars x.text ++ text new) ≡ (x.kind, text new)
  pub same : SameBefore x.kind (next_kind (tokens_of new)) source

-- chunks before others, of which neither ends in a comment to the end of a line
pub append_line : (xs tail : List Chunk) → ends_in_line (tokens_of xs) ≡ false → ends_in_line (tokens_of tail) ≡ false → ends_in_line (tokens_of (xs ++ tail)) ≡ false
append_line [] tail h k = k
append_line (x ∷ []) [] h k = h
append_line (x ∷ []) (y ∷ ys) h k = k
append_line (x ∷ y ∷ xs) tail h k = append_line (y ∷ xs) tail h k

-- nothing
abbrev put_nothing : (tail : List Chunk) → AreChunks tail → Put [] tail
put_nothing tail are = record { new = tail; are = are; text_is = refl; means = refl; matches = λ before. refl; line = λ h. h }

-- a gap
abbrev pub put_gap : (gap : List ℕ) (tail : List Chunk) → GapChunks gap → AreChunks tail → is_whitespace (first (text tail)) ≡ false → Put gap tail
put_gap gap tail it are apart = record {
  new = it.chunks ++ tail;
  are = gap_are it.chunks tail it.are it.blank it.line are apart;
  text_is = joined-append it.chunks tail ∙ ap (λ t. t ++ joined tail) it.text_is;
  means = gap_means it.chunks tail it.are it.blank;
  matches = λ before. gap_match before it.chunks tail it.are it.blank;
  line = append_line it.chunks tail it.line;
}

-- a space and then a gap
abbrev put_both : (gap : List ℕ) (tail : List Chunk) → Put gap tail → Put (32 ∷ gap) tail
put_both gap tail it =
    let outer = (put_space it.new it.are).0 in record {
      new = outer.new;
      are = outer.are;
      text_is = outer.text_is ∙ ap (λ t. 32 ∷ t) it.text_is;
      means = outer.means ∙ it.means;
      matches = λ before. outer.matches before ∙ it.matches before;
      line = λ h. outer.line (it.line h);
    }

-- a token before a space
keeps_space : (x : Chunk) (tail : List Chunk) (are : AreChunks tail) (source : Option TokenKind) → IsWord x → (punct_char x.kind ≡ None) ⊎ (spacing_before source ≡ Alone) → Keeps x (put_space tail are).0.new source
keeps_space x tail are source it alone =
    let put = put_space tail are in
    let begins : text put.0.new ≡ 32 ∷ text tail = ap chars put.0.text_is ∙ ascii_first 32 (joined tail) (omega arith) in
    record {
      reads = ap (λ t. reading (chars x.text ++ t)) begins ∙ before_space x (text tail) it ∙ ap (λ t. (x.kind, t)) (sym begins);
      same = by alone;
    }
  where
    by : (punct_char x.kind ≡ None) ⊎ (spacing_before source ≡ Alone) → SameBefore x.kind (next_kind (tokens_of (put_space tail are).0.new)) source
    by (inl none) = inr none
    by (inr is) = inl (ap spacing_before (put_space tail are).1 ∙ sym is)

-- and before a gap
some_letters : (gap : List ℕ) → IsUtf8 gap → gap ≢ [] → chars gap ≢ []
some_letters [] utf8 some e = some refl
some_letters (b ∷ gap) utf8 some e = absurd (omega (arith, empty_from_chars (b ∷ gap) utf8 e))

keeps_gap : (x : Chunk) (gap : List ℕ) (tail : List Chunk) (source : Option TokenKind) → IsWord x → (punct_char x.kind ≡ None) ⊎ (spacing_before source ≡ Alone) → IsUtf8 gap → gap ≢ []
    → ends_before x.text gap ≡ true → (it : GapChunks gap) → Keeps x (it.chunks ++ tail) source
keeps_gap x gap tail source word alone utf8 some stay it =
    let letters : text (it.chunks ++ tail) ≡ chars gap ++ text tail = text_append it.chunks tail it.are ∙ ap (λ t. chars t ++ text tail) it.text_is in
    record {
      reads = ap (λ t. reading (chars x.text ++ t)) letters ∙ ends_more x gap (text tail) word utf8 (some_letters gap utf8 some) stay ∙ ap (λ t. (x.kind, t)) (sym letters);
      same = by alone (next it.chunks it.blank (λ e. some (sym it.text_is ∙ ap joined e)));
    }
  where
    next : (chunks : List Chunk) → AllBlank chunks → chunks ≢ [] → spacing_before (next_kind (tokens_of (chunks ++ tail))) ≡ Alone
    next [] blank here = absurd (here refl)
    next (c ∷ cs) blank here = (blank_kind c.kind blank.0).alone

    by : (punct_char x.kind ≡ None) ⊎ (spacing_before source ≡ Alone) → spacing_before (next_kind (tokens_of (it.chunks ++ tail))) ≡ Alone → SameBefore x.kind (next_kind (tokens_of (it.chunks ++ tail))) source
    by (inl none) h = inr none
    by (inr is) h = inl (h ∙ sym is)

-- these chunks begin with a text
pub record Begins (front : List ℕ) (chunks : List Chunk) : Type 0 where
  pub utf8 : IsUtf8 front
  pub some : chars front ≢ []
  pub more : List ℕ
  pub are : joined chunks ≡ front ++ more

-- and right before another
keeps_word : (x y : Chunk) (new : List Chunk) (source : Option TokenKind) (front : List ℕ) → IsWord x → Begins front (y ∷ new) → (punct_char x.kind ≡ None) ⊎ (spacing_before source ≡ Alone) → joins x.kind y.kind ≡ false
    → ends_before x.text front ≡ true → Keeps x (y ∷ new) source
keeps_word x y new source front word it alone apart stay =
    let letters : text (y ∷ new) ≡ chars front ++ chars it.more = ap chars it.are ∙ chars-append front it.more it.utf8 in
    record {
      reads = ap (λ t. reading (chars x.text ++ t)) letters ∙ ends_more x front (chars it.more) word it.utf8 it.some stay ∙ ap (λ t. (x.kind, t)) (sym letters);
      same = by alone (no_joint x.kind y.kind apart);
    }
  where
    by : (punct_char x.kind ≡ None) ⊎ (spacing_before source ≡ Alone) → (punct_char x.kind ≡ None) ⊎ (spacing_before (Some y.kind) ≡ Alone) → SameBefore x.kind (Some y.kind) source
    by (inl none) h = inr none
    by (inr is) (inl none) = inr none
    by (inr is) (inr next) = inl (next ∙ sym is)

-- and right before another that it touches already
keeps_joint : (x y : Chunk) (ys new : List Chunk) (source : Option TokenKind) → IsWord x → IsWord y → joins x.kind y.kind ≡ true → Stands x true (y ∷ ys) source → Keeps x (y ∷ new) source
keeps_joint x y ys new source word other joint stands =
    let letters : text (y ∷ new) ≡ chars y.text ++ text new = chars-append y.text (joined new) other.utf8 in
    let before : text (y ∷ ys) ≡ chars y.text ++ text ys = chars-append y.text (joined ys) other.utf8 in
    let read : reading (chars x.text ++ (chars y.text ++ text ys)) ≡ (x.kind, chars y.text ++ text ys) = ap (λ t. reading (chars x.text ++ t)) (sym before) ∙ stands.0 ∙ ap (λ t. (x.kind, t)) before in
    let punct : is_some (punct_char x.kind) ≡ true = (and_parts (is_some (punct_char x.kind)) (joins_before y.kind) joint).0 in
    record {
      reads =
          ap (λ t. reading (chars x.text ++ t)) letters
          ∙ token_kept (chars x.text) (chars y.text) (text ys) (text new) x.kind word.some other.some read (whole_sound x.kind word.whole)
          (λ number. absurd (false≢true (sym (punct_number x.kind punct) ∙ number)))
          ∙ ap (λ t. (x.kind, t)) (sym letters);
      same = inl (ap spacing_before (sym stands.1));
    }

-- what is read as alone behind which no joint punct stands
alone_source : (x y : Chunk) (touching : Bool) (ys : List Chunk) (source : Option TokenKind) → Stands x touching (y ∷ ys) source → (touching && joins x.kind y.kind) ≡ false
    → (punct_char x.kind ≡ None) ⊎ (spacing_before source ≡ Alone)
alone_source x y false ys source stands h = inr stands
alone_source x y true ys source stands h = by (no_joint x.kind y.kind h)
  where
    by : (punct_char x.kind ≡ None) ⊎ (spacing_before (Some y.kind) ≡ Alone) → (punct_char x.kind ≡ None) ⊎ (spacing_before source ≡ Alone)
    by (inl none) = inl none
    by (inr is) = inr (ap spacing_before stands.1 ∙ is)

pub not_true : (b : Bool) → not b ≡ true → b ≡ false
not_true true h = sym h
not_true false h = refl

not_back : (b : Bool) → not b ≡ false → b ≡ true
not_back true h = refl
not_back false h = sym h

-- a token before nothing
keeps_nothing : (x : Chunk) (source : Option TokenKind) → IsWord x → (punct_char x.kind ≡ None) ⊎ (spacing_before source ≡ Alone) → Keeps x [] source
keeps_nothing x source word alone = record {
  reads = ap (λ t. reading (chars x.text ++ t)) chars-nil ∙ ap reading (append-nil (chars x.text)) ∙ word.alone ∙ ap (λ t. (x.kind, t)) (sym chars-nil);
  same = by alone;
}
  where
    by : (punct_char x.kind ≡ None) ⊎ (spacing_before source ≡ Alone) → SameBefore x.kind None source
    by (inl none) = inr none
    by (inr is) = inl (sym is)

-- nothing begins with white space
nothing_apart : is_whitespace (first (text [])) ≡ false
nothing_apart = ap (λ t. is_whitespace (first t)) chars-nil

-- a gap alone
pub put_alone : (gap : List ℕ) → IsGap gap → Put gap []
put_alone gap it = put_gap gap [] (gap_chunks gap it) tt nothing_apart

-- what follows the last token
pub ending_put : (x : Chunk) (source : Option TokenKind) (gap : List ℕ) → IsWord x → IsGap gap → (punct_char x.kind ≡ None) ⊎ (spacing_before source ≡ Alone)
    → (it : Put (ending false x.text gap) []) × Keeps x it.new source
ending_put x source [] word gap_is alone = (put_nothing [] tt, keeps_nothing x source word alone)
ending_put x source (b ∷ gap) word gap_is alone = by (ends_before x.text (b ∷ gap)) refl
  where
    it : GapChunks (b ∷ gap)
    it = gap_chunks (b ∷ gap) gap_is

    inner : Put (b ∷ gap) []
    inner = put_gap (b ∷ gap) [] it tt nothing_apart

    by : (s : Bool) → ends_before x.text (b ∷ gap) ≡ s → (p : Put (space_if (not s) ++ b ∷ gap) []) × Keeps x p.new source
    by true h = (inner, keeps_gap x (b ∷ gap) [] source word alone gap_is.utf8 (λ e. cc) h it)
    by false h = (put_both (b ∷ gap) [] inner, keeps_space x inner.new inner.are source word alone)

-- what is put between two tokens
pub between_put : (x y : Chunk) (touching : Bool) (ys new : List Chunk) (source : Option TokenKind) (gap front : List ℕ) → IsWord x → IsWord y → Begins front (y ∷ new) → Stands x touching (y ∷ ys) source → IsGap gap → AreChunks (y ∷ new)
    → (it : Put (between touching (joins x.kind y.kind) x.text gap front) (y ∷ new)) × Keeps x it.new source
between_put x y touching ys new source gap front word other begins stands fine are = go touching (joins x.kind y.kind) refl stands
  where
    tail : List Chunk
    tail = y ∷ new

    parted : (j : Bool) → joins x.kind y.kind ≡ j → (gap : List ℕ) → IsGap gap → (punct_char x.kind ≡ None) ⊎ (spacing_before source ≡ Alone)
        → (it : Put (parting j x.text gap front) tail) × Keeps x it.new source
    parted j e [] gap_is alone = by (j || not (ends_before x.text front)) refl
      where
        by : (b : Bool) → (j || not (ends_before x.text front)) ≡ b → (it : Put (space_if b) tail) × Keeps x it.new source
        by true h = ((put_space tail are).0, keeps_space x tail are source word alone)
        by false h =
            let both = or_parts j (not (ends_before x.text front)) h in
            (put_nothing tail are, keeps_word x y new source front word begins alone (e ∙ both.0) (not_back (ends_before x.text front) both.1))
    parted j e (b ∷ gap) gap_is alone = by (ends_before x.text (b ∷ gap)) refl
      where
        it : GapChunks (b ∷ gap)
        it = gap_chunks (b ∷ gap) gap_is

        inner : Put (b ∷ gap) tail
        inner = put_gap (b ∷ gap) tail it are (word_front y new other)

        by : (s : Bool) → ends_before x.text (b ∷ gap) ≡ s → (p : Put (space_if (not s) ++ b ∷ gap) tail) × Keeps x p.new source
        by true h = (inner, keeps_gap x (b ∷ gap) tail source word alone gap_is.utf8 (λ e. cc) h it)
        by false h = (put_both (b ∷ gap) tail inner, keeps_space x inner.new inner.are source word alone)

    go : (t j : Bool) → joins x.kind y.kind ≡ j → Stands x t (y ∷ ys) source → (it : Put (between t j x.text gap front) tail) × Keeps x it.new source
    go true true e s = (put_nothing tail are, keeps_joint x y ys new source word other e s)
    go true false e s = parted false e gap fine (alone_source x y true ys source s e)
    go false j e s = parted j e gap fine (alone_source x y false ys source s refl)
