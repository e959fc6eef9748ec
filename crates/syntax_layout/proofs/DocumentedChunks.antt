-- The chunks of a text whose attributes are written as comments.
use Rattle.std.proofs.Common.{◌≡◌, ◌≢◌, ◌⊎◌, inl, inr, ℕ, Bool, true, false, List, [], ◌∷◌, ◌++◌, length, take, drop, None, refl, sym, ap, ◌∙◌, ⊎_elim, subst, arith, append_assoc, length-append, if◌then◌else◌}
use Rattle.std.proofs.lemmas.Bool.{false≢true}
use Rattle.std.proofs.lemmas.List.{take-append-drop}
use Rattle.std.proofs.lemmas.Str.{chars-append}
use Rattle.std.specs.Str.{chars, IsUtf8}
use Rattle.syntax_edit.proofs.KindFacts.{blank_read, last_is, pieces_same, some_part, sound_role}
use Rattle.syntax_edit.proofs.Seams.{empty_front, match_behind, match_cons}
use Rattle.syntax_edit.proofs.Sources.{sound_chunks}
use Rattle.syntax_edit.proofs.Tokens.{alone, some_length, token_kept}
use Rattle.syntax_edit.proofs.Words.{first_word}
use Rattle.syntax_edit.specs.Kept.{is_line, is_sound}
use Rattle.syntax_lex.proofs.SignFacts.{sign_read}
use Rattle.syntax_layout.proofs.Ahead.{line_end}
use Rattle.syntax_layout.proofs.Chunks.{first_letter}
use Rattle.syntax_layout.proofs.GapChunks.{blank_before}
use Rattle.syntax_layout.specs.Documented.{is_white}
use Rattle.syntax_lex.proofs.ByteFacts.{behind_head}
use Rattle.syntax_lex.specs.Class.{is_whitespace}
use Rattle.syntax_lex.specs.Front.{behind, first}
use Rattle.syntax_lex.specs.Opening.{symbol}
use Rattle.syntax_lex.specs.Reading.{first_token_of, reading}
use Rattle.syntax_lex.specs.declared.token.Token.{Token}
use Rattle.syntax_lex.specs.declared.token.TokenKind.{TokenKind}
use Rattle.syntax_lex.specs.declared.token.TokenKind.TheVariants as kinds
use Rattle.syntax_parse.specs.Parsed.{next_kind}
use Rattle.syntax_parse.specs.Pieces.{pieces_of, punct_char, spacing_before}
use Rattle.syntax_parse.specs.Role.{role_in, same_bracket}
use Rattle.syntax_parse.specs.declared.bracket.Bracket.{Bracket}
use Rattle.syntax_parse.specs.declared.role.Role.{Role}
use Rattle.syntax_parse.specs.declared.role.Role.TheVariants.{Bad, Nothing, Opens, Closes, Leaf}
use Rattle.syntax_unparse.proofs.Chunks.{AreChunks, Chunk, IsChunk, joined, match, match_as, means_of, tokens_of}
use Rattle.syntax_unparse.proofs.Fronts.{text}
use Rattle.syntax_unparse.specs.Settled.{sorts}

-- the brackets of chunks match, if some are open before them
abbrev pub IsMatched : List Chunk → Type 0
IsMatched xs = (before : List Bracket) × (match before xs ≡ true)

pub later : (x : Chunk) (xs : List Chunk) → IsMatched (x ∷ xs) → IsMatched xs
later x xs (opened, h) = by opened x.role (sym (match_cons opened x xs) ∙ h)
  where
    by : (opened : List Bracket) (role : Role) → match_as opened role (λ next. match next xs) ≡ true → IsMatched xs
    by opened (Bad why) k = absurd (false≢true k)
    by opened Nothing k = (opened, k)
    by opened Leaf k = (opened, k)
    by opened (Opens pair) k = (pair ∷ opened, k)
    by [] (Closes pair) k = absurd (false≢true k)
    by (last ∷ opened) (Closes pair) k = paired (same_bracket last pair) k
      where
        paired : (b : Bool) → (if b then match opened xs else false) ≡ true → IsMatched xs
        paired true m = (opened, m)
        paired false m = absurd (false≢true m)

-- two texts that are the same, or have a part in front that no token before them needs more than
pub record Shares (old new : List ℕ) : Type 0 where
  pub kept : List ℕ
  pub rest : List ℕ
  pub other : List ℕ
  pub old_is : old ≡ kept ++ rest
  pub new_is : new ≡ kept ++ other
  pub enough : (rest ≡ other) ⊎ ((kept ≢ []) × (kept ≢ 46 ∷ []))

-- a token before one of them is the same before the other
shared : (letters old new : List ℕ) (kind : TokenKind) → letters ≢ [] → reading (letters ++ old) ≡ (kind, old) → is_sound kind ≡ true → Shares old new → reading (letters ++ new) ≡ (kind, new)
shared letters old new kind some read sound it = go it.enough
  where
    go : (it.rest ≡ it.other) ⊎ ((it.kept ≢ []) × (it.kept ≢ 46 ∷ [])) → reading (letters ++ new) ≡ (kind, new)
    go (inl same) =
        let e : old ≡ new = it.old_is ∙ ap (λ r. it.kept ++ r) same ∙ sym it.new_is in
        subst (λ t. reading (letters ++ t) ≡ (kind, t)) e read
    go (inr both) =
        let before : reading (letters ++ (it.kept ++ it.rest)) ≡ (kind, it.kept ++ it.rest) = ap (λ t. reading (letters ++ t)) (sym it.old_is) ∙ read ∙ ap (λ t. (kind, t)) it.old_is in
        ap (λ t. reading (letters ++ t)) it.new_is ∙ token_kept letters it.kept it.rest it.other kind some both.0 before sound (λ number. both.1) ∙ ap (λ t. (kind, t)) (sym it.new_is)

-- chunks that begin with the same token as others
pub record Same (old new : List Chunk) : Type 0 where
  pub next : next_kind (tokens_of new) ≡ next_kind (tokens_of old)
  pub letter : first (text new) ≡ first (text old)
  pub shares : Shares (text old) (text new)

-- the chunks of what is written of a text with chunks
pub record Documented (begins : Bool) (old : List Chunk) (written : List ℕ) : Type 0 where
  pub new : List Chunk
  pub are : AreChunks new
  pub text_is : joined new ≡ written
  pub means : means_of new ≡ means_of old
  pub matches : (opened : List Bracket) → match opened new ≡ match opened old
  pub line : (before : Bool) → line_end before (tokens_of new) ≡ line_end before (tokens_of old)
  pub front : is_whitespace (first (text old)) ≡ false → is_whitespace (first (text new)) ≡ false
  pub same : begins ≡ false → Same old new

pub white_kind : (kind : TokenKind) → is_white kind ≡ true → kind ≡ kinds.Whitespace
white_kind kinds.Whitespace h = refl
white_kind kind h = absurd (false≢true h)

not_behind : (xs rest : List ℕ) → behind is_whitespace xs ≡ rest → is_whitespace (first rest) ≡ false
not_behind xs [] h = refl
not_behind xs (c ∷ cs) h = behind_head is_whitespace xs c cs h

-- white space before other chunks
white_before : (letters old new : List ℕ) → letters ≢ [] → reading (letters ++ old) ≡ (kinds.Whitespace, old) → (is_whitespace (first old) ≡ false → is_whitespace (first new) ≡ false)
    → reading (letters ++ new) ≡ (kinds.Whitespace, new)
white_before [] old new some read front = absurd (some refl)
white_before (c ∷ cs) old new some read front = go (is_whitespace c) refl
  where
    whole : reading (c ∷ cs) ≡ (kinds.Whitespace, [])
    whole = alone (c ∷ cs) old kinds.Whitespace some read refl refl

    go : (b : Bool) → is_whitespace c ≡ b → reading (c ∷ (cs ++ new)) ≡ (kinds.Whitespace, new)
    go true e =
        let all : behind is_whitespace (cs ++ old) ≡ old = ap (λ p. p.1) (sym (blank_read c (cs ++ old) e) ∙ read) in
        blank_before (c ∷ cs) kinds.Whitespace new some whole refl refl (front (not_behind (cs ++ old) old all))
    go false e = ⊎_elim (λ fixed. fixed.0 new) (λ ended. absurd (false≢true ended)) (last_is c cs kinds.Whitespace e whole refl refl)

-- a point is no white space
no_point : (letters old : List ℕ) → reading (letters ++ old) ≡ (kinds.Whitespace, old) → letters ≢ 46 ∷ []
unfolding symbol
no_point letters old read e = false≢true (ap (λ p. is_white p.0) (sym (sign_read 46 old refl refl) ∙ ap (λ t. reading (t ++ old)) (sym e) ∙ read))

-- a chunk before what is written of those after it
kept_is : (x : Chunk) (old : List Chunk) (written : List ℕ) → IsChunk x old → is_sound x.kind ≡ true → (it : Documented (is_white x.kind) old written) → IsChunk x it.new
kept_is x old written is sound it = go (is_white x.kind) refl
  where
    chunk : reading (chars x.text ++ text it.new) ≡ (x.kind, text it.new) → (spacing_before (next_kind (tokens_of it.new)) ≡ spacing_before (next_kind (tokens_of old))) ⊎ (punct_char x.kind ≡ None) → IsChunk x it.new
    chunk reads same = record {
      utf8 = is.utf8;
      some = is.some;
      reads = reads;
      role = is.role;
      means = λ part at. pieces_same part part x.kind (next_kind (tokens_of it.new)) (next_kind (tokens_of old)) at at x.text same ∙ is.means part at;
    }

    go : (b : Bool) → is_white x.kind ≡ b → IsChunk x it.new
    go false e =
        let same = it.same e in
        chunk (shared (chars x.text) (text old) (text it.new) x.kind is.some is.reads sound same.shares) (inl (ap spacing_before same.next))
    go true e =
        let kind = white_kind x.kind e in
        let read : reading (chars x.text ++ text old) ≡ (kinds.Whitespace, text old) = is.reads ∙ ap (λ k. (k, text old)) kind in
        chunk (white_before (chars x.text) (text old) (text it.new) is.some read it.front ∙ ap (λ k. (k, text it.new)) (sym kind)) (inr (ap punct_char kind))

pub first_is : (x : Chunk) (xs : List Chunk) → IsUtf8 x.text → chars x.text ≢ [] → first (text (x ∷ xs)) ≡ first (chars x.text)
first_is x xs utf8 some = ap first (chars-append x.text (joined xs) utf8) ∙ first_letter (chars x.text) (text xs) some

longer : (front kept rest other : List ℕ) → front ≢ [] → (rest ≡ other) ⊎ ((kept ≢ []) × (kept ≢ 46 ∷ [])) → (rest ≡ other) ⊎ ((front ++ kept ≢ []) × (front ++ kept ≢ 46 ∷ []))
longer front kept rest other some (inl same) = inl same
longer front kept rest other some (inr both) =
    inr ((λ e. some (empty_front front kept e)), λ e. omega (arith, ap length e, length-append front kept, some_length front some, some_length kept both.0))

-- both texts begin with the chunk
shares_more : (x : Chunk) (old : List Chunk) (written : List ℕ) → IsChunk x old → (it : Documented (is_white x.kind) old written) → Shares (text (x ∷ old)) (text (x ∷ it.new))
shares_more x old written is it = go (is_white x.kind) refl
  where
    letters : List ℕ
    letters = chars x.text

    go : (b : Bool) → is_white x.kind ≡ b → Shares (text (x ∷ old)) (text (x ∷ it.new))
    go true e = record {
      kept = letters;
      rest = text old;
      other = text it.new;
      old_is = chars-append x.text (joined old) is.utf8;
      new_is = chars-append x.text (joined it.new) is.utf8;
      enough = inr (is.some, no_point letters (text old) (is.reads ∙ ap (λ k. (k, text old)) (white_kind x.kind e)));
    }
    go false e =
        let s = (it.same e).shares in record {
          kept = letters ++ s.kept;
          rest = s.rest;
          other = s.other;
          old_is = chars-append x.text (joined old) is.utf8 ∙ ap (λ t. letters ++ t) s.old_is ∙ sym (append_assoc letters s.kept s.rest);
          new_is = chars-append x.text (joined it.new) is.utf8 ∙ ap (λ t. letters ++ t) s.new_is ∙ sym (append_assoc letters s.kept s.other);
          enough = longer letters s.kept s.rest s.other is.some s.enough;
        }

-- a token stays
stays_written : (begins : Bool) (x : Chunk) (old : List Chunk) (written : List ℕ) → IsChunk x old → AreChunks old → IsMatched (x ∷ old) → Documented (is_white x.kind) old written → Documented begins (x ∷ old) (x.text ++ written)
stays_written begins x old written is are matched it =
    let sound = sound_role x.kind x.text (sound_chunks matched.0 (x ∷ old) (is, are) matched.1).0 in
    let letter : first (text (x ∷ it.new)) ≡ first (text (x ∷ old)) = first_is x it.new is.utf8 is.some ∙ sym (first_is x old is.utf8 is.some) in
    record {
      new = x ∷ it.new;
      are = (kept_is x old written is sound it, it.are);
      text_is = ap (λ t. x.text ++ t) it.text_is;
      means = ap (λ t. x.means ++ t) it.means;
      matches = match_behind x it.new old it.matches;
      line = λ before. it.line (is_line x.kind);
      front = λ h. ap is_whitespace letter ∙ h;
      same = λ e. record { next = refl; letter = letter; shares = shares_more x old written is it };
    }

-- the chunks of a text, and of what is written of it
pub record Both (begins : Bool) (source written : List ℕ) : Type 0 where
  pub old : List Chunk
  pub are : AreChunks old
  pub text_is : joined old ≡ source
  pub told : IsMatched old → Documented begins old written

pub both_nothing : (begins : Bool) → Both begins [] []
both_nothing begins = record {
  old = [];
  are = tt;
  text_is = refl;
  told = λ matched. record {
    new = [];
    are = tt;
    text_is = refl;
    means = refl;
    matches = λ opened. refl;
    line = λ before. refl;
    front = λ h. h;
    same = λ e. record { next = refl; letter = refl; shares = record { kept = []; rest = text []; other = text []; old_is = refl; new_is = refl; enough = inl refl } };
  };
}

pub both_stays : (begins : Bool) (source written : List ℕ) (token : Token) → IsUtf8 source → chars source ≢ [] → token ≡ first_token_of (chars source)
    → Both (is_white token.kind) (drop token.len source) written → Both begins source (take token.len source ++ written)
both_stays begins source written token utf8 some is inner =
    let w = first_word source token utf8 some is in
    let word = take token.len source in
    let next = next_kind (tokens_of inner.old) in
    let x : Chunk = record { text = word; kind = token.kind; role = role_in token.kind word; means = sorts (pieces_of some_part token.kind next 0 word) } in
    let chunk : IsChunk x inner.old = record {
      utf8 = w.utf8;
      some = w.some;
      reads = subst (λ u. reading (chars word ++ u) ≡ (token.kind, u)) (sym (ap chars inner.text_is)) w.read;
      role = refl;
      means = λ part at. pieces_same part some_part token.kind next next at 0 word (inl refl);
    } in
    record {
      old = x ∷ inner.old;
      are = (chunk, inner.are);
      text_is = ap (λ u. word ++ u) inner.text_is ∙ take-append-drop token.len source;
      told = λ matched. stays_written begins x inner.old written chunk inner.are matched (inner.told (later x inner.old matched));
    }
