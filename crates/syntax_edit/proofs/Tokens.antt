-- A token if what follows it changes.
use Rattle.std.proofs.Common.{◌≡◌, ◌≢◌, ◌⊎◌, inl, inr, ℕ, ◌<◌, true, false, List, [], ◌∷◌, ◌++◌, length, refl, sym, ap, ap₂, ◌∙◌, subst, arith, append-nil, append_assoc, length-append}
use Rattle.std.proofs.lemmas.List.{append_cancel_right}
use Rattle.std.proofs.lemmas.Bool.{false≢true}
use Rattle.syntax_lex.specs.Comments.{block_comment}
use Rattle.syntax_lex.specs.Reading.{reading}
use Rattle.syntax_lex.specs.declared.token.TokenKind.{TokenKind}
use Rattle.syntax_lex.specs.declared.token.TokenKind.TheVariants as kinds
use Rattle.syntax_edit.specs.Kept.{is_line, is_number, is_parting, is_sound}
use Rattle.syntax_edit.specs.Whole.{is_whole}
use Rattle.syntax_lex.proofs.KeepFacts.{plain_null, plain_parting}
use Rattle.syntax_lex.proofs.ReadKeeps.{ended_apart, sound_known, sound_shut, token_plain}
use Rattle.syntax_lex.proofs.TwinReads.{Apart, Suits, block_twins, reading_twins, token_twin}
use Rattle.syntax_lex.proofs.Twins.{IsShort, ended, enough, kept, plain, short, twin_is, twins_le, twins_of}
use Rattle.syntax_lex.specs.Stops.{is_ended}

-- a token is apart from the end, except a comment to the end of a line
line_apart : (r left : List ℕ) (kind : TokenKind) → is_line kind ≡ false → length r ≡ length left → Apart r [] left kind
line_apart r left (kinds.LineComment doc) h e = absurd (false≢true (sym h))
line_apart r left kinds.Whitespace h e = inr (omega (arith, e), refl)
line_apart r left kind h e = tt

-- and from anything, if something is kept after it
kept_apart : (r s left : List ℕ) (kind : TokenKind) → length r < length left → Apart r s left kind
kept_apart r s left (kinds.LineComment doc) more = more
kept_apart r s left kinds.Whitespace more = inl more
kept_apart r s left kind more = tt

pub some_length : (xs : List ℕ) → xs ≢ [] → 0 < length xs
some_length [] some = absurd (some refl)
some_length (x ∷ xs) some = omega arith

-- a token with a kept part after it is the same whatever follows that part
kept_twin : (text kept_part r s : List ℕ) (kind : TokenKind) → text ≢ [] → kept_part ≢ [] → reading (text ++ (kept_part ++ r)) ≡ (kind, kept_part ++ r) → is_sound kind ≡ true
    → ((is_number kind ≡ true → kept_part ≢ 46 ∷ []) ⊎ (r ≡ [])) → reading (text ++ (kept_part ++ s)) ≡ (kind, kept_part ++ s)
kept_twin [] l r s kind some more read sound other = absurd (some refl)
kept_twin (c ∷ cs) l r s kind some more read sound other =
    ap (λ t. reading (c ∷ t)) (sym (append_assoc cs l s))
    ∙ token_twin c (cs ++ l) l r s kind (ap (λ t. reading (c ∷ t)) (append_assoc cs l r) ∙ read) (record {
      fits = record { stays = kept longer; shut = sound_shut kind sound; known = inl (sound_known kind sound) };
      apart = kept_apart r s (l ++ r) kind longer;
      pointless = by other;
    })
  where
    longer : length r < length (l ++ r)
    longer = omega (arith, length-append l r, some_length l more)

    by : ((is_number kind ≡ true → l ≢ 46 ∷ []) ⊎ (r ≡ [])) → is_number kind ≡ true → (l ++ r ≢ 46 ∷ r) ⊎ IsShort r
    by (inl none) is = inl (λ e. none is (append_cancel_right l (46 ∷ []) r e))
    by (inr nil) is = inr (subst IsShort (sym nil) tt)

pub token_kept : (text kept_part rest other : List ℕ) (kind : TokenKind) → text ≢ [] → kept_part ≢ [] → reading (text ++ (kept_part ++ rest)) ≡ (kind, kept_part ++ rest) → is_sound kind ≡ true
    → (is_number kind ≡ true → kept_part ≢ 46 ∷ []) → reading (text ++ (kept_part ++ other)) ≡ (kind, kept_part ++ other)
token_kept text l rest other kind some more read sound number = kept_twin text l rest other kind some more read sound (inl number)

-- the token is that of the kept part
pub kept_alone : (text kept_part rest : List ℕ) (kind : TokenKind) → text ≢ [] → kept_part ≢ [] → reading (text ++ (kept_part ++ rest)) ≡ (kind, kept_part ++ rest) → is_sound kind ≡ true
    → (is_number kind ≡ true → kept_part ≢ 46 ∷ []) → reading (text ++ kept_part) ≡ (kind, kept_part)
kept_alone text l rest kind some more read sound number =
    subst (λ t. reading (text ++ t) ≡ (kind, t)) (append-nil l) (token_kept text l rest [] kind some more read sound number)

-- and the same with more after the kept part
pub kept_more : (text kept_part other : List ℕ) (kind : TokenKind) → text ≢ [] → kept_part ≢ [] → reading (text ++ kept_part) ≡ (kind, kept_part) → is_sound kind ≡ true
    → reading (text ++ (kept_part ++ other)) ≡ (kind, kept_part ++ other)
kept_more text l other kind some more read sound = kept_twin text l [] other kind some more (subst (λ t. reading (text ++ t) ≡ (kind, t)) (sym (append-nil l)) read) sound (inr refl)

-- a token before a rest is the token alone
pub alone : (text r : List ℕ) (kind : TokenKind) → text ≢ [] → reading (text ++ r) ≡ (kind, r) → is_sound kind ≡ true → is_line kind ≡ false → reading text ≡ (kind, [])
alone [] r kind some read sound line = absurd (some refl)
alone (c ∷ cs) r kind some read sound line = ap (λ t. reading (c ∷ t)) (sym (append-nil cs)) ∙ token_twin c cs [] r [] kind read (record {
  fits = record { stays = ended (omega arith) (plain plain_null); shut = sound_shut kind sound; known = inl (sound_known kind sound) };
  apart = line_apart r r kind line refl;
  pointless = λ is. inl (λ e. omega (arith, ap length e));
})

-- a comment that is closed is the same whatever follows it
pub block_more : (cs r : List ℕ) (kind : TokenKind) → block_comment cs ≡ (kind, []) → is_sound kind ≡ true → block_comment (cs ++ r) ≡ (kind, r)
block_more cs r kind read sound =
    let at : block_comment (cs ++ []) ≡ (kind, []) = ap block_comment (append-nil cs) ∙ read in
    let it = block_twins (twins_of cs [] r) (ap (λ p. is_sound p.0) at ∙ sound) (enough (omega arith)) in
    ap₂ (λ k t. (k, t)) (sym it.kind ∙ ap (λ p. p.0) at) (twin_is [] r [] it.left (ap (λ p. p.1) at))

whole_sound : (kind : TokenKind) → is_whole kind ≡ true → (is_sound kind ≡ true) × (is_line kind ≡ false)
whole_sound (kinds.LineComment doc) h = absurd (false≢true h)
whole_sound (kinds.BlockComment doc terminated) h = absurd (false≢true h)
whole_sound kinds.InvalidIdent h = absurd (false≢true h)
whole_sound kinds.UnknownPrefix h = absurd (false≢true h)
whole_sound kinds.UnknownPrefixLifetime h = absurd (false≢true h)
whole_sound kinds.GuardedStrPrefix h = absurd (false≢true h)
whole_sound (kinds.Literal kind start) h = (h, refl)
whole_sound kind h = (refl, refl)

-- so a token of a text is the same token if it takes all of the text
pub token_alone : (text rest : List ℕ) (kind : TokenKind) → text ≢ [] → reading (text ++ rest) ≡ (kind, rest) → is_whole kind ≡ true → reading text ≡ (kind, [])
token_alone text rest kind some read is = let it = whole_sound kind is in alone text rest kind some read it.0 it.1

pub token_parted : (text rest : List ℕ) (c : ℕ) (kind : TokenKind) → text ≢ [] → reading text ≡ (kind, []) → is_sound kind ≡ true → is_ended kind ≡ true → is_parting c ≡ true
    → reading (text ++ c ∷ rest) ≡ (kind, c ∷ rest)
token_parted text rest c kind some read sound ends parts = token_plain text (c ∷ rest) kind some read ends (plain_parting c parts)

-- no token of two characters or more ends with such a character
pub never_last : (front : List ℕ) (c : ℕ) (kind : TokenKind) → front ≢ [] → reading (front ++ c ∷ []) ≡ (kind, []) → is_sound kind ≡ true → is_ended kind ≡ true → is_parting c ≢ true
never_last [] c kind some read sound ends parts = some refl
never_last (d ∷ ds) c kind some read sound ends parts =
    let suits : Suits (c ∷ []) [] (kind, []) = record {
      fits = record { stays = short (plain_parting c parts) plain_null; shut = sound_shut kind sound; known = inl (sound_known kind sound) };
      apart = ended_apart (c ∷ []) [] [] kind ends;
      pointless = λ is. inr (plain_parting c parts);
    } in
    let it = reading_twins d (twins_of ds (c ∷ []) []) (subst (Suits (c ∷ []) []) (sym read) suits) in
    omega (arith, twins_le it.left, ap (λ p. length p.1) read)
