-- The first tokens of two texts that begin alike: they are the same, and end at the same place.
use Rattle.std.proofs.Common.{◌≡◌, ◌≢◌, ◌⊎◌, inl, inr, ℕ, suc, ◌<◌, ◌≤◌, Bool, true, false, ◌==◌, ◌&&◌, not, List, [], ◌∷◌, ◌++◌, length, Option, is_some, refl, sym, ap, ap₂, ◌∙◌, subst, arith, if◌then◌else◌}
use Rattle.std.proofs.lemmas.Bool.{false≢true, false_from_ne_true, and_parts, eqb-true}
use Rattle.unicode_ident.proofs.IdentLemmas.{is_xid_continue-ascii}
use Rattle.syntax_lex.proofs.EndFacts.{behind_comment_end, behind_end, behind_name_end, behind_quote_end, literal_end, on, quoted_char_end, raw_text_end, reading_of_end, word_end}
use Rattle.syntax_lex.specs.Class.{is_decimal, is_emoji_mark, is_id_continue, is_id_start, is_odd_rest, is_whitespace}
use Rattle.syntax_lex.specs.Closing.{behind_comment, behind_quote, raw_text}
use Rattle.syntax_lex.specs.Comments.{block_comment, block_doc, line_comment}
use Rattle.syntax_lex.specs.Front.{first, second, skip, behind, behind_name}
use Rattle.syntax_lex.specs.Literals.{quoted, raw}
use Rattle.syntax_lex.specs.Number.{number}
use Rattle.syntax_lex.specs.Opening.{begins_raw, opening, opening_b, opening_c, opening_r, opening_slash}
use Rattle.syntax_lex.specs.Quoted.{literal, quoted_char}
use Rattle.syntax_lex.specs.Reading.{reading, reading_of}
use Rattle.syntax_lex.specs.Stop.{is_in_line}
use Rattle.syntax_lex.specs.Word.{word, word_before}
use Rattle.syntax_lex.specs.declared.opening.Family.{Family}
use Rattle.syntax_lex.specs.declared.opening.Family.TheVariants as opens
use Rattle.syntax_lex.specs.declared.token.LiteralKind.{LiteralKind}
use Rattle.syntax_lex.specs.declared.token.LiteralKind.TheVariants as literals
use Rattle.syntax_lex.specs.declared.token.TokenKind.{TokenKind}
use Rattle.syntax_lex.specs.declared.token.TokenKind.TheVariants as kinds
use Rattle.syntax_lex.proofs.KeepFacts.{IsPlain, no_start}
use Rattle.syntax_lex.proofs.TwinNumbers.{Holds, number_twins}
use Rattle.syntax_lex.proofs.TwinQuotes.{and_none, Counts, Shut, char_twins, comment_front, comment_twins, no_raw_text, quote_twins, raw_text_closes, raw_text_twins}
use Rattle.syntax_lex.proofs.TwinWords.{Fits, apostrophe_twins, inner, is_shut, kind_twins, word_twins}
use Rattle.syntax_lex.proofs.Twins.{Alike, Held, IsShort, Next, Stays, Twins, alike, branch, end_le, ends, front, held_of, name_twins, next_of, not_taken, off, plain, run, run_by, run_kept, short_plain, taken, twin_is, twins_of, unless}
use Rattle.syntax_lex.specs.Stops.{is_number}

-- More than r is left after a comment to the end of a line. So it is after white space, or no less than r
-- is left and s begins with no white space.
abbrev pub Apart : (r s left : List ℕ) → TokenKind → Type 0
Apart r s left (kinds.LineComment doc_style) = length r < length left
Apart r s left kinds.Whitespace = (length r < length left) ⊎ ((length r ≤ length left) × (is_whitespace (first s) ≡ false))
Apart r s left _ = Unit {0}

-- When the reading of a text with r after it is also that with s after it: the token is closed and no prefix, and the rest stays. The rest
-- after a number is not a single point before r, unless r is short.
pub record Suits (r s : List ℕ) (read : TokenKind × List ℕ) : Type 0 where
  pub fits : Fits r s read
  pub apart : Apart r s read.1 read.0
  pub pointless : is_number read.0 ≡ true → (read.1 ≢ 46 ∷ r) ⊎ IsShort r

-- a comment to the end of a line
line_twins : {r s a b : List ℕ} → Twins r s a b → length r < length (behind is_in_line a) → Alike r s (line_comment a) (line_comment b)
line_twins {r = r} ends more = absurd (omega (arith, more, end_le (behind_end is_in_line r)))
line_twins {r = r} {s = s} (front {c = c} ends) more = go (c == 10) refl
  where
    go : (b : Bool) → (c == 10) ≡ b → Alike r s (line_comment (c ∷ r)) (line_comment (c ∷ s))
    go true e = subst (λ x. Alike r s (line_comment (x ∷ r)) (line_comment (x ∷ s))) (sym (eqb-true c 10 e)) (record { kind = refl; left = front ends })
    go false e = absurd (omega (arith, subst (λ b. length r < length (if not b then behind is_in_line r else c ∷ r)) e more, end_le (behind_end is_in_line r)))
line_twins (front {c = c} (front {c = d} t)) more = record { kind = refl; left = run_kept is_in_line (front {c = c} (front {c = d} t)) more }

pub block_twins : {r s a b : List ℕ} → Twins r s a b → (behind_comment 0 a).0 ≡ true → Held r (behind_comment 0 a).1 → Alike r s (block_comment a) (block_comment b)
block_twins {r = r} {a = a} t closed held =
    let shut : Shut r (behind_comment 0 a) = record { closed = closed; held = held } in
    let docs = comment_front t shut in
    let found = comment_twins 0 t shut in
    record { kind = ap₂ (λ d c. kinds.BlockComment d c) (ap₂ block_doc docs.0 docs.1) found.kind; left = found.left }

-- white space
spaces_twins : {r s a b : List ℕ} → Twins r s a b → Apart r s (behind is_whitespace a) kinds.Whitespace → Twins r s (behind is_whitespace a) (behind is_whitespace b)
spaces_twins t (inl more) = run_kept is_whitespace t more
spaces_twins {r = r} {s = s} t (inr (le, none)) = run_by (λ x. length r ≤ length x) is_whitespace (λ m. (stops r m, none)) t le
  where
    stops : (r : List ℕ) → length r ≤ length (behind is_whitespace r) → is_whitespace (first r) ≡ false
    stops [] m = refl
    stops (c ∷ cs) m = false_from_ne_true (is_whitespace c) (λ e. by (subst (λ b. suc (length cs) ≤ length (if b then behind is_whitespace cs else c ∷ cs)) e m))
      where
        by : suc (length cs) ≤ length (behind is_whitespace cs) → ⊥
        by h = omega (arith, h, end_le (behind_end is_whitespace cs))

-- whether several characters select a family
abbrev pub wants_two : Family → Bool
wants_two opens.LineComment = true
wants_two opens.BlockComment = true
wants_two opens.RawIdent = true
wants_two opens.RawStr = true
wants_two opens.Byte = true
wants_two opens.ByteStr = true
wants_two opens.RawByteStr = true
wants_two opens.CStr = true
wants_two opens.RawCStr = true
wants_two opens.Guarded = true
wants_two _ = false

-- a raw string that stays
counts_of : {r s : List ℕ} (text cs : List ℕ) (kind : LiteralKind) → is_some (raw_text cs).0 ≡ true → Stays r s (literal text kind (is_some (raw_text cs).0) (raw_text cs).1).1 → Counts r (raw_text cs)
counts_of text cs kind closed stays = record { closed = closed; held = held_of (inner text kind (is_some (raw_text cs).0) stays) }

-- a string, and a raw one, with its suffix
string_twins : {r s text2 a b : List ℕ} (text : List ℕ) (kind : Bool → LiteralKind) → Twins r s text text2 → Twins r s a b → (behind_quote false a).0 ≡ true
    → Stays r s (literal text (kind (behind_quote false a).0) (behind_quote false a).0 (behind_quote false a).1).1 → Alike r s (quoted text kind (behind_quote false a)) (quoted text2 kind (behind_quote false b))
string_twins {a = a} {b = b} text kind texts t closed stays =
    let found = behind_quote false a in
    kind_twins kind (λ w. w) texts found (behind_quote false b) (quote_twins false t (record { closed = closed; held = held_of (inner text (kind found.0) found.0 stays) })) stays

raw_twins : {r s text2 a b : List ℕ} (text : List ℕ) (kind : Option ℕ → LiteralKind) → Twins r s text text2 → Twins r s a b → is_some (raw_text a).0 ≡ true
    → Stays r s (literal text (kind (raw_text a).0) (is_some (raw_text a).0) (raw_text a).1).1 → Alike r s (raw text kind (raw_text a)) (raw text2 kind (raw_text b))
raw_twins {a = a} {b = b} text kind texts t closed stays = kind_twins kind is_some texts (raw_text a) (raw_text b) (raw_text_twins t (counts_of text a (kind (raw_text a).0) closed stays)) stays

-- no name precedes a point
point_left : (r : List ℕ) → behind_name (46 ∷ r) ≡ 46 ∷ r
point_left r = rw (no_start 46 (omega arith) refl refl) refl

-- the first token by its family
pub family_twins : {r s a b : List ℕ} (family : Family) (c : ℕ) → Twins r s a b → (wants_two family ≡ true → Twins r s (skip a) (skip b)) → Suits r s (reading_of family (c ∷ a) a)
    → Alike r s (reading_of family (c ∷ a) a) (reading_of family (c ∷ b) b)
unfolding reading_of literal
family_twins opens.LineComment c t two m = line_twins (two refl) m.apart
family_twins opens.BlockComment c t two m = block_twins (two refl) m.fits.shut (held_of m.fits.stays)
family_twins opens.Whitespace c t two m = record { kind = refl; left = spaces_twins t m.apart }
family_twins opens.RawIdent c t two m = record { kind = refl; left = name_twins (two refl) m.fits.stays }
family_twins {a = a} opens.RawStr c t two m = raw_twins (c ∷ a) literals.RawStr (front t) t m.fits.shut m.fits.stays
family_twins {a = a} {b = b} opens.Byte c t two m =
    let found = quoted_char (skip a) in
    kind_twins literals.Byte (λ w. w) (front t) found (quoted_char (skip b)) (char_twins (two refl) m.fits.shut (inner (c ∷ a) (literals.Byte found.0) found.0 m.fits.stays)) m.fits.stays
family_twins {a = a} opens.ByteStr c t two m = string_twins (c ∷ a) literals.ByteStr (front t) (two refl) m.fits.shut m.fits.stays
family_twins {a = a} opens.RawByteStr c t two m = raw_twins (c ∷ a) literals.RawByteStr (front t) (two refl) m.fits.shut m.fits.stays
family_twins {a = a} opens.CStr c t two m = string_twins (c ∷ a) literals.CStr (front t) (two refl) m.fits.shut m.fits.stays
family_twins {a = a} opens.RawCStr c t two m = raw_twins (c ∷ a) literals.RawCStr (front t) (two refl) m.fits.shut m.fits.stays
family_twins opens.Word c t two m = word_twins t m.fits
family_twins {r = r} {s = s} {a = a} {b = b} opens.Number c t two m =
    let found = number c a in
    let holds : Holds r s found = record { stays = inner (c ∷ a) found.0 true m.fits.stays; pointless = λ is. by found.1 (m.pointless is) } in
    kind_twins (λ k. k) (λ k. true) (front t) found (number c b) (number_twins c t holds) m.fits.stays
  where
    by : (left : List ℕ) → (behind_name left ≢ 46 ∷ r) ⊎ IsShort r → (left ≢ 46 ∷ r) ⊎ IsShort r
    by left (inl other) = inl (λ e. other (ap behind_name e ∙ point_left r))
    by left (inr h) = inr h
family_twins opens.Guarded c t two m = record { kind = refl; left = two refl }
family_twins opens.Apostrophe c t two m = apostrophe_twins (front {c = c} t) t m.fits
family_twins {a = a} opens.Str c t two m = string_twins (c ∷ a) literals.Str (front t) t m.fits.shut m.fits.stays
family_twins opens.OddWord c t two m = record { kind = refl; left = run is_odd_rest (λ d p. p.no_odd) t m.fits.stays }
family_twins opens.Symbol c t two m = record { kind = refl; left = t }

-- A family that one character selects is the same if nothing follows that character.
opening_one : (c d e : ℕ) → wants_two (opening c d e) ≡ false → opening c d e ≡ opening c 0 0
unfolding opening
opening_one c d e =
    branch One Same (is_whitespace c) _ _ _ _ (λ is m. refl)
    (λ is. branch One Same (c == 47) (opening_slash d) _ opens.Symbol _ (λ is. unless One Same (d == 47) false _ _ opens.LineComment _ two (λ f m. refl) (λ f. unless One Same (d == 42) false _ _ opens.BlockComment opens.Symbol two (λ f m. refl) (λ f m. refl)))
    (λ is. branch One Same (c == 114) (opening_r d e) _ opens.Word _ (λ is. unless One Same ((d == 35) && is_id_start e) false _ _ opens.RawIdent _ two (λ f m. refl) (λ f. unless One Same (begins_raw d) false _ _ opens.RawStr opens.Word two (λ f m. refl) (λ f m. refl)))
    (λ is. branch One Same (c == 98) (opening_b d e) _ opens.Word _
    (λ is. unless One Same (d == 39) false _ _ opens.Byte _ two (λ f m. refl) (λ f. unless One Same (d == 34) false _ _ opens.ByteStr _ two (λ f m. refl) (λ f. unless One Same ((d == 114) && begins_raw e) false _ _ opens.RawByteStr opens.Word two (λ f m. refl) (λ f m. refl))))
    (λ is. branch One Same (c == 99) (opening_c d e) _ opens.Word _ (λ is. unless One Same (d == 34) false _ _ opens.CStr _ two (λ f m. refl) (λ f. unless One Same ((d == 114) && begins_raw e) false _ _ opens.RawCStr opens.Word two (λ f m. refl) (λ f m. refl)))
    (λ is. branch One Same (is_id_start c) _ _ _ _ (λ is m. refl)
    (λ is. branch One Same (is_decimal c) _ _ _ _ (λ is m. refl)
    (λ is. branch One Same (c == 39) _ _ _ _ (λ is m. refl)
    (λ is. branch One Same (c == 34) _ _ _ _ (λ is m. refl)
    (λ is. unless One Same ((c == 35) && begins_raw d) ((c == 35) && begins_raw 0) _ _ opens.Guarded _ two (λ f m. and_none (c == 35)) (λ f m. refl))))))))))
  where
    One : Family → Type 0
    One family = wants_two family ≡ false

    Same : Family → Family → Type 0
    Same f g = f ≡ g

    two : {b : Bool} → b ≡ true → true ≡ false → ⊥
    two is m = false≢true (sym m)

-- a plain character selects the same family as the end
opening_plain : (c d e : ℕ) → IsPlain d → opening c d e ≡ opening c 0 0
unfolding opening
opening_plain c d e p = rw (p.no_slash, p.no_star, p.no_hash, p.no_quote, p.no_apostrophe, p.no_r) refl

-- one character alone selects no family of two
one_decides : (c : ℕ) → wants_two (opening c 0 0) ≡ false
unfolding opening
one_decides c =
    tell (is_whitespace c) _ _ refl (tell (c == 47) _ _ refl (tell (c == 114) _ _ refl (tell (c == 98) _ _ refl (tell (c == 99) _ _ refl (tell (is_id_start c) _ _ refl (tell (is_decimal c) _ _ refl
    (tell (c == 39) _ _ refl (tell (c == 34) _ _ refl (rw (and_none (c == 35)) (tell (is_emoji_mark c) _ _ refl refl))))))))))
  where
    tell : (b : Bool) (f g : Family) → wants_two f ≡ false → wants_two g ≡ false → wants_two (if b then f else g) ≡ false
    tell true f g h k = h
    tell false f g h k = k

-- a family of two characters takes both
two_taken : (family : Family) (c d : ℕ) (ds : List ℕ) → wants_two family ≡ true → is_shut (reading_of family (c ∷ d ∷ ds) (d ∷ ds)).0 ≡ true → length (reading_of family (c ∷ d ∷ ds) (d ∷ ds)).1 < suc (length ds)
unfolding reading_of literal
two_taken opens.LineComment c d ds two shut = omega (arith, end_le (behind_end is_in_line ds))
two_taken opens.BlockComment c d ds two shut = omega (arith, end_le (behind_comment_end 0 ds))
two_taken opens.RawIdent c d ds two shut = omega (arith, end_le (behind_name_end ds))
two_taken opens.RawStr c d ds two shut = omega (arith, raw_text_closes.takes (d ∷ ds) shut, end_le (literal_end (c ∷ d ∷ ds) (literals.RawStr (raw_text (d ∷ ds)).0) (is_some (raw_text (d ∷ ds)).0) (raw_text (d ∷ ds)).1))
two_taken opens.Byte c d ds two shut = let found = quoted_char ds in omega (arith, end_le (on (literal_end (c ∷ d ∷ ds) (literals.Byte found.0) found.0 found.1) (quoted_char_end ds)))
two_taken opens.ByteStr c d ds two shut = let found = behind_quote false ds in omega (arith, end_le (on (literal_end (c ∷ d ∷ ds) (literals.ByteStr found.0) found.0 found.1) (behind_quote_end false ds)))
two_taken opens.RawByteStr c d ds two shut = let found = raw_text ds in omega (arith, end_le (on (literal_end (c ∷ d ∷ ds) (literals.RawByteStr found.0) (is_some found.0) found.1) (raw_text_end ds)))
two_taken opens.CStr c d ds two shut = let found = behind_quote false ds in omega (arith, end_le (on (literal_end (c ∷ d ∷ ds) (literals.CStr found.0) found.0 found.1) (behind_quote_end false ds)))
two_taken opens.RawCStr c d ds two shut = let found = raw_text ds in omega (arith, end_le (on (literal_end (c ∷ d ∷ ds) (literals.RawCStr found.0) (is_some found.0) found.1) (raw_text_end ds)))
two_taken opens.Guarded c d ds two shut = omega arith
two_taken opens.Whitespace c d ds two shut = absurd (false≢true two)
two_taken opens.Word c d ds two shut = absurd (false≢true two)
two_taken opens.Number c d ds two shut = absurd (false≢true two)
two_taken opens.Apostrophe c d ds two shut = absurd (false≢true two)
two_taken opens.Str c d ds two shut = absurd (false≢true two)
two_taken opens.OddWord c d ds two shut = absurd (false≢true two)
two_taken opens.Symbol c d ds two shut = absurd (false≢true two)

-- so the second character is not the first of r
no_two : (r s : List ℕ) (c : ℕ) → Fits r s (reading_of (opening c (first r) (second r)) (c ∷ r) r) → wants_two (opening c (first r) (second r)) ≡ true → ⊥
no_two [] s c m two = false≢true (sym (one_decides c) ∙ two)
no_two (d ∷ ds) s c m two =
    not_taken (held_of m.stays) (two_taken (opening c d (first ds)) c d ds two m.shut)
    (λ h. false≢true (sym (ap wants_two (opening_plain c d (first ds) (short_plain (d ∷ ds) h)) ∙ one_decides c) ∙ two))

name_less : (r : List ℕ) → is_id_start (first r) ≡ true → length (behind_name r) ≤ length (skip r)
name_less r is = rw is (end_le (behind_end is_id_continue (skip r)))

-- a word takes an `r`
word_r : (r : List ℕ) → word (114 ∷ r) ≡ word r
unfolding word
word_r r = ap (λ b. word_before (if b then behind is_id_continue r else 114 ∷ r)) (is_xid_continue-ascii 114 (omega arith))

no_raw_letter : (c : ℕ) → IsPlain c → begins_raw c ≡ false
no_raw_letter c p = rw (p.no_quote, p.no_hash) refl

-- the text after two characters selects their family as s does
pair_twins : {r s : List ℕ} (c x : ℕ) → Fits r s (reading_of (opening c x (first r)) (c ∷ x ∷ r) (x ∷ r)) → opening c x (first r) ≡ opening c x (first s)
unfolding opening reading_of literal
pair_twins {r = r} {s = s} c x =
    branch M Same (is_whitespace c) _ _ _ _ (λ is m. refl)
    (λ is. branch M Same (c == 47) _ _ _ _ (λ is m. refl)
    (λ is. branch M Same (c == 114) _ _ _ _
    (λ is. unless M Same ((x == 35) && is_id_start (first r)) ((x == 35) && is_id_start (first s)) opens.RawIdent _ opens.RawIdent _ name (λ f m. hash (x == 35) refl f m) (λ f m. refl))
    (λ is. branch M Same (c == 98) _ _ _ _
    (λ is. branch M Same (x == 39) _ _ _ _ (λ is m. refl) (λ is. branch M Same (x == 34) _ _ _ _ (λ is m. refl) (λ is. raws opens.RawByteStr (λ m. no_raw_text (counts_of (c ∷ x ∷ r) r (literals.RawByteStr (raw_text r).0) m.shut m.stays)))))
    (λ is. branch M Same (c == 99) _ _ _ _
    (λ is. branch M Same (x == 34) _ _ _ _ (λ is m. refl) (λ is. raws opens.RawCStr (λ m. no_raw_text (counts_of (c ∷ x ∷ r) r (literals.RawCStr (raw_text r).0) m.shut m.stays))))
    (λ is m. refl)))))
  where
    M : Family → Type 0
    M family = Fits r s (reading_of family (c ∷ x ∷ r) (x ∷ r))

    Same : Family → Family → Type 0
    Same f g = f ≡ g

    name : ((x == 35) && is_id_start (first r)) ≡ true → M opens.RawIdent → ⊥
    name e m = let start = (and_parts (x == 35) (is_id_start (first r)) e).1 in taken is_id_start (λ d p. p.no_start) start (name_less r start) (held_of m.stays)

    hash : (b : Bool) → (x == 35) ≡ b → (b && is_id_start (first r)) ≡ false → M (if begins_raw x then opens.RawStr else opens.Word) → (b && is_id_start (first s)) ≡ false
    hash false k f m = refl
    hash true k f m = off is_id_start (λ d p. p.no_start) f (next_of {left = (raw_text (x ∷ r)).1} (inner (c ∷ x ∷ r) (literals.RawStr (raw_text (x ∷ r)).0) (is_some (raw_text (x ∷ r)).0) str.stays) (omega (arith, raw_text_closes.takes (x ∷ r) str.shut)))
      where
        str : M opens.RawStr
        str = subst (λ b. M (if b then opens.RawStr else opens.Word)) (ap begins_raw (eqb-true x 35 k)) m

    raws : (raw : Family) → (M raw → ⊥) → M (if (x == 114) && begins_raw (first r) then raw else opens.Word) → (if (x == 114) && begins_raw (first r) then raw else opens.Word) ≡ (if (x == 114) && begins_raw (first s) then raw else opens.Word)
    raws raw none = unless M Same ((x == 114) && begins_raw (first r)) ((x == 114) && begins_raw (first s)) raw opens.Word raw opens.Word (λ e m. none m) (λ f m. by (x == 114) refl f m) (λ f m. refl)
      where
        by : (b : Bool) → (x == 114) ≡ b → (b && begins_raw (first r)) ≡ false → M opens.Word → (b && begins_raw (first s)) ≡ false
        by false k f m = refl
        by true k f m =
            let word_is : word (x ∷ r) ≡ word r = ap (λ y. word (y ∷ r)) (eqb-true x 114 k) ∙ word_r r in
            off begins_raw no_raw_letter f (next_of (subst (λ w. Stays r s w.1) word_is m.stays) (end_le (word_end r)))

-- the first token of both texts
pub reading_twins : {r s a b : List ℕ} (c : ℕ) → Twins r s a b → Suits r s (reading (c ∷ a)) → Alike r s (reading (c ∷ a)) (reading (c ∷ b))
unfolding reading
reading_twins {r = r} {s = s} c ends m = subst (λ g. Alike r s (reading_of f (c ∷ r) r) (reading_of g (c ∷ s) s)) (same (next_of m.fits.stays (end_le (reading_of_end f (c ∷ r) r)))) (family_twins f c ends (λ two. absurd (false≢true (sym one ∙ two))) m)
  where
    f : Family
    f = opening c (first r) (second r)

    one : wants_two f ≡ false
    one = false_from_ne_true (wants_two f) (no_two r s c m.fits)

    same : Next r s → f ≡ opening c (first s) (second s)
    same (plain p) = opening_one c (first r) (second r) one ∙ sym (opening_plain c (first s) (second s) p)
    same (alike e k) = ap₂ (λ d x. opening c d x) e k
reading_twins {r = r} {s = s} c (front {c = x} ends) m =
    subst (λ g. Alike r s (reading (c ∷ x ∷ r)) (reading_of g (c ∷ x ∷ s) (x ∷ s))) (pair_twins c x m.fits) (family_twins (opening c x (first r)) c (front {c = x} ends) (λ two. ends) m)
reading_twins c (front {c = x} (front {c = y} t)) m = family_twins (opening c x y) c (front {c = x} (front {c = y} t)) (λ two. front {c = y} t) m

-- so a token of a text with r after it is that of the text with s after it
pub token_twin : (c : ℕ) (cs l r s : List ℕ) (kind : TokenKind) → reading (c ∷ (cs ++ r)) ≡ (kind, l ++ r) → Suits r s (kind, l ++ r) → reading (c ∷ (cs ++ s)) ≡ (kind, l ++ s)
token_twin c cs l r s kind read suits =
    let it = reading_twins c (twins_of cs r s) (subst (Suits r s) (sym read) suits) in
    ap₂ (λ k t. (k, t)) (sym it.kind ∙ ap (λ p. p.0) read) (twin_is r s l it.left (ap (λ p. p.1) read))
