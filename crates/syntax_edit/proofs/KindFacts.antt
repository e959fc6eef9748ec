-- Facts about a token by its kind, and what the first characters of a text say about its first token.
use Rattle.std.proofs.Common.{◌≡◌, ◌⊎◌, inl, inr, ℕ, ◌+◌, true, false, List, [], ◌∷◌, length, Option, None, Some, refl, sym, ap, ◌∙◌, ◌==◌, not, ◌++◌, ap₂}
use Rattle.std.proofs.lemmas.Bool.{eqb-true, false≢true, not-false}
use Rattle.syntax_edit.proofs.Roles.{leaf_valid, literal_closed, literal_two}
use Rattle.syntax_edit.proofs.Tokens.{block_more}
use Rattle.syntax_edit.proofs.ToldKinds.{apostrophe_kind, word_kind}
use Rattle.syntax_edit.specs.Kept.{is_sound, is_line}
use Rattle.syntax_lex.proofs.KeepFacts.{not_true}
use Rattle.syntax_lex.proofs.Tables.{Known, known, opening_facts, symbol_passes}
use Rattle.syntax_lex.specs.Stops.{is_ended}
use Rattle.syntax_lex.proofs.ByteFacts.{behind_head}
use Rattle.syntax_lex.specs.Class.{is_whitespace}
use Rattle.syntax_lex.specs.Comments.{block_comment}
use Rattle.syntax_lex.specs.Front.{behind, first, second, skip}
use Rattle.syntax_lex.specs.Opening.{opening, symbol}
use Rattle.syntax_lex.specs.Quoted.{literal}
use Rattle.syntax_lex.specs.Reading.{reading, reading_of}
use Rattle.syntax_lex.specs.Stop.{is_in_line}
use Rattle.syntax_lex.specs.declared.opening.Family.TheVariants as opens
use Rattle.syntax_lex.specs.declared.opening.Family.{Family}
use Rattle.syntax_lex.specs.declared.token.TokenKind.TheVariants as kinds
use Rattle.syntax_lex.specs.declared.token.TokenKind.{TokenKind}
use Rattle.syntax_parse.proofs.ShapeParts.{begins}
use Rattle.syntax_parse.specs.Pieces.{leaves_of, pieces_as, pieces_of, placed, punct_char, puncts, sorts_of, spacing_before}
use Rattle.syntax_parse.specs.Role.{role_in}
use Rattle.syntax_parse.specs.Spelled.{Sort}
use Rattle.syntax_parse.specs.declared.fault.BadToken.TheVariants as bad
use Rattle.syntax_parse.specs.declared.fault.BadToken.{BadToken}
use Rattle.syntax_parse.specs.declared.role.Role.TheVariants.{Bad, Nothing, Opens, Closes, Leaf}
use Rattle.syntax_parse.specs.declared.role.Role.{Role}
use Rattle.syntax_unparse.specs.Settled.{sorts}
use Rattle.syntax_unparse.specs.Writable.{is_lifetime}
use Rattle.tt_base.specs.declared.span.SpanPart.{SpanPart}

-- a token that is not bad is sound
pub sound_role : (kind : TokenKind) (text : List ℕ) → ((why : BadToken) → role_in kind text ≡ Bad why → ⊥) → is_sound kind ≡ true
sound_role (kinds.BlockComment None false) text fine = absurd (fine bad.UnterminatedComment refl)
sound_role (kinds.BlockComment (Some style) false) text fine = absurd (fine bad.UnterminatedComment refl)
sound_role (kinds.BlockComment style true) text fine = refl
sound_role (kinds.Literal kind start) text fine = literal_closed kind start text (leaf_valid (role_in (kinds.Literal kind start) text) (literal_two kind start text) fine)
sound_role kinds.InvalidIdent text fine = absurd (fine bad.InvalidIdent refl)
sound_role kinds.UnknownPrefix text fine = absurd (fine bad.UnknownPrefix refl)
sound_role kinds.UnknownPrefixLifetime text fine = absurd (fine bad.UnknownPrefix refl)
sound_role kinds.GuardedStrPrefix text fine = absurd (fine bad.GuardedPrefix refl)
sound_role kind text fine = refl

-- one part of a span
abbrev pub some_part : SpanPart
some_part = record { anchor = record { file_id = record { 0 = 0 }; ast_id = record { 0 = 0 } }; ctx = record { 0 = 0 } }

-- sorts with one span
pub placed_sorts : (part : SpanPart) (start end : ℕ) (ss : List Sort) → sorts (placed part start end ss) ≡ ss
placed_sorts part start end [] = refl
placed_sorts part start end (s ∷ ss) = ap (λ t. s ∷ t) (placed_sorts part start end ss)

-- the kind is no punct, or the spacing is the same before these
abbrev pub SameBefore : TokenKind → (n m : Option TokenKind) → Type 0
SameBefore kind n m = (spacing_before n ≡ spacing_before m) ⊎ (punct_char kind ≡ None)

punct_next : (kind : TokenKind) (n m : Option TokenKind) → SameBefore kind n m → puncts (punct_char kind) (spacing_before n) ≡ puncts (punct_char kind) (spacing_before m)
punct_next kind n m (inl same) = ap (λ s. puncts (punct_char kind) s) same
punct_next kind n m (inr none) = ap (λ o. puncts o (spacing_before n)) none ∙ ap (λ o. puncts o (spacing_before m)) (sym none)

sorts_next : (kind : TokenKind) (n m : Option TokenKind) (text : List ℕ) → SameBefore kind n m → sorts_of kind n text ≡ sorts_of kind m text
sorts_next (kinds.LineComment (Some style)) n m text same = refl
sorts_next (kinds.BlockComment (Some style) terminated) n m text same = refl
sorts_next kinds.Ident n m text same = refl
sorts_next kinds.RawIdent n m text same = refl
sorts_next (kinds.Literal kind start) n m text same = refl
sorts_next kind n m text same = punct_next kind n m same

leaves_same : (part other : SpanPart) (kind : TokenKind) (n m : Option TokenKind) (at to : ℕ) (text : List ℕ) → SameBefore kind n m
    → sorts (leaves_of part kind n at text) ≡ sorts (leaves_of other kind m to text)
leaves_same part other (kinds.Lifetime digit) n m at to text same = refl
leaves_same part other kinds.RawLifetime n m at to text same = refl
leaves_same part other kind n m at to text same =
    placed_sorts part at (at + length text) (sorts_of kind n text) ∙ sorts_next kind n m text same ∙ sym (placed_sorts other to (to + length text) (sorts_of kind m text))

-- the reading of a token depends on what follows it only by the spacing, and not on its place
pub pieces_same : (part other : SpanPart) (kind : TokenKind) (n m : Option TokenKind) (at to : ℕ) (text : List ℕ) → SameBefore kind n m
    → sorts (pieces_of part kind n at text) ≡ sorts (pieces_of other kind m to text)
pieces_same part other kind n m at to text same = by (role_in kind text)
  where
    by : (role : Role) → sorts (pieces_as role part kind n at text) ≡ sorts (pieces_as role other kind m to text)
    by (Bad why) = refl
    by Nothing = refl
    by (Opens pair) = refl
    by (Closes pair) = refl
    by Leaf = leaves_same part other kind n m at to text same

-- white space is a token to its end
pub blank_read : (c : ℕ) (cs : List ℕ) → is_whitespace c ≡ true → reading (c ∷ cs) ≡ (kinds.Whitespace, behind is_whitespace cs)
unfolding reading reading_of opening
blank_read c cs is = rw is refl

-- a slash and an asterisk begin a block comment
star : (cs : List ℕ) → reading (47 ∷ 42 ∷ cs) ≡ block_comment cs
unfolding reading reading_of opening
star cs = refl

-- a lifetime begins with a quote
pub life_first : (c : ℕ) (cs : List ℕ) → is_lifetime (reading (c ∷ cs)).0 ≡ true → c ≡ 39
unfolding reading reading_of literal
life_first c cs = by (opening c (first cs) (second cs)) (opening_facts c (first cs) (second cs))
  where
    by : (family : Family) → Known family c (first cs) → is_lifetime (reading_of family (c ∷ cs) cs).0 ≡ true → c ≡ 39
    by opens.Apostrophe (known is) h = is
    by opens.Symbol k h = absurd (false≢true (sym (not_true (is_lifetime (symbol c)) (symbol_passes (λ n kind. not (is_lifetime kind)) refl c refl)) ∙ h))
    by opens.Word k h = absurd (false≢true (sym (word_kind (λ t. is_lifetime t ≡ false) refl refl refl cs) ∙ h))
    by family k h = absurd (false≢true h)

-- the end of the line follows a comment to the end of the line
pub line_left : (c : ℕ) (cs : List ℕ) (kind : TokenKind) (f : ℕ) (fs : List ℕ) → reading (c ∷ cs) ≡ (kind, f ∷ fs) → is_line kind ≡ true → f ≡ 10
unfolding reading reading_of literal
line_left c cs kind f fs read line = by (opening c (first cs) (second cs)) read
  where
    by : (family : Family) → reading_of family (c ∷ cs) cs ≡ (kind, f ∷ fs) → f ≡ 10
    by opens.LineComment h = eqb-true f 10 (not-false (f == 10) (behind_head is_in_line (skip cs) f fs (ap (λ p. p.1) h)))
    by opens.Symbol h = absurd (false≢true (sym (not_true (is_line (symbol c)) (symbol_passes (λ n t. not (is_line t)) refl c refl)) ∙ ap (λ p. is_line p.0) h ∙ line))
    by opens.Word h = absurd (false≢true (sym (word_kind (λ t. is_line t ≡ false) refl refl refl cs) ∙ ap (λ p. is_line p.0) h ∙ line))
    by opens.Apostrophe h = absurd (false≢true (sym (apostrophe_kind (λ t. is_line t ≡ false) refl refl (λ digit. refl) (λ closed start. refl) (c ∷ cs) cs) ∙ ap (λ p. is_line p.0) h ∙ line))
    by family h = absurd (false≢true (ap (λ p. is_line p.0) h ∙ line))

-- a token is the same whatever follows it, or it is ended
abbrev pub Last : (c : ℕ) → (cs : List ℕ) → TokenKind → Type 0
Last c cs kind = (((r : List ℕ) → reading (c ∷ (cs ++ r)) ≡ (kind, r)) × (punct_char kind ≡ None)) ⊎ (is_ended kind ≡ true)

-- this holds for each sound token that is no white space and no comment to the end of the line
pub last_is : (c : ℕ) (cs : List ℕ) (kind : TokenKind) → is_whitespace c ≡ false → reading (c ∷ cs) ≡ (kind, []) → is_sound kind ≡ true → is_line kind ≡ false → Last c cs kind
unfolding reading reading_of literal
last_is c cs kind space read sound line = by (opening c (first cs) (second cs)) (opening_facts c (first cs) (second cs)) read
  where
    more : c ≡ 47 → first cs ≡ 42 → block_comment (skip cs) ≡ (kind, []) → (r : List ℕ) → reading (c ∷ (cs ++ r)) ≡ (kind, r)
    more is mark h r = ap₂ (λ d ds. reading (d ∷ (ds ++ r))) is (begins cs 41 mark) ∙ star (skip cs ++ r) ∙ block_more (skip cs) r kind h sound

    -- a kind that is ended if it is sound
    ends : (p : TokenKind × List ℕ) → p ≡ (kind, []) → (is_sound p.0 ≡ true → is_ended p.0 ≡ true) → Last c cs kind
    ends p h ended = inr (sym (ap (λ q. is_ended q.0) h) ∙ ended (ap (λ q. is_sound q.0) h ∙ sound))

    by : (family : Family) → Known family c (first cs) → reading_of family (c ∷ cs) cs ≡ (kind, []) → Last c cs kind
    by opens.LineComment k h = absurd (false≢true (sym line ∙ ap (λ p. is_line p.0) (sym h)))
    by opens.BlockComment (known (is, mark)) h = inl (more is mark h, ap (λ p. punct_char p.0) (sym h))
    by opens.Whitespace (known is) h = absurd (false≢true (sym space ∙ is))
    by opens.Guarded k h = absurd (false≢true (ap (λ p. is_sound p.0) h ∙ sound))
    by opens.OddWord k h = absurd (false≢true (ap (λ p. is_sound p.0) h ∙ sound))
    by opens.Symbol k h = ends _ h (λ s. symbol_passes (λ n t. is_ended t) refl c refl)
    by opens.Word k h = ends _ h (word_kind (λ t. is_sound t ≡ true → is_ended t ≡ true) (λ s. absurd (false≢true s)) (λ s. absurd (false≢true s)) (λ s. refl) cs)
    by opens.Apostrophe k h =
        ends _ h (apostrophe_kind (λ t. is_sound t ≡ true → is_ended t ≡ true) (λ s. refl) (λ s. absurd (false≢true s)) (λ digit s. refl) (λ closed start s. s) (c ∷ cs) cs)
    by family k h = ends _ h (λ s. s)
