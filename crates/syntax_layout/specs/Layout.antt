-- A text with other gaps between its tokens.
use Rattle.std.specs.Prelude.{◌≡◌, ◌⊎◌, ◌<◌, ◌≤◌, ◌^◌, ℕ, ◌+◌, Bool, true, false, not, ◌==◌, ◌&&◌, ◌||◌, List, [], ◌∷◌, ◌++◌, length, take, drop, is_some, if◌then◌else◌}
use Rattle.std.specs.List.{slice_index_or}
use Rattle.std.specs.Str.{chars}
use Rattle.syntax_edit.specs.Kept.{is_parting}
use Rattle.syntax_edit.specs.Whole.{is_whole}
use Rattle.syntax_layout.specs.Documented.{IsDocumented}
use Rattle.syntax_layout.specs.Gap.{AreGaps, IsGap, is_blank}
use Rattle.syntax_lex.specs.Reading.{AreTokensOf, first_token_of}
use Rattle.syntax_lex.specs.declared.token.Token.{Token}
use Rattle.syntax_lex.specs.declared.token.TokenKind.{TokenKind}
use Rattle.syntax_lex.specs.declared.token.TokenKind.TheVariants as kinds
use Rattle.syntax_parse.specs.Pieces.{punct_char}
use Rattle.syntax_unparse.specs.Text.{text_of}
use Rattle.tt_base.specs.Forest.{Forest}
use Rattle.tt_base.specs.TreeText.{space_if}

-- whether a punct right before a token of this kind is joint: before a punct, and before a lifetime
abbrev pub joins_before : TokenKind → Bool
joins_before (kinds.Lifetime starts_with_number) = true
joins_before kinds.RawLifetime = true
joins_before kind = is_some (punct_char kind)

-- whether the first of two tokens is a joint punct if it touches the second
abbrev pub joins : TokenKind → TokenKind → Bool
joins kind next = is_some (punct_char kind) && joins_before next

-- whether a token with this text stays the same before another text: the first token of both texts has the same length, and depends only on its own text
abbrev pub stays_before : (word behind : List ℕ) → Bool
stays_before word behind =
    ((first_token_of (chars (word ++ behind))).len == length word) && is_whole (first_token_of (chars (word ++ behind))).kind

-- whether a text begins with white space of ASCII, a bracket, a comma or a semicolon, which end each token before them
abbrev pub begins_parting : List ℕ → Bool
begins_parting [] = false
begins_parting (b ∷ behind) = is_parting b

-- whether a token ends before a text: because of what the text begins with, or because the token stays the same
abbrev pub ends_before : (word behind : List ℕ) → Bool
ends_before word behind = begins_parting behind || stays_before word behind

-- a gap between two tokens, after a space if the first token does not end before the gap; a space replaces an empty gap if the tokens may not touch
abbrev pub parting : (joining : Bool) → (before gap behind : List ℕ) → List ℕ
parting joining before [] behind = space_if (joining || not (ends_before before behind))
parting joining before (b ∷ gap) behind = space_if (not (ends_before before (b ∷ gap))) ++ b ∷ gap

-- what stands between two tokens: nothing after a joint punct, and else the gap
abbrev pub between : (touching joining : Bool) → (before gap behind : List ℕ) → List ℕ
between touching joining before gap behind = if touching && joining then [] else parting joining before gap behind

-- what stands before a token: only the gap before the first
abbrev pub put_before : (first touching joining : Bool) → (before gap behind : List ℕ) → List ℕ
put_before first touching joining before gap behind = if first then gap else between touching joining before gap behind

-- whether a token certainly touches the next: it is a joint punct, or the gap is empty and the token ends before the text of the next alone
abbrev pub touches_surely : (touching joining : Bool) → (before gap word : List ℕ) → Bool
touches_surely touching joining before gap word = (touching && joining) || ((length gap == 0) && (not joining && ends_before before word))

-- what follows the last token: a gap, after a space if the token does not end before it; only the gap if no token was written
abbrev pub ending : (first : Bool) → (before gap : List ℕ) → List ℕ
ending first before [] = []
ending first before (b ∷ gap) = space_if (not first && not (ends_before before (b ∷ gap))) ++ b ∷ gap

-- the next token, if a token certainly touches it
abbrev pub touched : (touching : Bool) → TokenKind → (before gap : List ℕ) → (text : List ℕ) → List Token → List ℕ
touched touching kind before gap text [] = []
touched touching kind before gap text (token ∷ tokens) =
    if is_blank token.kind then touched false kind before gap (drop token.len text) tokens
    else (if touches_surely touching (joins kind token.kind) before gap (take token.len text) then take token.len text else [])

-- the first token and what it certainly touches, if this is the gap after it
abbrev pub ahead : (gap text : List ℕ) → Token → List Token → List ℕ
ahead gap text token tokens = take token.len text ++ touched true token.kind (take token.len text) gap (drop token.len text) tokens

-- What is written of the tokens of a text after a token of a kind with a text, or of the first tokens: each after the next gap, and one more gap.
-- The text's own blanks are dropped; only whether there were any is kept.
abbrev pub laid : (first touching : Bool) → (kind : TokenKind) → (before : List ℕ) → (used : ℕ) → (text : List ℕ) → List Token → (gaps : List (List ℕ)) → List ℕ
laid first touching kind before used text [] gaps = ending first before (slice_index_or gaps used [])
laid first touching kind before used text (token ∷ tokens) gaps =
    if is_blank token.kind then laid first false kind before used (drop token.len text) tokens gaps
    else (put_before first touching (joins kind token.kind) before (slice_index_or gaps used []) (ahead (slice_index_or gaps (used + 1) []) text token tokens) ++ take token.len text)
    ++ laid false true token.kind (take token.len text) (used + 1) (drop token.len text) tokens gaps

-- the text of these tokens laid out with gaps, the n-th before the n-th token that is not blank, and one more behind the last
abbrev pub laid_out : (text : List ℕ) → List Token → (gaps : List (List ℕ)) → List ℕ
laid_out text tokens gaps = laid true false kinds.Whitespace [] 0 text tokens gaps

-- whether each token is blank or depends only on its own text: none is a comment that documents something
abbrev pub are_plain : List Token → Bool
are_plain [] = true
are_plain (token ∷ tokens) = (is_blank token.kind || is_whole token.kind) && are_plain tokens

-- what is written of a text with gaps
pub record IsLaidOut (text : List ℕ) (gaps : List (List ℕ)) (written : List ℕ) : Type 0 where
  pub tokens : List Token
  pub read : AreTokensOf tokens (chars text)
  pub plain : are_plain tokens ≡ true
  pub is : written ≡ laid_out text tokens gaps

-- a text has a token that is not blank and does not depend only on its own text
pub record HasOthers (text : List ℕ) : Type 0 where
  pub tokens : List Token
  pub read : AreTokensOf tokens (chars text)
  pub others : are_plain tokens ≡ false

-- A caller's text counts as a gap if it is one and is not too long, and else as an empty gap.
pub record IsFit (asked used : List ℕ) : Type 0 where
  pub gap : IsGap used
  pub short : length used < 2 ^ 31
  pub kept : IsGap asked → length asked < 2 ^ 31 → used ≡ asked
  pub dropped : (IsGap asked × (length asked < 2 ^ 31) → ⊥) → used ≡ []

abbrev pub AreFit : (asked used : List (List ℕ)) → Type 0
AreFit [] [] = Unit {0}
AreFit [] (u ∷ used) = ⊥
AreFit (a ∷ asked) [] = ⊥
AreFit (a ∷ asked) (u ∷ used) = IsFit a u × AreFit asked used

-- the Rust text of trees laid out with gaps, or the plain text if the laid text is too long
pub record IsLaidTree (trees : Forest) (gaps : List (List ℕ)) (text : List ℕ) : Type 0 where
  pub written : List ℕ
  pub laid : IsLaidOut (text_of trees) gaps written
  pub is : ((text ≡ written) × (1 + length written < 2 ^ 32)) ⊎ ((text ≡ text_of trees) × (2 ^ 32 ≤ 1 + length written))

-- what is written of trees with the gaps that a caller asked for: the plain text if it is too long to be laid out
abbrev pub IsTreeText : (trees : Forest) → (asked : List (List ℕ)) → (text : List ℕ) → Type 0
IsTreeText trees asked text =
    ((text ≡ text_of trees) × (2 ^ 31 ≤ length (text_of trees))) ⊎ ((used : List (List ℕ)) × AreFit asked used × IsLaidTree trees used text)

-- what is written of trees with some gaps: the plain text if it is too long to be laid out, and else the laid text with documenting comments
abbrev pub IsLaidText : (trees : Forest) → (text : List ℕ) → Type 0
IsLaidText trees text =
    ((text ≡ text_of trees) × (2 ^ 31 ≤ length (text_of trees)))
    ⊎ ((gaps : List (List ℕ)) × (written : List ℕ) × AreGaps gaps × IsLaidTree trees gaps written × IsDocumented true written text)
