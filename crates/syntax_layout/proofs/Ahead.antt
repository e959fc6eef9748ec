-- What loops over the tokens of a text keep: any tokens of what is left complete those of the text.
use Rattle.std.proofs.Common.{◌≡◌, ℕ, ◌+◌, ◌<◌, Bool, true, false, not, ◌==◌, is_some, ◌||◌, ◌&&◌, List, [], ◌∷◌, ◌++◌, length, take, drop, get_or, refl, sym, ap, ap₂, ◌∙◌, subst, arith, append_assoc, if◌then◌else◌}
use Rattle.std.proofs.lemmas.Bool.{false≢true}
use Rattle.std.specs.Prelude.{OnOk, Result, Ok, Err}
use Rattle.std.specs.Str.{chars, IsUtf8}
use Rattle.syntax_layout.specs.Gap.{IsGap, are_blank, is_blank}
use Rattle.syntax_layout.specs.Layout.{HasOthers, IsLaidOut, ahead, are_plain, begins_parting, ending, ends_before, joins, joins_before, laid, laid_out, put_before, stays_before, touched, touches_surely}
use Rattle.syntax_lex.proofs.FrontFacts.{chars-empty, empty_from_chars}
use Rattle.syntax_lex.proofs.TokenFacts.{one_list}
use Rattle.syntax_lex.specs.Reading.{AreTokensOf, first_token_of}
use Rattle.syntax_lex.specs.declared.token.Token.{Token}
use Rattle.syntax_lex.specs.declared.token.TokenKind.{TokenKind}
use Rattle.syntax_lex.specs.declared.token.TokenKind.TheVariants as kinds
use Rattle.syntax_edit.specs.Whole.{is_whole}
use Rattle.syntax_edit.specs.Kept.{ends_in_line, is_line, is_parting}
use Rattle.syntax_parse.proofs.TextFacts.{cut, tokens_exist}
use Rattle.syntax_parse.specs.Pieces.{punct_char}
use Rattle.tt_base.specs.TreeText.{space_if}

-- a token before the tokens of what is left behind it
pub one_before : (rest behind : List ℕ) (token : Token) (more : List Token) → IsUtf8 rest → 0 < length rest → token ≡ first_token_of (chars rest) → behind ≡ drop token.len rest
    → AreTokensOf more (chars behind) → AreTokensOf (token ∷ more) (chars rest)
one_before rest behind token more utf8 some is left are = (
  (λ none. absurd (omega (arith, empty_from_chars rest utf8 none))),
  is,
  subst (λ cs. AreTokensOf more cs) (ap chars left ∙ ap (λ t. chars (drop t.len rest)) is ∙ (cut rest utf8 some).left) are,
)

-- the tokens of what stands behind the first
pub some_behind : (behind : List ℕ) → (more : List Token) × AreTokensOf more (chars behind)
some_behind behind = tokens_exist (length (chars behind)) (chars behind) (omega arith)

-- whether tokens end in a comment to the end of a line, behind others that do or do not
abbrev pub line_end : Bool → List Token → Bool
line_end line [] = line
line_end line (token ∷ tokens) = line_end (is_line token.kind) tokens

pub ends_line : (tokens : List Token) → ends_in_line tokens ≡ line_end false tokens
ends_line [] = refl
ends_line (a ∷ []) = refl
ends_line (a ∷ b ∷ tokens) = ends_line (b ∷ tokens)

-- so far all is blank
pub record CompletesGap (text : List ℕ) (line : Bool) (more : List Token) : Type 0 where
  pub tokens : List Token
  pub read : AreTokensOf tokens (chars text)
  pub blank : are_blank tokens ≡ are_blank more
  pub ends : ends_in_line tokens ≡ line_end line more

abbrev pub IsGapAhead : (text rest : List ℕ) → (line : Bool) → Type 0
IsGapAhead text rest line = (more : List Token) → AreTokensOf more (chars rest) → CompletesGap text line more

pub gap_start : (text : List ℕ) → IsGapAhead text text false
gap_start text more are = record { tokens = more; read = are; blank = refl; ends = ends_line more }

pub gap_step : (text rest behind : List ℕ) (line next : Bool) (token : Token) → IsUtf8 rest → 0 < length rest → token ≡ first_token_of (chars rest) → behind ≡ drop token.len rest
    → is_blank token.kind ≡ true → next ≡ is_line token.kind → IsGapAhead text rest line → IsGapAhead text behind next
gap_step text rest behind line next token utf8 some is left blank told far more are =
    let all = far (token ∷ more) (one_before rest behind token more utf8 some is left are) in record {
      tokens = all.tokens;
      read = all.read;
      blank = all.blank ∙ ap (λ b. b && are_blank more) blank;
      ends = all.ends ∙ ap (λ b. line_end b more) (sym told);
    }

-- one token is not
pub gap_other : (text rest : List ℕ) (line : Bool) (token : Token) → IsUtf8 rest → 0 < length rest → token ≡ first_token_of (chars rest) → is_blank token.kind ≡ false → IsGapAhead text rest line → IsGap text → ⊥
gap_other text rest line token utf8 some is other far gap =
    let more = some_behind (drop token.len rest) in
    let all = far (token ∷ more.0) (one_before rest (drop token.len rest) token more.0 utf8 some is refl more.1) in
    let same = one_list all.tokens gap.tokens (chars text) all.read gap.read in
    false≢true (sym (all.blank ∙ ap (λ b. b && are_blank more.0) other) ∙ ap are_blank same ∙ gap.blank)

-- all is, and the last is no comment to the end of a line
pub gap_end : (text rest : List ℕ) → IsUtf8 text → length rest ≡ 0 → IsGapAhead text rest false → IsGap text
gap_end text rest utf8 none far =
    let all = far [] (chars-empty rest none) in
    record { utf8 = utf8; tokens = all.tokens; read = all.read; blank = all.blank; line = all.ends }

-- or it is
pub gap_line : (text rest : List ℕ) → length rest ≡ 0 → IsGapAhead text rest true → IsGap text → ⊥
gap_line text rest none far gap =
    let all = far [] (chars-empty rest none) in
    let same = one_list all.tokens gap.tokens (chars text) all.read gap.read in
    false≢true (sym gap.line ∙ ap ends_in_line (sym same) ∙ all.ends)

-- what is written of the front of a text, and what would be of the rest, is what is written of it
pub record CompletesLayout (text : List ℕ) (gaps : List (List ℕ)) (so_far : List ℕ) (first touching : Bool) (kind : TokenKind) (before : List ℕ) (used : ℕ) (rest : List ℕ) (more : List Token) : Type 0 where
  pub tokens : List Token
  pub read : AreTokensOf tokens (chars text)
  pub plain : are_plain tokens ≡ are_plain more
  pub written : so_far ++ laid first touching kind before used rest more gaps ≡ laid_out text tokens gaps

abbrev pub IsLayoutAhead : (text : List ℕ) (gaps : List (List ℕ)) (so_far : List ℕ) (first touching : Bool) (kind : TokenKind) (before : List ℕ) (used : ℕ) (rest : List ℕ) → Type 0
IsLayoutAhead text gaps so_far first touching kind before used rest =
    (more : List Token) → AreTokensOf more (chars rest) → CompletesLayout text gaps so_far first touching kind before used rest more

pub layout_start : (text : List ℕ) (gaps : List (List ℕ)) (so_far : List ℕ) → so_far ≡ [] → IsLayoutAhead text gaps so_far true false kinds.Whitespace [] 0 text
layout_start text gaps so_far none more are = record { tokens = more; read = are; plain = refl; written = ap (λ t. t ++ laid_out text more gaps) none }

pub layout_blank : (text : List ℕ) (gaps : List (List ℕ)) (so_far : List ℕ) (first touching : Bool) (kind : TokenKind) (before : List ℕ) (used : ℕ) (rest behind : List ℕ) (token : Token)
    → IsUtf8 rest → 0 < length rest → token ≡ first_token_of (chars rest) → behind ≡ drop token.len rest → is_blank token.kind ≡ true
    → IsLayoutAhead text gaps so_far first touching kind before used rest → IsLayoutAhead text gaps so_far first false kind before used behind
layout_blank text gaps so_far first touching kind before used rest behind token utf8 some is left blank far more are =
    let all = far (token ∷ more) (one_before rest behind token more utf8 some is left are) in record {
      tokens = all.tokens;
      read = all.read;
      plain = all.plain ∙ ap (λ b. (b || is_whole token.kind) && are_plain more) blank;
      written =
          ap (λ t. so_far ++ laid first false kind before used t more gaps) left
          ∙ sym (ap
          (λ b. so_far ++ (if b then laid first false kind before used (drop token.len rest) more gaps
          else (put_before first touching (joins kind token.kind) before (get_or gaps used []) (ahead (get_or gaps (used + 1) []) rest token more) ++ take token.len rest) ++ laid false true token.kind (take token.len rest) (used + 1) (drop token.len rest) more gaps)) blank)
          ∙ all.written;
    }

or_true : (a b : Bool) → b ≡ true → (a || b) ≡ true
or_true true b h = refl
or_true false b h = h

pub layout_word : (text : List ℕ) (gaps : List (List ℕ)) (so_far now : List ℕ) (first touching : Bool) (kind : TokenKind) (before : List ℕ) (used : ℕ) (rest word behind : List ℕ) (token : Token)
    → IsUtf8 rest → 0 < length rest → token ≡ first_token_of (chars rest) → word ≡ take token.len rest → behind ≡ drop token.len rest → is_blank token.kind ≡ false → is_whole token.kind ≡ true
    → ((tokens : List Token) → AreTokensOf tokens (chars behind) → now ≡ so_far ++ (put_before first touching (joins kind token.kind) before (get_or gaps used []) (word ++ touched true token.kind word (get_or gaps (used + 1) []) behind tokens) ++ word))
    → IsLayoutAhead text gaps so_far first touching kind before used rest → IsLayoutAhead text gaps now false true token.kind word (used + 1) behind
layout_word text gaps so_far now first touching kind before used rest word behind token utf8 some is word_is left other whole wrote far more are =
    let all = far (token ∷ more) (one_before rest behind token more utf8 some is left are) in
    let put = put_before first touching (joins kind token.kind) before (get_or gaps used []) (word ++ touched true token.kind word (get_or gaps (used + 1) []) behind more) ++ word in
    record {
      tokens = all.tokens;
      read = all.read;
      plain = all.plain ∙ ap (λ b. b && are_plain more) (or_true (is_blank token.kind) (is_whole token.kind) whole);
      written =
          ap (λ t. t ++ laid false true token.kind word (used + 1) behind more gaps) (wrote more are)
          ∙ append_assoc so_far put (laid false true token.kind word (used + 1) behind more gaps)
          ∙ ap₂
          (λ w r. so_far ++ ((put_before first touching (joins kind token.kind) before (get_or gaps used []) (w ++ touched true token.kind w (get_or gaps (used + 1) []) r more) ++ w) ++ laid false true token.kind w (used + 1) r more gaps))
          word_is left
          ∙ sym (ap
          (λ b. so_far ++ (if b then laid first false kind before used (drop token.len rest) more gaps
          else (put_before first touching (joins kind token.kind) before (get_or gaps used []) (ahead (get_or gaps (used + 1) []) rest token more) ++ take token.len rest) ++ laid false true token.kind (take token.len rest) (used + 1) (drop token.len rest) more gaps)) other)
          ∙ all.written;
    }

pub layout_end : (text : List ℕ) (gaps : List (List ℕ)) (so_far now : List ℕ) (first touching : Bool) (kind : TokenKind) (before : List ℕ) (used : ℕ) (rest : List ℕ) → length rest ≡ 0
    → now ≡ so_far ++ ending first before (get_or gaps used []) → IsLayoutAhead text gaps so_far first touching kind before used rest → IsLaidOut text gaps now
layout_end text gaps so_far now first touching kind before used rest none wrote far =
    let all = far [] (chars-empty rest none) in
    record { tokens = all.tokens; read = all.read; plain = all.plain; is = wrote ∙ all.written }

pub layout_others : (text : List ℕ) (gaps : List (List ℕ)) (so_far : List ℕ) (first touching : Bool) (kind : TokenKind) (before : List ℕ) (used : ℕ) (rest : List ℕ) (token : Token)
    → IsUtf8 rest → 0 < length rest → token ≡ first_token_of (chars rest) → is_blank token.kind ≡ false → is_whole token.kind ≡ false
    → IsLayoutAhead text gaps so_far first touching kind before used rest → HasOthers text
layout_others text gaps so_far first touching kind before used rest token utf8 some is other odd far =
    let more = some_behind (drop token.len rest) in
    let all = far (token ∷ more.0) (one_before rest (drop token.len rest) token more.0 utf8 some is refl more.1) in
    record { tokens = all.tokens; read = all.read; others = all.plain ∙ ap₂ (λ a b. (a || b) && are_plain more.0) other odd }

-- what is touched for sure of what is left is what is touched of the text
pub record CompletesTouch (kind : TokenKind) (before gap text : List ℕ) (touching : Bool) (rest : List ℕ) (more : List Token) : Type 0 where
  pub tokens : List Token
  pub read : AreTokensOf tokens (chars text)
  pub same : touched touching kind before gap rest more ≡ touched true kind before gap text tokens

abbrev pub IsTouchAhead : TokenKind → (before gap text : List ℕ) → (touching : Bool) → (rest : List ℕ) → Type 0
IsTouchAhead kind before gap text touching rest = (more : List Token) → AreTokensOf more (chars rest) → CompletesTouch kind before gap text touching rest more

pub touch_start : (kind : TokenKind) (before gap text : List ℕ) → IsTouchAhead kind before gap text true text
touch_start kind before gap text more are = record { tokens = more; read = are; same = refl }

pub touch_step : (kind : TokenKind) (before gap text : List ℕ) (touching : Bool) (rest behind : List ℕ) (token : Token) → IsUtf8 rest → 0 < length rest → token ≡ first_token_of (chars rest) → behind ≡ drop token.len rest
    → is_blank token.kind ≡ true → IsTouchAhead kind before gap text touching rest → IsTouchAhead kind before gap text false behind
touch_step kind before gap text touching rest behind token utf8 some is left blank far more are =
    let all = far (token ∷ more) (one_before rest behind token more utf8 some is left are) in record {
      tokens = all.tokens;
      read = all.read;
      same =
          ap (λ t. touched false kind before gap t more) left
          ∙ sym (ap (λ b. if b then touched false kind before gap (drop token.len rest) more else (if touches_surely touching (joins kind token.kind) before gap (take token.len rest) then take token.len rest else [])) blank)
          ∙ all.same;
    }

-- a token that is not blank tells it
pub touch_told : (kind : TokenKind) (before gap text : List ℕ) (touching : Bool) (rest word : List ℕ) (token : Token) (touches : Bool) → IsUtf8 rest → 0 < length rest → token ≡ first_token_of (chars rest)
    → word ≡ take token.len rest → is_blank token.kind ≡ false → touches ≡ touches_surely touching (joins kind token.kind) before gap word → IsTouchAhead kind before gap text touching rest
    → (tokens : List Token) → AreTokensOf tokens (chars text) → (if touches then word else []) ≡ touched true kind before gap text tokens
touch_told kind before gap text touching rest word token touches utf8 some is word_is other told far tokens are =
    let more = some_behind (drop token.len rest) in
    let all = far (token ∷ more.0) (one_before rest (drop token.len rest) token more.0 utf8 some is refl more.1) in
    ap (λ b. if b then word else []) told
    ∙ ap (λ w. if touches_surely touching (joins kind token.kind) before gap w then w else []) word_is
    ∙ sym (ap (λ b. if b then touched false kind before gap (drop token.len rest) more.0 else (if touches_surely touching (joins kind token.kind) before gap (take token.len rest) then take token.len rest else [])) other)
    ∙ all.same ∙ ap (touched true kind before gap text) (one_list all.tokens tokens (chars text) all.read are)

-- or nothing is left
pub touch_end : (kind : TokenKind) (before gap text : List ℕ) (touching : Bool) (rest : List ℕ) → length rest ≡ 0 → IsTouchAhead kind before gap text touching rest
    → (tokens : List Token) → AreTokensOf tokens (chars text) → [] ≡ touched true kind before gap text tokens
touch_end kind before gap text touching rest none far tokens are =
    let all = far [] (chars-empty rest none) in
    all.same ∙ ap (touched true kind before gap text) (one_list all.tokens tokens (chars text) all.read are)

apart_by : (touching joining empty ends : Bool) → joining ≡ false → empty ≡ false → (touching && joining) || (empty && (not joining && ends)) ≡ false
apart_by false joining empty ends apart some = ap (λ e. e && (not joining && ends)) some
apart_by true joining empty ends apart some = ap₂ (λ j e. j || (e && (not j && ends))) apart some

-- nothing is touched for sure by a token that is no punct, if a gap is after it
pub touch_none : (touching : Bool) (kind : TokenKind) (before gap text : List ℕ) (tokens : List Token) → is_some (punct_char kind) ≡ false → (length gap == 0) ≡ false → touched touching kind before gap text tokens ≡ []
touch_none touching kind before gap text [] alone some = refl
touch_none touching kind before gap text (token ∷ tokens) alone some = go (is_blank token.kind) (touch_none false kind before gap (drop token.len text) tokens alone some)
  where
    word : List ℕ
    word = take token.len text

    apart : touches_surely touching (joins kind token.kind) before gap word ≡ false
    apart = apart_by touching (joins kind token.kind) (length gap == 0) (ends_before before word) (ap (λ p. p && joins_before token.kind) alone) some

    go : (blank : Bool) → touched false kind before gap (drop token.len text) tokens ≡ []
        → (if blank then touched false kind before gap (drop token.len text) tokens else (if touches_surely touching (joins kind token.kind) before gap word then word else [])) ≡ []
    go true rest = rest
    go false rest = ap (λ b. if b then word else []) apart

-- what a token touches changes nothing before it, but after an empty gap that it does not end by itself
pub unasked : (first touching joining : Bool) (before gap word ahead : List ℕ) → 0 < length word → (not first && ((length gap == 0) && (not joining && not (begins_parting word)))) ≡ false
    → put_before first touching joining before gap word ≡ put_before first touching joining before gap (word ++ ahead)
unasked true touching joining before gap word ahead some none = refl
unasked false true true before gap word ahead some none = refl
unasked false false true before [] word ahead some none = refl
unasked false touching joining before (b ∷ gap) word ahead some none = same touching joining
  where
    same : (touching joining : Bool) → put_before false touching joining before (b ∷ gap) word ≡ put_before false touching joining before (b ∷ gap) (word ++ ahead)
    same true true = refl
    same true false = refl
    same false joining = refl
unasked false touching false before [] [] ahead some none = absurd (omega (arith, some))
unasked false touching false before [] (b ∷ word) ahead some none = same touching
  where
    both : (parts stays longer : Bool) → not parts ≡ false → space_if (not (parts || stays)) ≡ space_if (not (parts || longer))
    both true stays longer none = refl
    both false stays longer none = absurd (false≢true (sym none))

    same : (touching : Bool) → put_before false touching false before [] (b ∷ word) ≡ put_before false touching false before [] (b ∷ word ++ ahead)
    same true = both (is_parting b) (stays_before before (b ∷ word)) (stays_before before (b ∷ word ++ ahead)) none
    same false = both (is_parting b) (stays_before before (b ∷ word)) (stays_before before (b ∷ word ++ ahead)) none

-- what follows of what a value has
pub on_ok : {T E A B : Type 0} (result : Result T E) → (A → B) → OnOk result A → OnOk result B
on_ok (Ok value) f h = f h
on_ok (Err error) f h = h
