-- Spaces between tokens are gaps, and what the loop that chooses them keeps.
use Rattle.std.proofs.Common.{◌≡◌, ℕ, ◌<◌, ◌^◌, Bool, true, false, List, [], ◌∷◌, ◌++◌, length, take, drop, refl, sym, ap, ap₂, ◌∙◌, arith, append_assoc, append-nil, if◌then◌else◌}
use Rattle.std.proofs.lemmas.Str.{chars-nil}
use Rattle.std.specs.Prelude.{slice_get}
use Rattle.std.specs.Str.{chars, IsUtf8}
use Rattle.syntax_edit.proofs.Seams.{space_blank}
use Rattle.syntax_layout.proofs.Ahead.{one_before}
use Rattle.syntax_layout.proofs.Chunks.{space_is, white}
use Rattle.syntax_layout.proofs.GapChunks.{no_gap}
use Rattle.syntax_layout.specs.Gap.{AreGaps, IsGap, is_blank}
use Rattle.syntax_layout.specs.Parts.{touches}
use Rattle.syntax_layout.specs.Passed.{part_of, passed_after, start}
use Rattle.syntax_layout.specs.Spaces.{AreSpaces, first_part, space_between, spaces}
use Rattle.syntax_layout.specs.declared.part.Part.{Part}
use Rattle.syntax_layout.specs.declared.passed.Passed.{Passed}
use Rattle.syntax_lex.proofs.FrontFacts.{chars-empty}
use Rattle.syntax_lex.specs.Class.{is_whitespace}
use Rattle.syntax_lex.specs.Front.{behind}
use Rattle.syntax_lex.specs.Reading.{AreTokensOf, first_token_of}
use Rattle.syntax_lex.specs.declared.token.Token.{Token}
use Rattle.syntax_unparse.proofs.Chunks.{tokens_are, tokens_of}

-- a space is a gap
pub space_gap : IsGap (32 ∷ [])
space_gap = record {
  utf8 = space_blank.utf8;
  tokens = tokens_of (white (32 ∷ []) ∷ []);
  read = tokens_are (white (32 ∷ []) ∷ []) (space_is [] (ap (behind is_whitespace) chars-nil ∙ sym chars-nil), tt);
  blank = refl;
  line = refl;
}

between_gap : (b : Bool) → IsGap (if b then [] else 32 ∷ []) × (length {A = ℕ} (if b then [] else 32 ∷ []) < 2 ^ 31)
between_gap true = (no_gap, omega arith)
between_gap false = (space_gap, omega arith)

either : (blank : Bool) (rest : List (List ℕ)) (touching : Bool) (more : List (List ℕ)) → AreGaps rest → AreGaps more → AreGaps (if blank then rest else (if touching then [] else 32 ∷ []) ∷ more)
either true rest touching more fine others = fine
either false rest touching more fine others = let both = between_gap touching in (both.0, both.1, others)

-- so the spaces of a text are gaps
pub spaces_gaps : (passed : Passed) (touching : Bool) (text : List ℕ) (tokens : List Token) → AreGaps (spaces passed touching text tokens)
spaces_gaps passed touching text [] = tt
spaces_gaps passed touching text (token ∷ tokens) =
    let rest = drop token.len text in
    let it = first_part passed touching text token in
    let next = passed_after passed token.kind (take token.len text) it in
    either (is_blank token.kind) (spaces passed false rest tokens) (touches passed.part it) (spaces next true rest tokens) (spaces_gaps passed false rest tokens) (spaces_gaps next true rest tokens)

-- the gaps so far, and those of the rest, are those of the text
pub record CompletesSpaces (text : List ℕ) (so_far : List (List ℕ)) (passed : Passed) (touching : Bool) (rest : List ℕ) (more : List Token) : Type 0 where
  pub tokens : List Token
  pub read : AreTokensOf tokens (chars text)
  pub same : so_far ++ spaces passed touching rest more ≡ spaces start false text tokens

abbrev pub AreSpacesAhead : (text : List ℕ) → (so_far : List (List ℕ)) → Passed → (touching : Bool) → (rest : List ℕ) → Type 0
AreSpacesAhead text so_far passed touching rest = (more : List Token) → AreTokensOf more (chars rest) → CompletesSpaces text so_far passed touching rest more

pub spaces_start : (text : List ℕ) → AreSpacesAhead text [] start false text
spaces_start text more are = record { tokens = more; read = are; same = refl }

pub spaces_blank : (text : List ℕ) (so_far : List (List ℕ)) (passed : Passed) (touching : Bool) (rest left : List ℕ) (token : Token) → IsUtf8 rest → 0 < length rest → token ≡ first_token_of (chars rest) → left ≡ drop token.len rest
    → is_blank token.kind ≡ true → AreSpacesAhead text so_far passed touching rest → AreSpacesAhead text so_far passed false left
spaces_blank text so_far passed touching rest left token utf8 some is left_is blank far more are =
    let all = far (token ∷ more) (one_before rest left token more utf8 some is left_is are) in
    let it = first_part passed touching rest token in
    let next = passed_after passed token.kind (take token.len rest) it in
    record {
      tokens = all.tokens;
      read = all.read;
      same =
          ap (λ t. so_far ++ spaces passed false t more) left_is
          ∙ sym (ap (λ b. so_far ++ (if b then spaces passed false (drop token.len rest) more else space_between passed.part it ∷ spaces next true (drop token.len rest) more)) blank)
          ∙ all.same;
    }

pub spaces_word : (text : List ℕ) (so_far now : List (List ℕ)) (passed next : Passed) (touching : Bool) (rest word left : List ℕ) (token : Token) (it : Part) → IsUtf8 rest → 0 < length rest → token ≡ first_token_of (chars rest)
    → word ≡ take token.len rest → left ≡ drop token.len rest → is_blank token.kind ≡ false → it ≡ part_of passed touching (slice_get left 0) token.kind word → next ≡ passed_after passed token.kind word it
    → now ≡ so_far ++ space_between passed.part it ∷ [] → AreSpacesAhead text so_far passed touching rest → AreSpacesAhead text now next true left
spaces_word text so_far now passed next touching rest word left token it utf8 some is word_is left_is other it_is next_is now_is far more are =
    let all = far (token ∷ more) (one_before rest left token more utf8 some is left_is are) in
    let found = first_part passed touching rest token in
    let part_is : it ≡ found = it_is ∙ ap₂ (λ l w. part_of passed touching (slice_get l 0) token.kind w) left_is word_is in
    let after : next ≡ passed_after passed token.kind (take token.len rest) found = next_is ∙ ap₂ (λ w p. passed_after passed token.kind w p) word_is part_is in
    record {
      tokens = all.tokens;
      read = all.read;
      same =
          ap (λ t. t ++ spaces next true left more) now_is
          ∙ append_assoc so_far (space_between passed.part it ∷ []) (spaces next true left more)
          ∙ ap₂ (λ p n. so_far ++ space_between passed.part p ∷ spaces n true left more) part_is after
          ∙ ap (λ t. so_far ++ space_between passed.part found ∷ spaces (passed_after passed token.kind (take token.len rest) found) true t more) left_is
          ∙ sym (ap
          (λ b. so_far ++ (if b then spaces passed false (drop token.len rest) more
          else space_between passed.part found ∷ spaces (passed_after passed token.kind (take token.len rest) found) true (drop token.len rest) more)) other)
          ∙ all.same;
    }

pub spaces_end : (text : List ℕ) (so_far : List (List ℕ)) (passed : Passed) (touching : Bool) (rest : List ℕ) → length rest ≡ 0 → AreSpacesAhead text so_far passed touching rest → AreSpaces text so_far
spaces_end text so_far passed touching rest none far =
    let all = far [] (chars-empty rest none) in
    record { tokens = all.tokens; read = all.read; are = sym (append-nil so_far) ∙ all.same }
