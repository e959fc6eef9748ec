-- What the loop over a text whose attributes become comments keeps: whatever may be written of the rest completes what may be written of the text.
use Rattle.std.proofs.Common.{◌≡◌, ◌≢◌, ℕ, ◌-◌, ◌≤◌, Bool, true, false, List, [], ◌++◌, length, take, drop, refl, sym, ap, ap₂, ◌∙◌, subst, arith, append_assoc, length-append}
use Rattle.std.proofs.Math.Seq.{take-append_seam}
use Rattle.std.proofs.lemmas.List.{nil_from_length, take-append-drop}
use Rattle.std.specs.Str.{chars}
use Rattle.syntax_layout.proofs.Becomes.{comment_some, replaced_short}
use Rattle.syntax_layout.specs.Documented.{IsDocumented, IsReplaced, becomes, comment, is_white, nothing, stays}
use Rattle.syntax_lex.specs.Reading.{first_token_of}
use Rattle.syntax_lex.specs.declared.token.DocStyle.{DocStyle}
use Rattle.syntax_lex.specs.declared.token.Token.{Token}

-- the part of a text that precedes a rest of it
abbrev pub before : (kept rest : List ℕ) → List ℕ
before kept rest = take (length kept - length rest) kept

before_is : (front kept rest : List ℕ) → kept ≡ front ++ rest → before kept rest ≡ front
before_is front kept rest e =
    let long : length kept - length rest ≡ length front = omega (arith, ap length e, length-append front rest) in
    ap₂ (λ n t. take n t) long e ∙ take-append_seam front rest

-- what was written, what is kept for later, and what is left
pub record IsWrittenAhead (source : List ℕ) (begins : Bool) (so_far kept rest : List ℕ) : Type 0 where
  pub within : length rest ≤ length kept
  pub short : length kept ≤ length source
  pub seam : kept ≡ before kept rest ++ rest
  pub ahead : (more : List ℕ) → IsDocumented begins rest more → IsDocumented true source (so_far ++ (before kept rest ++ more))
  pub same : length so_far ≡ 0 → kept ≡ source

none_before : (t : List ℕ) → before t t ≡ []
none_before t = before_is [] t t refl

pub ahead_start : (source so_far : List ℕ) → so_far ≡ [] → IsWrittenAhead source true so_far source source
ahead_start source so_far none = record {
  within = omega arith;
  short = omega arith;
  seam = sym (ap (λ b. b ++ source) (none_before source));
  ahead = λ more it. subst (IsDocumented true source) (sym (ap₂ (λ a b. a ++ (b ++ more)) none (none_before source))) it;
  same = λ h. refl;
}

-- a token stays
pub ahead_stays : (source : List ℕ) (begins : Bool) (so_far kept rest behind : List ℕ) (token : Token) → chars rest ≢ [] → token ≡ first_token_of (chars rest) → behind ≡ drop token.len rest
    → ((style : DocStyle) (doc ending left : List ℕ) → begins ≡ true → IsReplaced style doc ending left rest → ⊥)
    → IsWrittenAhead source begins so_far kept rest → IsWrittenAhead source (is_white token.kind) so_far kept behind
ahead_stays source begins so_far kept rest behind token some is left none it =
    let word = take token.len rest in
    let front = before kept rest in
    let whole : word ++ behind ≡ rest = ap (λ b. word ++ b) left ∙ take-append-drop token.len rest in
    let split : kept ≡ (front ++ word) ++ behind = it.seam ∙ ap (λ r. front ++ r) (sym whole) ∙ sym (append_assoc front word behind) in
    let now : before kept behind ≡ front ++ word = before_is (front ++ word) kept behind split in
    record {
      within = omega (arith, it.within, ap length whole, length-append word behind);
      short = it.short;
      seam = split ∙ ap (λ f. f ++ behind) (sym now);
      ahead = λ more d.
          subst (IsDocumented true source) (ap (λ t. so_far ++ t) (sym (append_assoc front word more) ∙ ap (λ f. f ++ more) (sym now)))
          (it.ahead (word ++ more) (stays {token = token} some is none (subst (λ b. IsDocumented (is_white token.kind) b more) left d)));
      same = it.same;
    }

-- a comment replaces an attribute
pub ahead_becomes : (source : List ℕ) (begins : Bool) (so_far now kept rest : List ℕ) (style : DocStyle) (doc ending left : List ℕ) → begins ≡ true → IsReplaced style doc ending left rest
    → now ≡ so_far ++ (before kept rest ++ comment style (doc ++ ending)) → IsWrittenAhead source begins so_far kept rest → IsWrittenAhead source false now left left
ahead_becomes source begins so_far now kept rest style doc ending left first replaced wrote it =
    let word = comment style (doc ++ ending) in
    let front = before kept rest in
    let grouped : (more : List ℕ) → so_far ++ (front ++ (word ++ more)) ≡ now ++ (before left left ++ more) = λ more.
    ap (λ t. so_far ++ t) (sym (append_assoc front word more)) ∙ sym (append_assoc so_far (front ++ word) more) ∙ ap₂ (λ a b. a ++ (b ++ more)) (sym wrote) (sym (none_before left)) in
    record {
      within = omega arith;
      short = omega (arith, it.short, it.within, replaced_short style doc ending left rest replaced);
      seam = sym (ap (λ b. b ++ left) (none_before left));
      ahead = λ more d. subst (IsDocumented true source) (grouped more) (it.ahead (word ++ more) (subst (λ b. IsDocumented b rest (word ++ more)) (sym first) (becomes replaced d)));
      same = λ none. absurd (omega (arith, none, ap length wrote, length-append so_far (front ++ word), length-append front word, comment_some style doc ending));
    }

-- all is written then
pub ahead_end : (source : List ℕ) (begins : Bool) (so_far kept rest : List ℕ) → length rest ≡ 0 → IsWrittenAhead source begins so_far kept rest → IsDocumented true source (so_far ++ kept)
ahead_end source begins so_far kept rest none it =
    let empty : rest ≡ [] = nil_from_length rest none in
    let left : IsDocumented begins rest [] = subst (λ t. IsDocumented begins t []) (sym empty) nothing in
    let all : before kept rest ++ [] ≡ kept = ap (λ t. before kept rest ++ t) (sym empty) ∙ sym it.seam in
    subst (IsDocumented true source) (ap (λ t. so_far ++ t) all) (it.ahead [] left)

-- and nothing was replaced if nothing was written before
pub ahead_none : (source : List ℕ) (begins : Bool) (so_far kept rest : List ℕ) → length rest ≡ 0 → length so_far ≡ 0 → IsWrittenAhead source begins so_far kept rest → IsDocumented true source source
ahead_none source begins so_far kept rest none nothing_yet it =
    subst (IsDocumented true source) (ap₂ (λ a b. a ++ b) (nil_from_length so_far nothing_yet) (it.same nothing_yet)) (ahead_end source begins so_far kept rest none it)
