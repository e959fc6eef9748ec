-- The gaps that rustfmt would choose within a line: a space or nothing.
use Rattle.std.specs.Prelude.{◌≡◌, ◌⊎◌, ◌≤◌, ◌^◌, ℕ, Bool, true, false, List, [], ◌∷◌, length, take, drop, slice_get, if◌then◌else◌}
use Rattle.std.specs.Str.{chars}
use Rattle.syntax_layout.specs.Gap.{is_blank}
use Rattle.syntax_layout.specs.Layout.{IsLaidTree}
use Rattle.syntax_layout.specs.Parts.{touches}
use Rattle.syntax_layout.specs.Passed.{part_of, passed_after, start}
use Rattle.syntax_layout.specs.declared.part.Part.{Part}
use Rattle.syntax_layout.specs.declared.passed.Passed.{Passed}
use Rattle.syntax_lex.specs.Reading.{AreTokensOf}
use Rattle.syntax_lex.specs.declared.token.Token.{Token}
use Rattle.syntax_unparse.specs.Text.{text_of}
use Rattle.tt_base.specs.Forest.{Forest}

-- the gap between two tokens
abbrev pub space_between : (before next : Part) → List ℕ
space_between before next = if touches before next then [] else 32 ∷ []

-- the part of the first token of a text
abbrev pub first_part : Passed → (touching : Bool) → (text : List ℕ) → Token → Part
first_part passed touching text token = part_of passed touching (slice_get (drop token.len text) 0) token.kind (take token.len text)

-- the gaps before the tokens of a text that are not blank
abbrev pub spaces : Passed → (touching : Bool) → (text : List ℕ) → List Token → List (List ℕ)
spaces passed touching text [] = []
spaces passed touching text (token ∷ tokens) =
    if is_blank token.kind then spaces passed false (drop token.len text) tokens
    else space_between passed.part (first_part passed touching text token)
    ∷ spaces (passed_after passed token.kind (take token.len text) (first_part passed touching text token)) true (drop token.len text) tokens

-- the gaps are those before the tokens of a text
pub record AreSpaces (text : List ℕ) (gaps : List (List ℕ)) : Type 0 where
  pub tokens : List Token
  pub read : AreTokensOf tokens (chars text)
  pub are : gaps ≡ spaces start false text tokens

-- what is written of trees with these gaps: the plain text if it is too long to be laid out
abbrev pub IsSpacedText : (trees : Forest) → (text : List ℕ) → Type 0
IsSpacedText trees text =
    ((text ≡ text_of trees) × (2 ^ 31 ≤ length (text_of trees))) ⊎ ((gaps : List (List ℕ)) × AreSpaces (text_of trees) gaps × IsLaidTree trees gaps text)
