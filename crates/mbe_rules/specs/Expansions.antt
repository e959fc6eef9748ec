-- What a macro expands an input to.
use Rattle.std.specs.Prelude.{◌≡◌, ◌⊎◌, ℕ, suc, max, List, [], ◌∷◌, Option, None}
use Rattle.tt.specs.Forest.{Forest, size}
use Rattle.tt.specs.Types.TtFault.TheVariants.{Memory}
use Rattle.mbe_matcher.specs.Bindings.{binding_of}
use Rattle.mbe_matcher.specs.Fronts.{StopsAt}
use Rattle.mbe_program.specs.Matchers.{IsMatcherOf}
use Rattle.mbe_matcher.specs.Readings.{Reading, IsNoInstance, IsReadBy, IsAmbiguous}
use Rattle.mbe_rules.specs.declared.transcribe_error.TranscribeError.{TranscribeError}
use Rattle.mbe_rules.specs.declared.transcribe_error.TranscribeError.TheVariants.{Tree}
use Rattle.mbe_rules.specs.Limits.{IsWithin}
use Rattle.mbe_rules.specs.Transcribing.{Transcribed, transcribed}
use Rattle.mbe_rules.specs.Results.{meant, IsTranscribed, IsTranscribeError}
use Rattle.mbe_rules.specs.declared.arm.Answer.{Answer}
use Rattle.mbe_rules.specs.declared.arm.Answer.TheVariants as answer
use Rattle.mbe_rules.specs.declared.arm.Arm as rust
use Rattle.mbe_rules.specs.declared.rules_error.ExpandError.{ExpandError}
use Rattle.mbe_rules.specs.declared.macro_rules.Expansion.{Expansion}
use Rattle.mbe_rules.specs.declared.macro_rules.Expansion.TheVariants as expansion
use Rattle.mbe_rules.specs.Arms.{Arm}

-- the arm is made ready to read inputs and to write
pub record IsMade (arm : Arm) (it : rust.Arm) : Type 0 where
  pub matcher : IsMatcherOf arm.pattern it.matcher
  pub template : meant it.template ≡ arm.template
  pub delimiter : it.delimiter ≡ arm.delimiter

abbrev pub AreMade : List Arm → List rust.Arm → Type 0
AreMade [] [] = Unit {0}
AreMade [] (it ∷ others) = ⊥
AreMade (arm ∷ more) [] = ⊥
AreMade (arm ∷ more) (it ∷ others) = IsMade arm it × AreMade more others

-- what the arm writes for such a reading of an input
abbrev pub written : Arm → Reading → Transcribed
written arm reading = transcribed arm.template (binding_of arm.pattern reading)

-- what the arm makes of an input: no match, if it is no instance of the pattern, which stops there; ambiguous, if there are two readings;
-- or the template, filled with what the one reading binds
abbrev pub IsAnswer : Arm → (input : Forest) → Answer → Type 0
IsAnswer arm input (answer.NoMatch at) = IsNoInstance arm.pattern input × StopsAt arm.pattern input at
IsAnswer arm input answer.Ambiguous = IsAmbiguous arm.pattern input
IsAnswer arm input (answer.Tree tree) = (reading : Reading) × IsReadBy arm.pattern input reading × IsTranscribed arm.delimiter (written arm reading) tree

-- a tree has at most `most` tokens
abbrev pub IsAnswerWithin : (most : Option ℕ) → Answer → Type 0
IsAnswerWithin most (answer.NoMatch at) = Unit {0}
IsAnswerWithin most answer.Ambiguous = Unit {0}
IsAnswerWithin most (answer.Tree tree) = IsWithin most (size tree.children)

-- why the arm makes nothing of it: memory ran out, or the template cannot be filled, within `most` tokens, with what the one reading binds
abbrev pub IsRefusalWithin : (most : Option ℕ) → Arm → (input : Forest) → TranscribeError → Type 0
IsRefusalWithin most arm input (Tree Memory) = Unit {0}
IsRefusalWithin most arm input error =
    (reading : Reading) × IsReadBy arm.pattern input reading × IsTranscribeError most arm.delimiter (written arm reading) error

-- the same without such a limit
abbrev pub IsRefusal : Arm → (input : Forest) → TranscribeError → Type 0
IsRefusal arm input error = IsRefusalWithin None arm input error

-- the answer of the first arm that matches the input; the first of these arms has that number, and earlier arms came up to a flat
-- place; if no arm matches, the farthest place
abbrev pub IsExpansion : List Arm → (number farthest : ℕ) → (input : Forest) → Expansion → Type 0
IsExpansion [] number farthest input (expansion.NoMatch at) = at ≡ farthest
IsExpansion [] number farthest input (expansion.Ambiguous arm) = ⊥
IsExpansion [] number farthest input (expansion.Tree tree) = ⊥
IsExpansion (arm ∷ others) number farthest input result =
    ((at : ℕ) × IsAnswer arm input (answer.NoMatch at) × IsExpansion others (suc number) (max farthest at) input result) ⊎ IsOf result
  where
    IsOf : Expansion → Type 0
    IsOf (expansion.NoMatch at) = ⊥
    IsOf (expansion.Ambiguous which) = (which ≡ number) × IsAnswer arm input answer.Ambiguous
    IsOf (expansion.Tree tree) = IsAnswer arm input (answer.Tree tree)

-- a tree has at most `most` tokens
abbrev pub IsExpansionWithin : (most : Option ℕ) → Expansion → Type 0
IsExpansionWithin most (expansion.NoMatch at) = Unit {0}
IsExpansionWithin most (expansion.Ambiguous arm) = Unit {0}
IsExpansionWithin most (expansion.Tree tree) = IsWithin most (size tree.children)

-- why that arm gives an error, if it may write at most `most` tokens
abbrev pub IsExpandErrorWithin : (most : Option ℕ) → List Arm → (number : ℕ) → (input : Forest) → ExpandError → Type 0
IsExpandErrorWithin most [] number input error = ⊥
IsExpandErrorWithin most (arm ∷ others) number input error =
    (IsNoInstance arm.pattern input × IsExpandErrorWithin most others (suc number) input error)
    ⊎ ((error.arm ≡ number) × IsRefusalWithin most arm input error.fault)

-- the same without such a limit
abbrev pub IsExpandError : List Arm → (number : ℕ) → (input : Forest) → ExpandError → Type 0
IsExpandError arms number input error = IsExpandErrorWithin None arms number input error
