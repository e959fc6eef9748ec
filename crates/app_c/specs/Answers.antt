-- What a caller finds after a call: the output, how many bytes were or would be written, the place of a fault, and the result.
use Rattle.std.specs.Prelude.{◌≡◌, ◌⊎◌, ◌<◌, ◌≤◌, ◌++◌, ℕ, List, drop, length}
use Rattle.app_c.specs.declared.failure.Failure.{Failure}
use Rattle.app_c.specs.declared.fault.Fault.TheVariants.{NoRoom}
use Rattle.app_c.specs.Faults.{number_of}

-- the output holds these bytes, and behind them what was there before
pub record IsWritten (made before after : List ℕ) : Type 0 where
  pub fits : length made ≤ length before
  pub front : after ≡ made ++ drop (length made) before

-- the same of an output for bytes and one for words
pub record AreWritten (bytes words before after words_before words_after : List ℕ) : Type 0 where
  pub bytes_are : IsWritten bytes before after
  pub words_are : IsWritten words words_before words_after

-- there is no room for these bytes, and the output is as it was
pub record HasNoRoom (made before after : List ℕ) : Type 0 where
  pub short : length before < length made
  pub same : after ≡ before

-- the caller gets these bytes and their number; or only the number, if there is no room for all of them
pub record Gives (made before after : List ℕ) (written at result : ℕ) : Type 0 where
  pub number : written ≡ length made
  pub place : at ≡ 0
  pub answer : ((result ≡ 0) × IsWritten made before after) ⊎ ((result ≡ number_of NoRoom) × HasNoRoom made before after)

-- the caller gets a fault and its place
pub record Reports (failure : Failure) (written at result : ℕ) : Type 0 where
  pub number : written ≡ 0
  pub place : at ≡ failure.at
  pub answer : result ≡ number_of failure.fault

-- the caller gets bytes that are right; or a fault that is, and then the output is as before
abbrev pub Answers : (IsMade : List ℕ → Type 0) → (IsFailure : Failure → Type 0) → (before after : List ℕ) → (written at result : ℕ) → Type 0
Answers IsMade IsFailure before after written at result =
    ((made : List ℕ) × IsMade made × Gives made before after written at result)
    ⊎ ((failure : Failure) × IsFailure failure × Reports failure written at result × (after ≡ before))

-- there is no room for the bytes or the words, and both outputs are as they were
pub record HaveNoRoom (bytes words before after words_before words_after : List ℕ) : Type 0 where
  pub short : (length before < length bytes) ⊎ (length words_before < length words)
  pub same : after ≡ before
  pub same_words : words_after ≡ words_before

-- the caller gets bytes and words and their numbers; or only the numbers, if there is no room for all of them
pub record GivesBoth (bytes words before after words_before words_after : List ℕ) (written found at result : ℕ) : Type 0 where
  pub number : written ≡ length bytes
  pub words_number : found ≡ length words
  pub place : at ≡ 0
  pub answer :
      ((result ≡ 0) × AreWritten bytes words before after words_before words_after)
      ⊎ ((result ≡ number_of NoRoom) × HaveNoRoom bytes words before after words_before words_after)

-- the caller gets a fault and its place, and both outputs are as before
pub record ReportsBoth (failure : Failure) (before after words_before words_after : List ℕ) (written found at result : ℕ) : Type 0 where
  pub report : Reports failure written at result
  pub no_words : found ≡ 0
  pub same : after ≡ before
  pub same_words : words_after ≡ words_before

-- the caller gets bytes and words that are right; or a fault that is
abbrev pub AnswersBoth : (AreMade : (bytes words : List ℕ) → Type 0) → (IsFailure : Failure → Type 0)
    → (before after words_before words_after : List ℕ) → (written found at result : ℕ) → Type 0
AnswersBoth AreMade IsFailure before after words_before words_after written found at result =
    ((bytes words : List ℕ) × AreMade bytes words × GivesBoth bytes words before after words_before words_after written found at result)
    ⊎ ((failure : Failure) × IsFailure failure × ReportsBoth failure before after words_before words_after written found at result)
