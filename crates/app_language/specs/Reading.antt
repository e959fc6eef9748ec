-- What reading a text means.
use Rattle.std.specs.Prelude.{◌≡◌, ◌≢◌, ◌⊎◌, ◌<◌, ℕ, List, [], ◌∷◌, ◌++◌, Option, None, Some, All}
use Rattle.std.specs.Borrow.{Bor}

-- no byte of the text is this one
abbrev pub Lacks : ℕ → List ℕ → Type 0
Lacks byte text = All (λ b. b ≢ byte) text

-- no byte of it is a line feed
abbrev pub IsOneLine : List ℕ → Type 0
IsOneLine bytes = Lacks 10 bytes

-- a word, one space, and what follows
abbrev pub words : List ℕ → List ℕ → List ℕ
words first rest = first ++ 32 ∷ rest

-- pieces, each after a space
abbrev pub spaced : List (List ℕ) → List ℕ
spaced [] = []
spaced (piece ∷ more) = 32 ∷ piece ++ spaced more

-- a line: its first word and its other pieces, one space between
abbrev pub line_of : List ℕ → List (List ℕ) → List ℕ
line_of first more = first ++ spaced more

-- the text is empty or begins with a space
abbrev pub IsTail : List ℕ → Type 0
IsTail [] = Unit {0}
IsTail (b ∷ rest) = b ≡ 32

-- the result is what the text spells, or nothing if it spells nothing that fits
abbrev pub Reads : {A : Type 0} → (A → List ℕ) → (A → Type 0) → List ℕ → Option A → Type 0
Reads spelling Fits text (Some value) = (text ≡ spelling value) × Fits value
Reads {A} spelling Fits text None = (value : A) → Fits value → text ≢ spelling value

-- the result is what the pieces of the text spell, or nothing if they spell nothing that fits
abbrev pub ReadsPieces : {A : Type 0} → (A → List (List ℕ)) → (A → Type 0) → List ℕ → Option A → Type 0
ReadsPieces pieces Fits text result = Reads (λ value. spaced (pieces value)) Fits text result

-- the result is what is spelled before a byte, and what follows that byte, or nothing if nothing that fits is spelled there
abbrev pub ReadsBefore : {A : Type 0} → ℕ → (A → List ℕ) → (A → Type 0) → List ℕ → Option (A × Bor (List ℕ)) → Type 0
ReadsBefore byte spelling Fits text (Some found) = (text ≡ spelling found.0 ++ byte ∷ found.1.now) × Fits found.0
ReadsBefore {A} byte spelling Fits text None = (value : A) (rest : List ℕ) → Fits value → text ≢ spelling value ++ byte ∷ rest

-- the text is empty or begins with another byte than a digit
abbrev pub BeginsWithNoDigit : List ℕ → Type 0
BeginsWithNoDigit [] = Unit {0}
BeginsWithNoDigit (b ∷ rest) = b < 48 ⊎ 57 < b

-- the result is what the text begins with, up to a place at which no digit follows, or nothing if nothing that fits is there
abbrev pub ReadsFront : {A : Type 0} → (A → List ℕ) → (A → Type 0) → List ℕ → Option (A × Bor (List ℕ)) → Type 0
ReadsFront spelling Fits text (Some found) = (text ≡ spelling found.0 ++ found.1.now) × Fits found.0 × BeginsWithNoDigit found.1.now
ReadsFront {A} spelling Fits text None = (value : A) (rest : List ℕ) → Fits value → BeginsWithNoDigit rest → text ≢ spelling value ++ rest

-- the result is the first piece after a space, and the text from the next space on, or nothing if no word that fits is there
abbrev pub ReadsNext : {A : Type 0} → (A → List ℕ) → (A → Type 0) → List ℕ → Option (A × Bor (List ℕ)) → Type 0
ReadsNext spelling Fits text (Some found) = (text ≡ 32 ∷ spelling found.0 ++ found.1.now) × Fits found.0 × IsTail found.1.now
ReadsNext {A} spelling Fits text None = (value : A) (rest : List ℕ) → Fits value → IsTail rest → text ≢ 32 ∷ spelling value ++ rest
