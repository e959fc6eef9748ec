-- The front of a text, and the rest after it. A text is the list of its characters.
use Rattle.std.specs.Prelude.{ℕ, Bool, List, [], ◌∷◌, length, encode_utf8_all, if◌then◌else◌}
use Rattle.syntax_lex.specs.Class.{is_id_start, is_id_continue}

-- the first character, or the null character of an empty text
abbrev pub first : List ℕ → ℕ
first [] = 0
first (c ∷ cs) = c

-- the rest after the first character
abbrev pub skip : List ℕ → List ℕ
skip [] = []
skip (c ∷ cs) = cs

-- the second character
abbrev pub second : List ℕ → ℕ
second cs = first (skip cs)

-- the third character
abbrev pub third : List ℕ → ℕ
third cs = first (skip (skip cs))

-- the rest after the first characters that pass a test
abbrev pub behind : (ℕ → Bool) → List ℕ → List ℕ
behind p [] = []
behind p (c ∷ cs) = if p c then behind p cs else c ∷ cs

-- the rest after an identifier, if the text begins with one
abbrev pub behind_name : List ℕ → List ℕ
behind_name cs = if is_id_start (first cs) then behind is_id_continue (skip cs) else cs

-- how many bytes a text takes
unfoldable pub byte_length : List ℕ → ℕ
byte_length cs = length (encode_utf8_all cs)
