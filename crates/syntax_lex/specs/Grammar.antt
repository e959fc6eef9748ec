-- The text between quotes, in the words of the grammar.
use Rattle.std.specs.Prelude.{ℕ, suc, ◌+◌, ◌≤◌, ◌<◌, ◌≡◌, ◌≢◌, List, [], ◌∷◌, ◌++◌, if◌then◌else◌}
use Rattle.syntax_lex.specs.Closing.{closes_comment, hashes_of, opens_comment}

-- the text of a string: any characters except a quote and a backslash, and backslashes, each with a character after it
pub data IsStringText : List ℕ → Type 0 where
  nothing : IsStringText []
  plain : {c : ℕ} {cs : List ℕ} → c ≢ 34 → c ≢ 92 → IsStringText cs → IsStringText (c ∷ cs)
  escape : {b c : ℕ} {cs : List ℕ} → b ≡ 92 → IsStringText cs → IsStringText (b ∷ c ∷ cs)

-- the number of `/*` in a text, read from left to right: no character belongs to two marks
abbrev pub opened : List ℕ → ℕ
opened [] = 0
opened (c ∷ []) = 0
opened (c ∷ e ∷ cs) = if opens_comment c e then suc (opened cs) else (if closes_comment c e then opened cs else opened (e ∷ cs))

-- the number of `*/` in a text, read in the same way
abbrev pub closed : List ℕ → ℕ
closed [] = 0
closed (c ∷ []) = 0
closed (c ∷ e ∷ cs) = if opens_comment c e then closed cs else (if closes_comment c e then suc (closed cs) else closed (e ∷ cs))

-- the inside of a comment with its last mark, with `inner` other open comments: the whole has one `*/` more than `/*` and open comments
-- together; no shorter part from the front has more `*/` than these
pub record IsCommentText (inner : ℕ) (body : List ℕ) : Type 0 where
  pub closes : closed body ≡ suc (opened body + inner)
  pub before : (front behind : List ℕ) → body ≡ front ++ behind → behind ≢ [] → closed front ≤ opened front + inner

-- the inside of a raw text with `hashes` hashes: fewer follow each quote in it
abbrev pub IsRawText : (hashes : ℕ) → List ℕ → Type 0
IsRawText hashes body = (front behind : List ℕ) → body ≡ front ++ 34 ∷ behind → hashes_of behind < hashes
