-- The closing of a comment, a text in quotes and a raw text: whether it is closed, and what follows it.
use Rattle.std.specs.Prelude.{ℕ, suc, ◌+◌, ◌-◌, Bool, true, false, ◌&&◌, ◌==◌, nat_le, nat_lt, List, [], ◌∷◌, drop, Option, None, Some, if◌then◌else◌}
use Rattle.syntax_lex.specs.Front.{first, skip}

-- `/*`
abbrev pub opens_comment : (c next : ℕ) → Bool
opens_comment c next = (c == 47) && (next == 42)

-- `*/`
abbrev pub closes_comment : (c next : ℕ) → Bool
closes_comment c next = (c == 42) && (next == 47)

-- Whether a comment with `inner` other open comments is closed, and what follows it. `/*` opens one more, `*/` closes one, and no character
-- belongs to two signs. A comment that is not closed takes all.
abbrev pub behind_comment : (inner : ℕ) → List ℕ → Bool × List ℕ
behind_comment inner [] = (false, [])
behind_comment inner (c ∷ []) = (false, [])
behind_comment inner (c ∷ e ∷ cs) =
    if opens_comment c e then behind_comment (inner + 1) cs
    else (if closes_comment c e then (if inner == 0 then (true, cs) else behind_comment (inner - 1) cs)
    else behind_comment inner (e ∷ cs))

-- Whether a text in quotes is closed, and what follows its quote. Each backslash takes the next character with
-- it. A text that is not closed takes all.
abbrev pub behind_quote : (escaped : Bool) → List ℕ → Bool × List ℕ
behind_quote escaped [] = (false, [])
behind_quote true (c ∷ cs) = behind_quote false cs
behind_quote false (c ∷ cs) = if c == 34 then (true, cs) else behind_quote (c == 92) cs

-- the number of hashes at the front
abbrev pub hashes_of : List ℕ → ℕ
hashes_of [] = 0
hashes_of (c ∷ cs) = if c == 35 then suc (hashes_of cs) else 0

-- Whether a raw text is closed: by the first quote with `hashes` hashes right after it. Also what follows
-- these; a text that is not closed takes all.
abbrev pub behind_raw : (hashes : ℕ) → List ℕ → Bool × List ℕ
behind_raw hashes [] = (false, [])
behind_raw hashes (c ∷ cs) = if (c == 34) && nat_le hashes (hashes_of cs) then (true, drop hashes cs) else behind_raw hashes cs

-- the hashes of a raw text that is closed, if the number fits into a byte
abbrev pub counted : (closed : Bool) → (hashes : ℕ) → Option ℕ
counted closed hashes = if closed && nat_lt hashes 256 then Some hashes else None

-- A raw text after its hashes, and what follows it. It begins with a quote; if it does not, it takes one character.
abbrev pub raw_body : (hashes : ℕ) → List ℕ → Option ℕ × List ℕ
raw_body hashes cs =
    if first cs == 34 then (counted (behind_raw hashes (skip cs)).0 hashes, (behind_raw hashes (skip cs)).1) else (None, skip cs)

-- A raw text after its letters: its hashes, if it is closed and has fewer than 256, and what follows it.
unfoldable pub raw_text : List ℕ → Option ℕ × List ℕ
raw_text cs = raw_body (hashes_of cs) (drop (hashes_of cs) cs)
