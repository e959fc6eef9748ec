-- The text of a documenting comment, and how many hashes it needs.
use Rattle.std.specs.Prelude.{ℕ, ◌+◌, ◌-◌, ◌==◌, ◌&&◌, nat_lt, nat_eq, List, [], ◌∷◌, codes, length, take, drop, max, if◌then◌else◌}
use Rattle.std.specs.List.{starts_with, ends_with}
use Rattle.syntax_lex.specs.declared.token.DocStyle.{DocStyle}
use Rattle.syntax_lex.specs.declared.token.DocStyle.TheVariants.{Outer, Inner}

-- the text without a prefix, if it has that prefix
abbrev pub without_prefix : (prefix text : List ℕ) → List ℕ
without_prefix prefix text = if starts_with nat_eq text prefix then drop (length prefix) text else text

-- the text without a suffix, if it has that suffix
abbrev pub without_suffix : (suffix text : List ℕ) → List ℕ
without_suffix suffix text = if ends_with nat_eq text suffix then take (length text - length suffix) text else text

-- the text after the signs that open a comment of one line
abbrev pub behind_line_opening : DocStyle → (text : List ℕ) → List ℕ
behind_line_opening Outer text = without_prefix (codes "///") text
behind_line_opening Inner text = without_prefix (codes "//!") text

-- the text without the carriage return at its end, which belongs to the end of the line
abbrev pub without_return : (text : List ℕ) → List ℕ
without_return text = without_suffix (codes "\r") text

-- the text of a comment of one line
abbrev pub line_text : DocStyle → (text : List ℕ) → List ℕ
line_text style text = without_return (behind_line_opening style text)

-- the text after the signs that open a block comment
abbrev pub behind_opening : DocStyle → (text : List ℕ) → List ℕ
behind_opening Outer text = without_prefix (codes "/**") text
behind_opening Inner text = without_prefix (codes "/*!") text

-- the text before the sign that closes a block comment
abbrev pub before_closing : (text : List ℕ) → List ℕ
before_closing text = without_suffix (codes "*/") text

-- the text of a block comment
abbrev pub block_text : DocStyle → (text : List ℕ) → List ℕ
block_text style text = before_closing (behind_opening style text)

-- the length of a run of a quote and hashes after one byte more
abbrev pub next_run : (run byte : ℕ) → ℕ
next_run run byte = if byte == 34 then 1 else (if (byte == 35) && nat_lt 0 run then run + 1 else 0)

-- the longest run of a quote and hashes, after a run before the text and a known longest run
abbrev pub longest_run : (run most : ℕ) → (text : List ℕ) → ℕ
longest_run run most [] = most
longest_run run most (byte ∷ bytes) = longest_run (next_run run byte) (max most (next_run run byte)) bytes

-- how many hashes a raw string with this text needs
abbrev pub hashes_wanted : (text : List ℕ) → ℕ
hashes_wanted text = longest_run 0 0 text
