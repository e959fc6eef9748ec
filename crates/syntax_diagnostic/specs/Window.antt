-- The part of a line that is shown.
use Rattle.std.specs.Prelude.{ℕ, ◌-◌, nat_lt, Bool, true, false, List, [], ◌++◌, length, map, take, drop, codes, encode_utf8_all, if◌then◌else◌}
use Rattle.std.specs.List.{flat_map}
use Rattle.std.specs.Str.{chars}
use Rattle.syntax_diagnostic.specs.Mark.{indent_of, shown_char}

-- a line of more characters is cut
abbrev pub most_chars : ℕ
most_chars = 160

-- so many characters before the mark are shown of a line that is cut, if it has them
abbrev pub chars_before : ℕ
chars_before = 60

-- a line is cut
abbrev pub is_long : (line : List ℕ) → Bool
is_long line = nat_lt most_chars (length (chars line))

-- how many characters are left out at the front of a line, for a mark under a column
abbrev pub cut_before : (line : List ℕ) (column : ℕ) → ℕ
cut_before line column = if is_long line then (column - 1) - chars_before else 0

-- the characters from the first that is shown on
abbrev pub chars_after_cut : (line : List ℕ) (column : ℕ) → List ℕ
chars_after_cut line column = drop (cut_before line column) (chars line)

-- two points where characters are left out
abbrev pub dots : (is_cut : Bool) → List ℕ
dots true = codes ".."
dots false = []

-- the part of a line that is shown, for a mark under a column
unfoldable pub shown : (line : List ℕ) (column : ℕ) → List ℕ
shown line column =
    dots (nat_lt 0 (cut_before line column))
    ++ (encode_utf8_all (map shown_char (take most_chars (chars_after_cut line column))) ++ dots (nat_lt most_chars (length (chars_after_cut line column))))

-- as many columns as the points take that are left out before the mark
abbrev pub indent_of_dots : (is_cut : Bool) → List ℕ
indent_of_dots true = codes "  "
indent_of_dots false = []

-- as many columns as what is shown before a column of the line
unfoldable pub shown_indent : (line : List ℕ) (column : ℕ) → List ℕ
shown_indent line column =
    indent_of_dots (nat_lt 0 (cut_before line column)) ++ flat_map indent_of (take ((column - cut_before line column) - 1) (chars_after_cut line column))
