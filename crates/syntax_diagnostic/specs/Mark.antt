-- The text before the mark under a column of a line.
use Rattle.std.specs.Prelude.{ℕ, ◌-◌, ◌==◌, ◌&&◌, ◌||◌, not, nat_lt, Bool, false, List, [], ◌∷◌, take, replicate, if◌then◌else◌}
use Rattle.std.specs.List.{flat_map}
use Rattle.std.specs.Option.{unwrap_or}
use Rattle.std.specs.Str.{chars}
use Rattle.unicode_width.specs.Width.{char_width}

-- a character that controls a terminal, as an escape does, or the direction of what follows it; a tab does neither
abbrev pub is_control : ℕ → Bool
is_control c =
    (nat_lt c 32 && not (c == 9)) || ((nat_lt 126 c && nat_lt c 160) || ((nat_lt 8233 c && nat_lt c 8239) || (nat_lt 8293 c && nat_lt c 8298)))

-- a character as it is shown: U+FFFD for such a one
abbrev pub shown_char : ℕ → ℕ
shown_char c = if is_control c then 65533 else c

-- as many columns as a character takes in a terminal: a tab for a tab, and else spaces
abbrev pub indent_of : ℕ → List ℕ
indent_of c = if c == 9 then 9 ∷ [] else replicate (unwrap_or (char_width false (shown_char c)) 0) 32

-- as many columns as the characters before a column of a line
abbrev pub indent : (line : List ℕ) (column : ℕ) → List ℕ
indent line column = flat_map indent_of (take (column - 1) (chars line))
