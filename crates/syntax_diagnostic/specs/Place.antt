-- The line and the column of a byte of a text.
use Rattle.std.specs.Prelude.{ℕ, ◌+◌, Bool, ◌||◌, ◌==◌, nat_lt, nat_le, List, [], ◌∷◌, ◌++◌, take, codes, decimal, if◌then◌else◌}
use Rattle.std.specs.List.{count_by, list_any}
use Rattle.syntax_diagnostic.specs.declared.place.Place.{Place}

-- whether a byte is a line feed
abbrev pub is_feed : ℕ → Bool
is_feed byte = byte == 10

-- whether a byte is the first of a character: in UTF-8 the other bytes are 128 to 191
abbrev pub begins_char : ℕ → Bool
begins_char byte = nat_lt byte 128 || nat_le 192 byte

-- the text after the last line feed, or all of it if there is none
abbrev pub last_line : List ℕ → List ℕ
last_line [] = []
last_line (byte ∷ bytes) = if list_any is_feed (byte ∷ bytes) then last_line bytes else byte ∷ bytes

-- the place after these bytes at the front of a text
abbrev pub place_behind : List ℕ → Place
place_behind front = record { line = 1 + count_by is_feed front; column = 1 + count_by begins_char (last_line front) }

-- the place of a byte of a text: one more than the line feeds before it, and than the characters before it on its line
abbrev pub place_of : (text : List ℕ) (at : ℕ) → Place
place_of text at = place_behind (take at text)

-- the place after a byte
abbrev pub next_place : Place → (byte : ℕ) → Place
next_place place byte =
    if is_feed byte then record { line = place.line + 1; column = 1 }
    else record { line = place.line; column = place.column + (if begins_char byte then 1 else 0) }

-- line:column
abbrev pub place_text : Place → List ℕ
place_text place = decimal place.line ++ codes ":" ++ decimal place.column
