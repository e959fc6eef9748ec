-- The places of a text that are kept: that of each 64th byte.
use Rattle.std.specs.Prelude.{ℕ, ◌+◌, ◌*◌, ◌/◌, List, length, map}
use Rattle.std.specs.List.{range_with_len}
use Rattle.syntax_diagnostic.specs.Place.{place_of}
use Rattle.syntax_diagnostic.specs.declared.place.Place.{Place}

-- the place of the byte after `block` blocks
abbrev pub mark : (text : List ℕ) (block : ℕ) → Place
mark text block = place_of text (block * 64)

-- the places of all blocks
abbrev pub marks_of : List ℕ → List Place
marks_of text = map (mark text) (range_with_len 0 (length text / 64 + 1))
