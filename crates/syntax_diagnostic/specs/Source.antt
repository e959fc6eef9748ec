-- The text of a file.
use Rattle.std.specs.Prelude.{ℕ, ◌-◌, ◌==◌, List, [], ◌∷◌, slice_get, unwrap_or, if◌then◌else◌}
use Rattle.std.specs.Str.Lines.{lines}

-- characters without a byte order mark at the front
abbrev pub without_mark : List ℕ → List ℕ
without_mark [] = []
without_mark (c ∷ cs) = if c == 0xFEFF then cs else c ∷ cs

-- the line with this number, and nothing if a text has fewer
abbrev pub line_text : (text : List ℕ) (number : ℕ) → List ℕ
line_text text number = unwrap_or (slice_get (lines text) (number - 1)) []
