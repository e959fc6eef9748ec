-- The text of a place: its name, the line of the text and a mark under the column.
use Rattle.std.specs.Prelude.{ℕ, ◌-◌, List, ◌++◌, length, replicate, codes, decimal}
use Rattle.syntax_diagnostic.specs.Paint.{painted}
use Rattle.syntax_diagnostic.specs.Place.{place_text}
use Rattle.syntax_diagnostic.specs.Window.{shown, shown_indent}
use Rattle.syntax_diagnostic.specs.declared.paint.Colour.{Colour}
use Rattle.syntax_diagnostic.specs.declared.paint.Colour.TheVariants.{Blue}
use Rattle.syntax_diagnostic.specs.declared.paint.Style.{Style}
use Rattle.syntax_diagnostic.specs.declared.spot.Spot.{Spot}

-- a line
abbrev pub line : List ℕ → List ℕ
line words = words ++ codes "\n"

-- how many columns the number of a line takes
abbrev pub number_width : ℕ → ℕ
number_width number = length (decimal number)

-- file:line:column, after an arrow and as many spaces as the numbers of lines take columns
abbrev pub arrow_line : Style → (width : ℕ) → Spot → List ℕ
arrow_line style width spot = replicate width 32 ++ painted style Blue (codes "-->") ++ codes " " ++ spot.file.now ++ codes ":" ++ place_text spot.place ++ codes "\n"

-- the bar between numbers of lines and lines
abbrev pub bar : Style → List ℕ
bar style = codes " " ++ painted style Blue (codes "|")

-- a bar with no number before it
abbrev pub margin : Style → (width : ℕ) → List ℕ
margin style width = replicate width 32 ++ bar style

-- the number of a line, and spaces up to the bar
abbrev pub number_text : Style → (width number : ℕ) → List ℕ
number_text style width number = painted style Blue (decimal number) ++ replicate (width - number_width number) 32

-- the line of the text, or the part of it that is shown, after its number
abbrev pub source_line : Style → (width : ℕ) → Spot → List ℕ
source_line style width spot = number_text style width spot.place.line ++ bar style ++ codes " " ++ line (shown spot.line.now spot.place.column)

-- a mark under the column
abbrev pub marked_line : Style → Colour → (width : ℕ) → Spot → List ℕ
marked_line style colour width spot = margin style width ++ codes " " ++ shown_indent spot.line.now spot.place.column ++ painted style colour (codes "^") ++ codes "\n"

-- the lines above that of the text
abbrev pub head_lines : Style → (width : ℕ) → Spot → List ℕ
head_lines style width spot = arrow_line style width spot ++ margin style width ++ codes "\n"

-- all of it
abbrev pub spot_text : Style → Colour → (width : ℕ) → Spot → List ℕ
spot_text style colour width spot = head_lines style width spot ++ source_line style width spot ++ marked_line style colour width spot
