-- How grave a fault is.
use Rattle.std.specs.Prelude.{ℕ, List, codes}
use Rattle.syntax_diagnostic.specs.declared.level.Level.{Level}
use Rattle.syntax_diagnostic.specs.declared.level.Level.TheVariants.{Error, Warning}
use Rattle.syntax_diagnostic.specs.declared.paint.Colour.{Colour}
use Rattle.syntax_diagnostic.specs.declared.paint.Colour.TheVariants.{Red, Yellow}

-- the first word of a message
abbrev pub word_of : Level → List ℕ
word_of Error = codes "error"
word_of Warning = codes "warning"

-- the colour of that word, and of the mark
abbrev pub colour_of : Level → Colour
colour_of Error = Red
colour_of Warning = Yellow
