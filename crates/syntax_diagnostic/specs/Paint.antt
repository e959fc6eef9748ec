-- Words in a colour, on a terminal.
use Rattle.std.specs.Prelude.{ℕ, List, ◌∷◌, ◌++◌, codes}
use Rattle.syntax_diagnostic.specs.declared.paint.Colour.{Colour}
use Rattle.syntax_diagnostic.specs.declared.paint.Colour.TheVariants.{Red, Yellow, Green, Blue}
use Rattle.syntax_diagnostic.specs.declared.paint.Style.{Style}
use Rattle.syntax_diagnostic.specs.declared.paint.Style.TheVariants.{Plain, Coloured}

-- the signs that turn a colour on
abbrev pub sign_of : Colour → List ℕ
sign_of Red = 27 ∷ codes "[1;31m"
sign_of Yellow = 27 ∷ codes "[1;33m"
sign_of Green = 27 ∷ codes "[1;32m"
sign_of Blue = 27 ∷ codes "[1;34m"

-- words in a colour, if there are colours: the signs that turn it on, the words, and those that turn all off
abbrev pub painted : Style → Colour → List ℕ → List ℕ
painted Plain colour words = words
painted Coloured colour words = sign_of colour ++ words ++ 27 ∷ codes "[0m"
