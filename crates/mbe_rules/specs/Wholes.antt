-- The template whose parts a list of parts are, read from the last part to the first.
use Rattle.std.specs.Prelude.{◌≡◌, ℕ, List, [], ◌∷◌, map}
use Rattle.mbe_rules.specs.declared.parts.Part.{Part}
use Rattle.mbe_rules.specs.Parts.{Bit, uses, same, enter, leave, begin, close, bit_of, all_bits}
use Rattle.mbe_rules.specs.Templates.{Template, nothing, use_of, token, subtree, repetition}

-- what was read of a level, and its end
pub record Read : Type 0 where
  pub template : Template
  pub ending : Bit

abbrev pub read : Template → Bit → Read
read template ending = record { template = template; ending = ending }

-- a part of the innermost level
abbrev pub put_first : (Template → Template) → List Read → List Read
put_first part [] = []
put_first part (level ∷ outer) = read (part level.template) level.ending ∷ outer

-- the beginning of a repetition; its end has the separator and the kind
abbrev pub put_repetition : (at : ℕ) → (inner : Template) → (ending : Bit) → List Read → List Read
put_repetition at inner (close separator kind) outer = put_first (repetition at inner separator kind) outer
put_repetition at inner other outer = outer

-- one more part
abbrev pub put : Bit → List Read → List Read
put (uses at variable less_follows) levels = put_first (use_of at variable less_follows) levels
put (same it) levels = put_first (token it) levels
put (enter delimiter) [] = []
put (enter delimiter) (level ∷ outer) = put_first (subtree delimiter level.template) outer
put leave levels = read nothing leave ∷ levels
put (begin at) [] = []
put (begin at) (level ∷ outer) = put_repetition at level.template level.ending outer
put (close separator kind) levels = read nothing (close separator kind) ∷ levels

-- the levels that these parts are in, the innermost first
abbrev pub levels_in : List Bit → List Read
levels_in [] = []
levels_in (it ∷ others) = put it (levels_in others)

-- the template at the front
abbrev pub first_in : List Read → Template
first_in [] = nothing
first_in (level ∷ outer) = level.template

-- the template of the parts
abbrev pub whole_of : List Part → Template
whole_of parts = first_in (levels_in (map bit_of parts))

-- the parts are those of a template
abbrev pub AreWhole : List Part → Type 0
AreWhole parts = map bit_of parts ≡ all_bits (whole_of parts)
