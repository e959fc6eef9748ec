-- What a template is.
use Rattle.std.specs.Prelude.{◌+◌, ◌-◌, ℕ, zero, Bool, Option, None, Some, List, length, slice_get}
use Rattle.tt.specs.Types.Delimiter.{Delimiter}
use Rattle.tt.specs.Types.Leaf.{Leaf}
use Rattle.mbe_pattern.specs.declared.pattern.RepeatKind.{RepeatKind}
use Rattle.mbe_matcher.specs.Grouping.{Where}

-- a template: uses of a pattern's variables, each by its index among them, tokens, subtrees, and repetitions of a template; between the
-- rounds of a repetition is a token as separator, or nothing; a use and a repetition have the flat place of their `$`, and a use says whether
-- a `<` follows it
pub data Template : Type 0 where
  nothing : Template
  use_of : (at variable : ℕ) → (less_follows : Bool) → Template → Template
  token : Leaf → Template → Template
  subtree : Delimiter → Template → Template → Template
  repetition : (at : ℕ) → Template → (separator : List Leaf) → RepeatKind → Template → Template

-- what the first part holds
abbrev pub inner_part : Template → Template
inner_part nothing = nothing
inner_part (use_of at variable less_follows others) = nothing
inner_part (token it others) = nothing
inner_part (subtree delimiter inner others) = inner
inner_part (repetition at inner separator kind others) = inner

-- how many repetitions of its pattern enclose a variable
abbrev pub depth_in : Option Where → ℕ
depth_in None = zero
depth_in (Some it) = length it.nest

abbrev pub depth_of : List Where → (variable : ℕ) → ℕ
depth_of variables variable = depth_in (slice_get variables variable)

-- the greater of two numbers: `a`, plus by how much `b` exceeds it
abbrev pub greater : ℕ → ℕ → ℕ
greater a b = a + (b - a)

-- the greatest number of repetitions around a variable that the template uses
abbrev pub deepest : List Where → Template → ℕ
deepest variables nothing = zero
deepest variables (use_of at variable less_follows others) = greater (depth_of variables variable) (deepest variables others)
deepest variables (token it others) = deepest variables others
deepest variables (subtree delimiter inner others) = greater (deepest variables inner) (deepest variables others)
deepest variables (repetition at inner separator kind others) = greater (deepest variables inner) (deepest variables others)
