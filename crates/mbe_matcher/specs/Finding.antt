-- The answer about an input.
use Rattle.std.specs.Prelude.{◌≡◌, map}
use Rattle.tt.specs.Forest.{Forest}
use Rattle.mbe_matcher.specs.declared.binding.Found.{Found}
use Rattle.mbe_matcher.specs.declared.binding.Found.TheVariants as found
use Rattle.mbe_matcher.specs.Bindings.{binding_of}
use Rattle.mbe_matcher.specs.Fronts.{StopsAt}
use Rattle.mbe_matcher.specs.Grouping.{variables_of, binding_by}
use Rattle.mbe_matcher.specs.Marks.{note_of, notes_of}
use Rattle.mbe_pattern.specs.Patterns.{Pattern}
use Rattle.mbe_matcher.specs.Readings.{Reading, IsNoInstance, IsReadBy, IsAmbiguous}

-- what was found in an input is correct: no reading, and where it stops; exactly one, with what it binds; or two
abbrev pub IsFound : Pattern → (input : Forest) → Found → Type 0
IsFound pattern input (found.Nothing at) = IsNoInstance pattern input × StopsAt pattern input at
IsFound pattern input (found.One binding) =
    (reading : Reading) × IsReadBy pattern input reading × (map note_of binding.marks.items ≡ notes_of pattern reading)
    × (binding_by (variables_of pattern 1) (map note_of binding.marks.items) ≡ binding_of pattern reading)
IsFound pattern input found.Many = IsAmbiguous pattern input
