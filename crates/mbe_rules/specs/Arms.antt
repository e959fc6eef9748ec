-- What an arm is, and how trees spell several arms.
use Rattle.std.specs.Prelude.{◌≡◌, ◌⊎◌, true, List, [], ◌∷◌, None}
use Rattle.tt.specs.Forest.{Forest, end, node}
use Rattle.tt.specs.Gluing.{after_trees}
use Rattle.tt.specs.Moves.{after_tree}
use Rattle.tt.specs.Types.Delimiter.{Delimiter}
use Rattle.mbe_matcher.specs.Grouping.{Where, variables_of}
use Rattle.mbe_pattern.specs.Faults.{pattern_fault}
use Rattle.mbe_pattern.specs.Patterns.{Pattern}
use Rattle.mbe_pattern.specs.Placed.{pattern_of}
use Rattle.mbe_rules.specs.Spelling.{template_of}
use Rattle.mbe_rules.specs.SpellingFaults.{spelling_fault}
use Rattle.mbe_rules.specs.Templates.{Template}
use Rattle.mbe_rules.specs.Arrows.{is_arrow_in, is_semicolon_in}

-- an arm: a pattern, and a template under a delimiter
pub record Arm : Type 0 where
  pub pattern : Pattern
  pub delimiter : Delimiter
  pub template : Template

-- the variables of a pattern, in reading order
abbrev pub variables : Pattern → List Where
variables pattern = variables_of pattern 1

-- the trees begin with an arm: a subtree that holds its pattern, `=>`, and a subtree that holds its template, both of which are sound; the
-- rest follows it
pub record IsArm (trees : Forest) (arm : Arm) (rest : Forest) : Type 0 where
  pub outer : Delimiter
  pub pattern : Forest
  pub between : Forest
  pub template : Forest
  pub begins : trees ≡ node outer pattern between
  pub arrow : is_arrow_in between ≡ true
  pub ends : after_trees 2 between ≡ node arm.delimiter template rest
  pub is_pattern : arm.pattern ≡ pattern_of pattern
  pub is_template : arm.template ≡ template_of (variables arm.pattern) template
  pub sound_pattern : pattern_fault pattern ≡ None
  pub sound_template : spelling_fault template ≡ None

-- after an arm comes the end, or `;` and other trees
abbrev pub IsBehind : (rest others : Forest) → Type 0
IsBehind rest others = ((rest ≡ end) × (others ≡ end)) ⊎ ((is_semicolon_in rest ≡ true) × (others ≡ after_tree rest))

-- nothing is left, or only `;`
abbrev pub IsLast : Forest → Type 0
IsLast rest = (rest ≡ end) ⊎ ((is_semicolon_in rest ≡ true) × (after_tree rest ≡ end))

-- the trees spell these arms, with `;` between them, and optionally after the last
abbrev pub Spell : Forest → List Arm → Type 0
Spell trees [] = ⊥
Spell trees (arm ∷ []) = (rest : Forest) × IsArm trees arm rest × IsLast rest
Spell trees (arm ∷ next ∷ more) = (rest : Forest) × IsArm trees arm rest × (is_semicolon_in rest ≡ true) × Spell (after_tree rest) (next ∷ more)
