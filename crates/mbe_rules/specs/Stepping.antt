-- What is left of a template's trees, level by level.
use Rattle.std.specs.Prelude.{◌≡◌, List, [], ◌∷◌, ◌++◌, map, reverse, Option, None, Some}
use Rattle.tt.specs.Iters.{rest_of}
use Rattle.mbe_pattern.specs.declared.dollar.Tail.{Tail}
use Rattle.mbe_matcher.specs.Grouping.{Where}
use Rattle.mbe_rules.specs.declared.parse.Parser.{Parser}
use Rattle.mbe_rules.specs.declared.parse.Level.{Level}
use Rattle.mbe_rules.specs.declared.first.First.{First}
use Rattle.mbe_rules.specs.declared.first.First.TheVariants as first
use Rattle.mbe_rules.specs.declared.error.TemplateError.{TemplateError}
use Rattle.mbe_rules.specs.Parts.{Bit, uses, same, enter, leave, begin, close, bits_of, bit_of}
use Rattle.mbe_rules.specs.Spelling.{template_until}
use Rattle.mbe_rules.specs.SpellingFaults.{or_else, fault_until}
use Rattle.mbe_rules.specs.Templates.{Template}
use Rattle.mbe_rules.specs.Templates as template

-- the template begins with the part that was read, and the others follow it
abbrev pub IsFirst : List Where → Template → First → (others : Template) → Type 0
IsFirst variables whole first.End others = whole ≡ template.nothing
IsFirst variables whole (first.Use at variable less_follows) others = whole ≡ template.use_of at variable less_follows others
IsFirst variables whole (first.Token it) others = whole ≡ template.token it others
IsFirst variables whole (first.Subtree delimiter inner until) others = whole ≡ template.subtree delimiter (template_until variables until (rest_of inner)) others
IsFirst variables whole (first.Repetition at inner until tail) others =
    whole ≡ template.repetition at (template_until variables until (rest_of inner)) tail.separator.items tail.kind others

-- the first fault of what the part holds, or otherwise that of what follows it
abbrev pub fault_from : First → Option TemplateError → Option TemplateError
fault_from first.End other = None
fault_from (first.Use at variable less_follows) other = other
fault_from (first.Token it) other = other
fault_from (first.Subtree delimiter inner until) other = or_else (fault_until until (rest_of inner)) other
fault_from (first.Repetition at inner until tail) other = or_else (fault_until until (rest_of inner)) other

-- the first fault of what is left of a level
abbrev pub level_fault : Level → Option TemplateError
level_fault level = fault_until level.until (rest_of level.rest)

-- the first fault of what is left of the levels, the innermost of which is first
abbrev pub fault_in : List Level → Option TemplateError
fault_in [] = None
fault_in (level ∷ outer) = or_else (level_fault level) (fault_in outer)

-- the same, if the innermost is last
abbrev pub fault_left : List Level → Option TemplateError
fault_left levels = fault_in (reverse levels)

-- what is left of a subtree or a repetition, and how it is closed
pub record LevelLeft : Type 0 where
  pub rest : Template
  pub closing : Option Tail

abbrev pub level_left : List Where → Level → LevelLeft
level_left variables level = record { rest = template_until variables level.until (rest_of level.rest); closing = level.closing }

-- the levels that are left, the innermost first
abbrev pub levels_left : List Where → List Level → List LevelLeft
levels_left variables levels = map (level_left variables) (reverse levels)

-- the end of a level
abbrev pub end_bit : Option Tail → Bit
end_bit None = leave
end_bit (Some tail) = close tail.separator.items tail.kind

-- the parts that are still to come
abbrev pub bits_left : List LevelLeft → List Bit
bits_left [] = []
bits_left (level ∷ outer) = bits_of level.rest (end_bit level.closing ∷ bits_left outer)

-- one more part, and the levels that are then left
pub record Step : Type 0 where
  pub bit : Bit
  pub levels : List LevelLeft

-- a level
abbrev pub level_of : Template → Option Tail → LevelLeft
level_of rest closing = record { rest = rest; closing = closing }

-- the part that was read from a level, given what is left of the level
abbrev pub stepped : List Where → First → LevelLeft → (outer : List LevelLeft) → Step
stepped variables first.End level outer = record { bit = end_bit level.closing; levels = outer }
stepped variables (first.Use at variable less_follows) level outer = record { bit = uses at variable less_follows; levels = level ∷ outer }
stepped variables (first.Token it) level outer = record { bit = same it; levels = level ∷ outer }
stepped variables (first.Subtree delimiter inner until) level outer =
    record { bit = enter delimiter; levels = level_of (template_until variables until (rest_of inner)) None ∷ level ∷ outer }
stepped variables (first.Repetition at inner until tail) level outer =
    record { bit = begin at; levels = level_of (template_until variables until (rest_of inner)) (Some tail) ∷ level ∷ outer }

-- `next` is `old` after the step
pub record IsStepped (variables : List Where) (step : Step) (old next : Parser) : Type 0 where
  pub bits : map bit_of next.parts.items ≡ map bit_of old.parts.items ++ step.bit ∷ []
  pub levels : levels_left variables next.levels.items ≡ step.levels
