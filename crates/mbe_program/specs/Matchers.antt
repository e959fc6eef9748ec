-- When a matcher is that of a pattern.
use Rattle.std.specs.Prelude.{◌≡◌, map}
use Rattle.mbe_matcher.specs.Binders.{where_of}
use Rattle.mbe_matcher.specs.Grouping.{variables_of}
use Rattle.mbe_pattern.specs.Patterns.{Pattern}
use Rattle.mbe_program.specs.Moving.{instructions_of}
use Rattle.mbe_program.specs.Numbering.{parts_of}
use Rattle.mbe_program.specs.Program.{program_of}
use Rattle.mbe_program.specs.declared.matcher.Matcher.{Matcher}

-- it has the program of the pattern, the numbers of the pattern's parts, and its variables
pub record IsMatcherOf (pattern : Pattern) (matcher : Matcher) : Type 0 where
  pub instructions : instructions_of matcher.instructions.items ≡ program_of pattern
  pub numbers : matcher.numbers.items ≡ parts_of pattern
  pub variables : map where_of matcher.binders.items ≡ variables_of pattern 1
