-- What was read of a template, in the terms of its definitions.
use Rattle.mbe_pattern.specs.Dollars.{tail_of}
use Rattle.mbe_rules.specs.declared.first.Mark.{Mark}
use Rattle.mbe_rules.specs.declared.first.Mark.TheVariants as mark
use Rattle.mbe_rules.specs.Spelling as spelling

-- what a `$` begins
abbrev pub mark_of : Mark → spelling.Mark
mark_of (mark.Use variable less_follows) = spelling.use_of variable less_follows
mark_of (mark.Repetition tail) = spelling.repetition (tail_of tail)
mark_of (mark.Second it) = spelling.second it
mark_of mark.Nothing = spelling.nothing
