-- The variables of a pattern, as a program has them.
use Rattle.mbe_matcher.specs.declared.binder.Binder.{Binder}
use Rattle.mbe_matcher.specs.Grouping.{Where}

-- a variable with its number and its repetitions
abbrev pub where_of : Binder → Where
where_of it = record { variable = record { name = it.name; fragment = it.fragment }; number = it.number; nest = it.nest.items }
