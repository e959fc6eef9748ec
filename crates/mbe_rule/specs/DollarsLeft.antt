-- Where a walk from `$` to `$` is.
use Rattle.std.specs.Prelude.{List, [], ◌∷◌, ◌++◌, reverse}
use Rattle.tt.specs.Forest.{Forest}
use Rattle.tt.specs.Iters.{rest_of}
use Rattle.tt.specs.Types.TtIter.{TtIter}
use Rattle.mbe_rule.specs.declared.dollars.Dollars.{Dollars}
use Rattle.mbe_rule.specs.Variables.{behind_dollars}

-- the siblings after each `$` of the levels; the innermost level comes first
abbrev pub behind_in : List TtIter → List Forest
behind_in [] = []
behind_in (level ∷ outer) = behind_dollars (rest_of level) ++ behind_in outer

-- the siblings after each `$` that is still to come
abbrev pub dollars_left : Dollars → List Forest
dollars_left dollars = behind_in (reverse dollars.levels.items)
