-- What is noted, and what is left of the levels, are all parts of the trees.
use Rattle.std.proofs.Common.{◌≡◌, ◌++◌, map}
use Rattle.tt.specs.Views.{trees_of}
use Rattle.expand_unused.specs.Parts.{part_of, parts_of}
use Rattle.expand_unused.specs.Places.{defined_in}
use Rattle.expand_unused.proofs.Levels.{left_of, work_of}
use Rattle.expand_unused.proofs.walk.parts_in.Given as goal

abbrev pub invariant-levels : goal.invariant-levels
invariant-levels l =
    map part_of l.parts.items ++ left_of l.choice (defined_in l.defined) l.levels.items ≡ parts_of l.choice (defined_in l.defined) (trees_of l.fn.trees)

abbrev pub decreases-levels : goal.decreases-levels
decreases-levels l = work_of l.levels.items
