-- What is found, and what is left of the levels, are all definitions of the trees.
use Rattle.std.proofs.Common.{◌++◌, ◌∷◌, ◌+◌, ◌*◌, List, map, reverse}
use Rattle.tt.specs.Forest.{size}
use Rattle.tt.specs.Iters.{rest_of}
use Rattle.expand_items.specs.Cfg.{known_of}
use Rattle.expand_items.specs.Definitions.{AreDefinitions, Defined, defined_of, level_of}
use Rattle.expand_items.specs.Positions.{begun}
use Rattle.expand_items.specs.declared.position.Siblings.TheVariants.{Items}
use Rattle.expand_items.proofs.DefinedSoFar.{AreLeft, work_of}
use Rattle.expand_items.proofs.definitions.definitions_in.Given as goal

abbrev pub invariant-trees : goal.invariant-trees
invariant-trees l =
    (others : List Defined) → AreLeft (known_of l.options) l.root (level_of l.level ∷ map level_of (reverse l.outer.items)) others
    → AreDefinitions (known_of l.options) l.root (begun Items) 0 (rest_of l.fn.trees) (map defined_of l.found.items ++ others)

abbrev pub decreases-trees : goal.decreases-trees
decreases-trees l = 2 * size (rest_of l.level.rest) + work_of (reverse l.outer.items)
