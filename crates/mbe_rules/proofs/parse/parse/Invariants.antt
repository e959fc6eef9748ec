-- What was cut, and what is left, are the parts of the whole. The first fault is left.
use Rattle.std.proofs.Common.{◌≡◌, ◌++◌, map}
use Rattle.tt.specs.Iters.{rest_of}
use Rattle.mbe_matcher.specs.Binders.{where_of}
use Rattle.mbe_rules.specs.Parts.{bit_of, all_bits}
use Rattle.mbe_rules.specs.Spelling.{template_of}
use Rattle.mbe_rules.specs.SpellingFaults.{spelling_fault}
use Rattle.mbe_rules.specs.Stepping.{bits_left, levels_left, fault_left}
use Rattle.mbe_rules.proofs.ParseSteps.{work_of}
use Rattle.mbe_rules.proofs.parse.parse.Given as goal

abbrev pub invariant-loop-level : goal.invariant-loop-level
invariant-loop-level l =
    (map bit_of l.parser.parts.items ++ bits_left (levels_left (map where_of l.fn.binders) l.parser.levels.items)
    ≡ all_bits (template_of (map where_of l.fn.binders) (rest_of l.fn.trees)))
    × (fault_left l.parser.levels.items ≡ spelling_fault (rest_of l.fn.trees))

abbrev pub decreases-loop-level : goal.decreases-loop-level
decreases-loop-level l = work_of (levels_left (map where_of l.fn.binders) l.parser.levels.items)
