-- What the lists that are open say in the end is what the whole says.
use Rattle.std.proofs.Common.{◌≡◌, ◌+◌, ◌*◌, reverse}
use Rattle.tt.specs.Forest.{size}
use Rattle.tt.specs.Iters.{rest_of}
use Rattle.expand_items.specs.Cfg.{known_of}
use Rattle.expand_items.specs.Predicates.{check}
use Rattle.expand_items.proofs.Reading.{finished, level_says, work_left}
use Rattle.expand_items.proofs.cfg.CfgOptions.check.Given as goal

abbrev pub invariant-operands : goal.invariant-operands
invariant-operands l = finished (known_of l.fn.self) (reverse l.outer.items) (level_says (known_of l.fn.self) l.level) ≡ check (known_of l.fn.self) (rest_of l.fn.predicate)

abbrev pub decreases-operands : goal.decreases-operands
decreases-operands l = 2 * size (rest_of l.level.rest) + work_left (reverse l.outer.items)
