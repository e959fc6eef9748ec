-- What the attributes that were passed say, together with the others, is what all say.
use Rattle.std.proofs.Common.{◌≡◌}
use Rattle.tt.specs.Forest.{size}
use Rattle.tt.specs.Iters.{rest_of}
use Rattle.expand_items.specs.Cfg.{known_of}
use Rattle.expand_items.specs.Conditions.{attributes_say}
use Rattle.expand_items.specs.Predicates.{both}
use Rattle.expand_items.proofs.condition.attributes_say.Given as goal

abbrev pub invariant-attributes : goal.invariant-attributes
invariant-attributes l =
    both l.says (attributes_say (known_of l.fn.options) (rest_of l.trees)) ≡ attributes_say (known_of l.fn.options) (rest_of l.fn.trees)

abbrev pub decreases-attributes : goal.decreases-attributes
decreases-attributes l = size (rest_of l.trees)
