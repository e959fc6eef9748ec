-- What the attributes that were passed say, together with the others, is what all say.
use Rattle.std.proofs.Common.{◌≡◌, false}
use Rattle.tt.specs.Forest.{size}
use Rattle.tt.specs.Iters.{rest_of}
use Rattle.expand_items.specs.Cfg.{known_of}
use Rattle.expand_items.specs.Conditions.{metas_say}
use Rattle.expand_items.specs.Predicates.{both}
use Rattle.expand_items.proofs.condition.metas_say.Given as goal

abbrev pub invariant-trees : goal.invariant-trees
invariant-trees l =
    both l.says (metas_say (known_of l.fn.options) l.is_behind_comma (rest_of l.trees)) ≡ metas_say (known_of l.fn.options) false (rest_of l.fn.trees)

abbrev pub decreases-trees : goal.decreases-trees
decreases-trees l = size (rest_of l.trees)
