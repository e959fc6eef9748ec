-- One of the attributes that are left begins with the word if one of all does.
use Rattle.std.proofs.Common.{◌≡◌}
use Rattle.tt.specs.Forest.{size}
use Rattle.tt.specs.Iters.{rest_of}
use Rattle.expand_items.specs.MacroRulesItems.{has_attribute}
use Rattle.expand_items.proofs.macro_rules_item.has_attribute.Given as goal

abbrev pub invariant-loop-trees : goal.invariant-loop-trees
invariant-loop-trees l = has_attribute l.fn.word (rest_of l.trees) ≡ has_attribute l.fn.word (rest_of l.fn.trees)

abbrev pub decreases-loop-trees : goal.decreases-loop-trees
decreases-loop-trees l = size (rest_of l.trees)
