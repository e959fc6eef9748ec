-- What contracts see of a rule.
use Rattle.tt.specs.Forest.{Forest, Root}
use Rattle.tt.specs.SubtreeViews.{root_of}
use Rattle.mbe_rule.specs.declared.rule.Rule.{Rule}

-- the trees of its pattern
abbrev pub pattern_of_rule : Rule → Forest
pattern_of_rule rule = (root_of rule.pattern).children

-- its template
abbrev pub template_of_rule : Rule → Root
template_of_rule rule = root_of rule.template
