use Rattle.std.proofs.Common.{map}
use Rattle.tt.specs.Iters.{rest_of}
use Rattle.mbe_matcher.specs.Binders.{where_of}
use Rattle.mbe_rules.specs.Spelling.{template_of}
use Rattle.mbe_rules.proofs.Wholeness.{are_its, whole_by}
use Rattle.mbe_rules.proofs.template.Template.new.Goals as goal

pub returns-clause-ok : goal.returns-clause-ok
returns-clause-ok c = whole_by c.in_ok-parts.parts.items (template_of (map where_of c.args.binders.now) (rest_of c.args.trees)) c.in_ok-parts.ensures.ok

pub invariant_of-result : goal.invariant_of-result
invariant_of-result c = record { whole = are_its c.in_ok-parts.parts.items (template_of (map where_of c.args.binders.now) (rest_of c.args.trees)) c.in_ok-parts.ensures.ok }
