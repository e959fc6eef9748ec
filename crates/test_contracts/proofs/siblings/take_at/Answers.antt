-- What was passed is the first tree at the cursor.
use Rattle.std.proofs.Common.{ap, sym, ◌∙◌}
use Rattle.tt.specs.Forest.{join}
use Rattle.tt.specs.Iters.{rest_of}
use Rattle.tt.specs.Siblings.{first_tree}
use Rattle.tt_base.proofs.Joins.{tree_by_tree}
use Rattle.test_contracts.proofs.siblings.take_at.Goals as goal

pub from_savepoint-requires : goal.from_savepoint-requires
from_savepoint-requires c =
    let trees = rest_of c.flat_advance_to.new.self in
    (first_tree trees, c.savepoint-start.ensures ∙ tree_by_tree trees ∙ ap (join (first_tree trees)) (sym c.next_as_view.ensures.rest))
