use Rattle.std.proofs.Common.{◌≡◌, subst}
use Rattle.std.specs.Fn.{CalledAt}
use Rattle.tt_base.specs.Forest.{Forest, only, flat}
use Rattle.tt_view.specs.SubtreeViews.{root_of}
use Rattle.tt.specs.Rewrites.{Rewrites}
use Rattle.tt.proofs.Results.{stored_result}
use Rattle.tt.proofs.transform.rewritten.Goals as goal

pub returns-in-Some-clause-ok : goal.returns-in-Some-clause-ok
returns-in-Some-clause-ok g c =
    let told : (result : Forest) × Rewrites (CalledAt g.F.FnMut) c.args.callback (only (root_of c.view.result)) result × (c.in-Some.list.items ≡ flat result) = rw c.in-Some.is at c.in_ok-list.ensures in
    stored_result (CalledAt g.F.FnMut) c.args.callback (only c.args.tree.now) told.0 c.in-Some.list.items c.stored.result
    (subst (λ r. Rewrites (CalledAt g.F.FnMut) c.args.callback (only r) told.0) c.view.ensures told.1) told.2 c.stored.ensures.ok
