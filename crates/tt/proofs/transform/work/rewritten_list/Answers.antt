use Rattle.std.proofs.Common.{refl, subst, of_calls, [], map}
use Rattle.std.specs.Fn.{CalledAt}
use Rattle.tt_base.specs.Forest.{only, end}
use Rattle.tt_base.specs.Unflat.{join-end}
use Rattle.tt_view.specs.SubtreeViews.{root_of}
use Rattle.tt_view.specs.Views.{trees_of}
use Rattle.tt.specs.Rewrites.{action_of}
use Rattle.tt.specs.Work.{lowest, taken, done, IsTooLarge, IsListOf, place_of, StandsFor, IsNextOf}
use Rattle.tt.proofs.OnTheWay.{goes_further, less_left, arrives}
use Rattle.tt.proofs.transform.work.rewritten_list.Goals as goal

pub loop-token-smaller : goal.loop-token-smaller
loop-token-smaller g c =
    let way = c.loop-token.invariant.1 in
    let n : IsNextOf way.work c.next.new.self c.in-Some.token (trees_of c.in-Some.below) = c.in-Some.ensures way.work way.stands in
    let is : StandsFor c.obey.new.self (done (action_of c.callback-action.result) c.in-Some.token (trees_of c.in-Some.below) (taken n.next)) =
    c.in_ok-obey.ensures (taken n.next) n.one n.stands in
    less_left (CalledAt g.F.FnMut) c.args.callback (only (root_of c.args.tree)) c.loop-token.callback c.loop-token.work way c.in-Some.token (trees_of c.in-Some.below)
    c.callback-action.result c.next.new.self c.obey.new.self n is

pub loop-token-preserved : goal.loop-token-preserved
loop-token-preserved g c =
    let way = c.loop-token.invariant.1 in
    let n : IsNextOf way.work c.next.new.self c.in-Some.token (trees_of c.in-Some.below) = c.in-Some.ensures way.work way.stands in
    let is : StandsFor c.obey.new.self (done (action_of c.callback-action.result) c.in-Some.token (trees_of c.in-Some.below) (taken n.next)) =
    c.in_ok-obey.ensures (taken n.next) n.one n.stands in (
      search of_calls,
      goes_further (CalledAt g.F.FnMut) c.args.callback (only (root_of c.args.tree)) c.loop-token.callback c.loop-token.work way c.callback-action.new.self c.in-Some.token
          (trees_of c.in-Some.below) c.callback-action.result c.next.new.self c.obey.new.self n (record { shown = _; shows = refl; called = c.callback-action.ensures }) is,
    )

pub returns-then-work : goal.returns-then-work
returns-then-work g c =
    let way = c.loop-token.invariant.1 in
    let (came, stands, same) = c.in_default.ensures way.work way.stands in (
      came,
      arrives (CalledAt g.F.FnMut) c.args.callback (only (root_of c.args.tree)) c.loop-token.callback c.loop-token.work way came same,
      (subst (λ fits. IsListOf fits c.next.new.self.list.items (map place_of c.next.new.self.frames.items) (lowest came end)) c.if-work.true stands.list).0,
    )

pub returns : goal.returns
returns g c =
    let way = c.loop-token.invariant.1 in
    let (came, stands, same) = c.in_default.ensures way.work way.stands in (
      came,
      arrives (CalledAt g.F.FnMut) c.args.callback (only (root_of c.args.tree)) c.loop-token.callback c.loop-token.work way came same,
      subst IsTooLarge (join-end came) ((subst (λ fits. IsListOf fits c.next.new.self.list.items (map place_of c.next.new.self.frames.items) (lowest came end)) c.if-work.false stands.list) []),
    )
