-- The machine begins at the expression, and each step leaves fewer steps.
use Rattle.std.proofs.Common.{rules, ◌≡◌, [], reverse, length, refl, subst, sym, ap, ◌∙◌, arith}
use Rattle.mbe_grammar.specs.Good.{IsGood}
use Rattle.mbe_grammar.specs.Known.{glance_at}
use Rattle.mbe_grammar.specs.Machine.{IsStep}
use Rattle.mbe_grammar.specs.Machine as machine
use Rattle.mbe_grammar.specs.Places.{position_of, trees_in}
use Rattle.mbe_grammar.specs.Running.{state_at, frames_of, HasRoom, HasFloor}
use Rattle.mbe_grammar.proofs.Log.{extends_same}
use Rattle.mbe_grammar.proofs.Reaching.{Reaches, reaches_entered, reaches_on, fewer_left}
use Rattle.mbe_grammar.proofs.machine.parse.Goals as goal

pub loop-next-init : goal.loop-next-init
loop-next-init c =
    let good : IsGood c.args.table.rules.now = record { marks = c.args.table.marks.now; are_right = c.args.table.good } in
    let trees = trees_in c.reach.new.self in
    let empty : c.truncate.new.self.items ≡ [] = search rules in
    let none : reverse c.truncate.new.self.items ≡ [] = ap reverse empty in
    let from = position_of trees c.args.log.now.items 0 in
    let entered : state_at from c.enter-state.result ≡ machine.entered (glance_at c.args.table.known.now) c.args.at from = c.enter-state.ensures in
    record {
      reaches = subst (λ fs. Reaches c.args.noting c.args.table.known.now c.args.table.rules.now c.args.at from (state_at from c.enter-state.result) (frames_of trees c.args.log.now.items fs)) (sym none)
          (subst (λ s. Reaches c.args.noting c.args.table.known.now c.args.table.rules.now c.args.at from s []) (sym entered)
          (reaches_entered c.args.noting c.args.table.known.now c.args.table.rules.now good c.args.table.right c.args.at from));
      room = subst (HasRoom (length c.args.log.now.items)) (sym none) tt;
      floor = subst (HasFloor (length c.args.log.now.items) (length c.args.log.now.items)) (sym none) (omega arith);
      kept = extends_same c.args.log.now.items;
      same = refl;
      decoded = search rules;
    }

pub loop-next-smaller : goal.loop-next-smaller
loop-next-smaller c =
    let good : IsGood c.args.table.rules.now = record { marks = c.args.table.marks.now; are_right = c.args.table.good } in
    let trees = trees_in c.reach.new.self in
    let l = c.loop-next in
    let stepped : IsStep c.args.noting (glance_at c.args.table.known.now) c.args.table.rules.now (state_at (position_of (trees_in l.units) l.log.items l.here) l.state) (frames_of (trees_in l.units) l.log.items (reverse l.frames.items)) (machine.goes (state_at (position_of (trees_in l.units) c.step.new.log.items c.step.new.here) c.in-Goes.next)) (frames_of (trees_in l.units) c.step.new.log.items (reverse c.step.new.frames.items)) = search rules in
    let goes = subst (λ t. IsStep c.args.noting (glance_at c.args.table.known.now) c.args.table.rules.now (state_at (position_of t l.log.items l.here) l.state) (frames_of t l.log.items (reverse l.frames.items)) (machine.goes (state_at (position_of t c.step.new.log.items c.step.new.here) c.in-Goes.next)) (frames_of t c.step.new.log.items (reverse c.step.new.frames.items))) l.invariant.same stepped in
    fewer_left c.args.noting c.args.table.known.now c.args.table.rules.now good c.args.table.right (state_at (position_of trees l.log.items l.here) l.state) (frames_of trees l.log.items (reverse l.frames.items)) (state_at (position_of trees c.step.new.log.items c.step.new.here) c.in-Goes.next) (frames_of trees c.step.new.log.items (reverse c.step.new.frames.items)) goes

pub loop-next-preserved : goal.loop-next-preserved
loop-next-preserved c =
    let trees = trees_in c.reach.new.self in
    let l = c.loop-next in
    let stepped : IsStep c.args.noting (glance_at c.args.table.known.now) c.args.table.rules.now (state_at (position_of (trees_in l.units) l.log.items l.here) l.state) (frames_of (trees_in l.units) l.log.items (reverse l.frames.items)) (machine.goes (state_at (position_of (trees_in l.units) c.step.new.log.items c.step.new.here) c.in-Goes.next)) (frames_of (trees_in l.units) c.step.new.log.items (reverse c.step.new.frames.items)) = search rules in
    let goes = subst (λ t. IsStep c.args.noting (glance_at c.args.table.known.now) c.args.table.rules.now (state_at (position_of t l.log.items l.here) l.state) (frames_of t l.log.items (reverse l.frames.items)) (machine.goes (state_at (position_of t c.step.new.log.items c.step.new.here) c.in-Goes.next)) (frames_of t c.step.new.log.items (reverse c.step.new.frames.items))) l.invariant.same stepped in
    record {
      reaches = reaches_on c.args.noting c.args.table.known.now c.args.table.rules.now c.args.at (position_of trees c.args.log.now.items 0) (state_at (position_of trees l.log.items l.here) l.state) (frames_of trees l.log.items (reverse l.frames.items)) (state_at (position_of trees c.step.new.log.items c.step.new.here) c.in-Goes.next) (frames_of trees c.step.new.log.items (reverse c.step.new.frames.items)) goes l.invariant.reaches;
      room = c.in_ok-next.ensures.room;
      floor = c.in_ok-next.ensures.floor (length c.args.log.now.items) l.invariant.floor;
      kept = c.in_ok-next.ensures.kept (length c.args.log.now.items) l.invariant.floor ∙ l.invariant.kept;
      same = c.in_ok-next.ensures.same ∙ l.invariant.same;
      decoded = c.in_ok-next.ensures.decoded;
    }

pub returns-in_err-next-clause-log : goal.returns-in_err-next-clause-log
returns-in_err-next-clause-log c = c.in_err-next.ensures.kept (length c.args.log.now.items) c.loop-next.invariant.floor ∙ c.loop-next.invariant.kept

pub returns-then-ends-clause-log : goal.returns-then-ends-clause-log
returns-then-ends-clause-log c = c.in_ok-next.ensures.kept (length c.args.log.now.items) c.loop-next.invariant.floor ∙ c.loop-next.invariant.kept

pub returns-else-ends-clause-log : goal.returns-else-ends-clause-log
returns-else-ends-clause-log c = c.in_ok-next.ensures.kept (length c.args.log.now.items) c.loop-next.invariant.floor ∙ c.loop-next.invariant.kept
