-- Each step notes what it tries, and leaves fewer steps.
use Rattle.std.proofs.Common.{rules, ◌≡◌, true, false, ◌-◌, ◌≤◌, [], reverse, length, slice_get, refl, ap, sym, subst, ◌∙◌}
use Rattle.tt.specs.Views.{trees_of}
use Rattle.mbe_grammar.specs.declared.trying.Wanted.{Wanted}
use Rattle.mbe_grammar.specs.Good.{IsGood}
use Rattle.mbe_grammar.specs.Known.{glance_at}
use Rattle.mbe_grammar.specs.Machine.{IsStep}
use Rattle.mbe_grammar.specs.Machine as machine
use Rattle.mbe_grammar.specs.Parses.{Parses}
use Rattle.mbe_grammar.specs.Places.{position_of}
use Rattle.mbe_grammar.specs.Positions.{first_position}
use Rattle.mbe_grammar.specs.Running.{answer_at, state_at, frames_of, HasRoom}
use Rattle.mbe_grammar.specs.Tried.{tried_now, negations, negations_after, IsNoted}
use Rattle.mbe_grammar.specs.Trying.{IsFarthest}
use Rattle.mbe_grammar.proofs.Reaching.{Reaches, reaches_first, reaches_on, reaches_last, fewer_left}
use Rattle.mbe_grammar.proofs.Wanting.{Seeks, shows, seeks_first, seeks_on, seeks_last, farthest_failed, farthest_ended, counted_on, few}
use Rattle.mbe_grammar.proofs.trying.wanted_from.Goals.{then-ends, else-ends}
use Rattle.mbe_grammar.proofs.trying.wanted_from.Goals as goal

pub negations_after-waiting-requires : goal.negations_after-waiting-requires
negations_after-waiting-requires c =
    let trees = trees_of c.args.trees in
    let before = frames_of trees c.loop-wanted.log.items (reverse c.loop-wanted.frames.items) in
    record {
      few = subst (λ n. n ≤ length c.deref.result.now) (sym c.loop-wanted.invariant.counted)
          (subst (λ fs. negations before ≤ length fs) (sym c.deref.ensures.value) (few trees c.loop-wanted.log.items c.loop-wanted.frames.items));
    }

pub loop-wanted-smaller : goal.loop-wanted-smaller
loop-wanted-smaller c =
    let trees = trees_of c.args.trees in
    let good : IsGood c.args.table.rules.now = record { marks = c.args.table.marks.now; are_right = c.args.table.good } in
    let goes : IsStep false (glance_at c.args.table.known.now) c.args.table.rules.now (state_at (position_of trees c.loop-wanted.log.items c.loop-wanted.here) c.loop-wanted.state) (frames_of trees c.loop-wanted.log.items (reverse c.loop-wanted.frames.items)) (machine.goes (state_at (position_of trees c.step.new.log.items c.step.new.here) c.in-Goes.next)) (frames_of trees c.step.new.log.items (reverse c.step.new.frames.items)) = search rules in
    fewer_left false c.args.table.known.now c.args.table.rules.now good c.args.table.right (state_at (position_of trees c.loop-wanted.log.items c.loop-wanted.here) c.loop-wanted.state) (frames_of trees c.loop-wanted.log.items (reverse c.loop-wanted.frames.items)) (state_at (position_of trees c.step.new.log.items c.step.new.here) c.in-Goes.next) (frames_of trees c.step.new.log.items (reverse c.step.new.frames.items)) goes

pub loop-wanted-preserved : goal.loop-wanted-preserved
loop-wanted-preserved c =
    let trees = trees_of c.args.trees in
    let table = c.args.table.rules.now in
    let here = position_of trees c.loop-wanted.log.items c.loop-wanted.here in
    let now = state_at here c.loop-wanted.state in
    let items = c.loop-wanted.frames.items in
    let before = frames_of trees c.loop-wanted.log.items (reverse items) in
    let to = state_at (position_of trees c.step.new.log.items c.step.new.here) c.in-Goes.next in
    let after = frames_of trees c.step.new.log.items (reverse c.step.new.frames.items) in
    let old = c.loop-wanted.wanted in
    let new = c.note_step.new.wanted in
    let stepped = c.in_ok-next.ensures.step in
    let known : IsStep false (glance_at c.args.table.known.now) table now before (machine.goes to) after = search rules in
    let goes = subst (λ k. IsStep false (glance_at k) table now before (machine.goes to) after) c.requires.known known in
    let noted : IsNoted (tried_now table c.loop-wanted.state c.loop-wanted.waiting) c.loop-wanted.here old new = c.in_ok-note_step.ensures in
    let noted_here = subst (λ n. IsNoted (tried_now table c.loop-wanted.state n) c.loop-wanted.here old new) c.loop-wanted.invariant.counted noted in
    let count = c.negations_after-waiting.ensures
    ∙ ap (λ fs. negations_after table c.loop-wanted.state (slice_get fs (length fs - 1)) c.loop-wanted.waiting) c.deref.ensures.value
    ∙ ap (λ n. negations_after table c.loop-wanted.state (slice_get items (length items - 1)) n) c.loop-wanted.invariant.counted in
    record {
      reaches = reaches_on false c.args.table.known.now table c.args.at (first_position trees) now before to after known c.loop-wanted.invariant.reaches;
      seeks = seeks_on table c.args.at (first_position trees) now before old new (tried_now table c.loop-wanted.state (negations before)) c.loop-wanted.here
          (shows table here c.loop-wanted.state before) noted_here c.loop-wanted.invariant.seeks to after goes;
      room = c.in_ok-next.ensures.room;
      same = c.in_ok-next.ensures.same ∙ c.loop-wanted.invariant.same;
      decoded = search rules;
      counted = count ∙ sym (counted_on table trees c.loop-wanted.log.items here c.loop-wanted.state items to after goes);
    }

pub loop-wanted-init : goal.loop-wanted-init
loop-wanted-init c =
    let trees = trees_of c.args.trees in
    let table = c.args.table.rules.now in
    let known = c.args.table.known.now in
    let at = c.args.at in
    let good : IsGood table = record { marks = c.args.table.marks.now; are_right = c.args.table.good } in
    let no_log : c.new-log.result.items ≡ [] = search rules in
    let no_frames : c.new-frames.result.items ≡ [] = search rules in
    let no_units : c.new.result.items ≡ [] = search rules in
    let none : frames_of trees c.new-log.result.items (reverse c.new-frames.result.items) ≡ [] = ap (λ fs. frames_of trees c.new-log.result.items (reverse fs)) no_frames in
    let from : position_of trees c.new-log.result.items 0 ≡ first_position trees = ap (λ log. position_of trees log 0) no_log in
    let wanted : Wanted = record { passed = 0; units = c.new.result } in
    record {
      reaches = subst (λ fs. Reaches false known table at (first_position trees) (machine.reading at (position_of trees c.new-log.result.items 0)) fs) (sym none)
          (subst (λ p. Reaches false known table at (first_position trees) (machine.reading at p) []) (sym from) (reaches_first false known table good c.args.table.right at (first_position trees)));
      seeks = subst (λ fs. Seeks table at (first_position trees) (machine.reading at (position_of trees c.new-log.result.items 0)) fs wanted) (sym none)
          (subst (λ p. Seeks table at (first_position trees) (machine.reading at p) [] wanted) (sym from) (seeks_first table at (first_position trees) wanted no_units refl));
      room = subst (λ fs. HasRoom (length c.new-log.result.items) (reverse fs)) (sym no_frames) tt;
      counted = subst (λ fs. 0 ≡ negations fs) (sym none) refl;
      same = c.in_ok-reach.ensures.same ∙ c.new-units.ensures;
      decoded = c.in_ok-reach.ensures.decoded;
    }

pub returns-in-Ends : goal.returns-in-Ends
returns-in-Ends c =
    let trees = trees_of c.args.trees in
    let table = c.args.table.rules.now in
    let here = position_of trees c.loop-wanted.log.items c.loop-wanted.here in
    let now = state_at here c.loop-wanted.state in
    let before = frames_of trees c.loop-wanted.log.items (reverse c.loop-wanted.frames.items) in
    let found = answer_at (position_of trees c.step.new.log.items c.step.new.here) c.in-Ends.ends in
    let after = frames_of trees c.step.new.log.items (reverse c.step.new.frames.items) in
    let old = c.loop-wanted.wanted in
    let new = c.note_step.new.wanted in
    let stepped = c.in_ok-next.ensures.step in
    let known : IsStep false (glance_at c.args.table.known.now) table now before (machine.ends found) after = search rules in
    let ends = subst (λ k. IsStep false (glance_at k) table now before (machine.ends found) after) c.requires.known known in
    let noted : IsNoted (tried_now table c.loop-wanted.state c.loop-wanted.waiting) c.loop-wanted.here old new = c.in_ok-note_step.ensures in
    let noted_here = subst (λ n. IsNoted (tried_now table c.loop-wanted.state n) c.loop-wanted.here old new) c.loop-wanted.invariant.counted noted in
    let tried = seeks_last table c.args.at (first_position trees) now before old new (tried_now table c.loop-wanted.state (negations before)) c.loop-wanted.here
    (shows table here c.loop-wanted.state before) noted_here c.loop-wanted.invariant.seeks found after ends in
    let parses = reaches_last false c.args.table.known.now table c.args.at (first_position trees) now before found after known c.loop-wanted.invariant.reaches in
    elim c.if-ends.branch [
      | then-ends w ↦
          let yes : c.in-Ends.ends ≡ true = search rules in
          let ended = subst (λ b. Parses false table c.args.at (first_position trees) (answer_at (position_of trees c.step.new.log.items c.step.new.here) b)) yes parses in
          let same : c.if-ends.wanted ≡ w.stop.new.self = search rules in
          subst (λ it. IsFarthest table c.args.at (first_position trees) it.passed it.units.items) (sym same)
          (farthest_ended table c.args.at (first_position trees) new w.stop.new.self (position_of trees c.step.new.log.items c.step.new.here) tried ended w.stop.ensures)
      | else-ends w ↦
          let no : c.in-Ends.ends ≡ false = search rules in
          let failed = subst (λ b. Parses false table c.args.at (first_position trees) (answer_at (position_of trees c.step.new.log.items c.step.new.here) b)) no parses in
          let same : c.if-ends.wanted ≡ new = search rules in
          subst (λ it. IsFarthest table c.args.at (first_position trees) it.passed it.units.items) (sym same)
          (farthest_failed table c.args.at (first_position trees) new tried failed)
    ]
