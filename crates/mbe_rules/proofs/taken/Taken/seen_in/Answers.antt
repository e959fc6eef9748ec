use Rattle.std.proofs.Common.{rules, ◌≡◌, ◌+◌, ◌-◌, ◌<◌, ◌≤◌, length, map, drop, get_or, Some, None, ap, sym, ◌∙◌, arith}
use Rattle.std.proofs.lemmas.Option.{slice_get-map, slice_get_within, slice_get_past, slice_get-get_or}
use Rattle.std.specs.Prelude.{slice_get, option_map}
use Rattle.tt.specs.Views.{trees_of}
use Rattle.mbe_matcher.specs.Bindings.{none}
use Rattle.mbe_rules.specs.Rounds.{first_at, count_at, times_at, bound_in, dones, nested}
use Rattle.mbe_rules.proofs.Seeing.{not_begun, no_such, such, all_passed, first_here}
use Rattle.mbe_rules.proofs.taken.Taken.seen_in.Goals as goal

pub loop-ends-init : goal.loop-ends-init
loop-ends-init c = record { few = omega arith; here = λ bound taken. first_here c.args.self.now bound taken c.args.rounds.now }

pub returns-in_default-get : goal.returns-in_default-get
returns-in_default-get c bound taken =
    let self = c.args.self.now in
    let depth = c.loop-ends.depth in
    let lt : depth < length self.ends.items = search rules in
    let here : c.in-Some.ends.now ≡ get_or self.ends.items depth c.in-Some.ends.now = search rules in
    let found : slice_get self.ends.items depth ≡ Some c.in-Some.ends.now = slice_get-get_or self.ends.items depth c.in-Some.ends.now lt ∙ ap Some (sym here) in
    let beyond : length c.args.rounds.now ≤ depth + 1 - 1 = search rules in
    let past : slice_get c.args.rounds.now depth ≡ None = slice_get_past c.args.rounds.now depth (omega (arith, beyond)) in
    let counted : c.rounds_at-here.result.count ≡ count_at c.in-Some.ends.now.items c.loop-ends.time (times_at (depth + 1) self) = search rules in
    not_begun self bound taken c.args.rounds.now depth c.loop-ends.time (depth + 1) (omega arith) (c.loop-ends.invariant.here bound taken) c.in-Some.ends.now.items
    (slice_get-map (λ v. v.items) self.ends.items depth ∙ ap (option_map (λ v. v.items)) found) c.rounds_at-here.result.count counted
    past

pub returns-then-round-here : goal.returns-then-round-here
returns-then-round-here c bound taken =
    let self = c.args.self.now in
    let depth = c.loop-ends.depth in
    let lt : depth < length self.ends.items = search rules in
    let here : c.in-Some.ends.now ≡ get_or self.ends.items depth c.in-Some.ends.now = search rules in
    let found : slice_get self.ends.items depth ≡ Some c.in-Some.ends.now = slice_get-get_or self.ends.items depth c.in-Some.ends.now lt ∙ ap Some (sym here) in
    let within : depth + 1 - 1 < length c.args.rounds.now = search rules in
    let round : c.in-Some-get.round.now ≡ get_or c.args.rounds.now (depth + 1 - 1) c.in-Some-get.round.now = search rules in
    let there : slice_get c.args.rounds.now (depth + 1 - 1) ≡ Some c.in-Some-get.round.now = slice_get-get_or c.args.rounds.now (depth + 1 - 1) c.in-Some-get.round.now within ∙ ap Some (sym round) in
    let counted : c.rounds_at-here.result.count ≡ count_at c.in-Some.ends.now.items c.loop-ends.time (times_at (depth + 1) self) = search rules in
    no_such self bound taken c.args.rounds.now depth c.loop-ends.time (depth + 1) (omega arith) (c.loop-ends.invariant.here bound taken) c.in-Some.ends.now.items
    (slice_get-map (λ v. v.items) self.ends.items depth ∙ ap (option_map (λ v. v.items)) found) c.rounds_at-here.result.count counted
    c.in-Some-get.round.now (ap (slice_get c.args.rounds.now) (omega arith) ∙ there) (omega (arith, c.if-round-here.true))

pub loop-ends-preserved : goal.loop-ends-preserved
loop-ends-preserved c =
    let self = c.args.self.now in
    let depth = c.loop-ends.depth in
    let lt : depth < length self.ends.items = search rules in
    let here : c.in-Some.ends.now ≡ get_or self.ends.items depth c.in-Some.ends.now = search rules in
    let found : slice_get self.ends.items depth ≡ Some c.in-Some.ends.now = slice_get-get_or self.ends.items depth c.in-Some.ends.now lt ∙ ap Some (sym here) in
    let within : depth + 1 - 1 < length c.args.rounds.now = search rules in
    let round : c.in-Some-get.round.now ≡ get_or c.args.rounds.now (depth + 1 - 1) c.in-Some-get.round.now = search rules in
    let there : slice_get c.args.rounds.now (depth + 1 - 1) ≡ Some c.in-Some-get.round.now = slice_get-get_or c.args.rounds.now (depth + 1 - 1) c.in-Some-get.round.now within ∙ ap Some (sym round) in
    let counted : c.rounds_at-here.result.count ≡ count_at c.in-Some.ends.now.items c.loop-ends.time (times_at (depth + 1) self) = search rules in
    let first : first_at c.in-Some.ends.now.items c.loop-ends.time ≡ c.rounds_at-here.result.first = search rules in
    record {
      few = omega (arith, slice_get_within c.args.rounds.now (depth + 1 - 1) c.in-Some-get.round.now there);
      here =
          λ bound taken.
          such self bound taken c.args.rounds.now depth c.loop-ends.time (depth + 1) (omega arith) (c.loop-ends.invariant.here bound taken) c.in-Some.ends.now.items
          (slice_get-map (λ v. v.items) self.ends.items depth ∙ ap (option_map (λ v. v.items)) found) c.rounds_at-here.result.count counted
          c.in-Some-get.round.now (ap (slice_get c.args.rounds.now) (omega arith) ∙ there) (omega (arith, c.if-round-here.false))
          ∙ ap (λ f. bound_in (drop (depth + 1) (dones c.args.rounds.now)) (get_or (nested (drop (depth + 1) taken.counts) (map trees_of self.trees.items)) (f + c.in-Some-get.round.now.done) none)) first;
    }

pub returns : goal.returns
returns c bound taken =
    let self = c.args.self.now in
    let depth = c.loop-ends.depth in
    let beyond : length self.ends.items ≤ depth = search rules in
    let past : slice_get self.ends.items depth ≡ None = slice_get_past self.ends.items depth beyond in
    c.trees_at.ensures
    ∙ all_passed self bound taken c.args.rounds.now depth c.loop-ends.time (c.loop-ends.invariant.here bound taken)
    (slice_get-map (λ v. v.items) self.ends.items depth ∙ ap (option_map (λ v. v.items)) past)
