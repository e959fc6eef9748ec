use Rattle.std.proofs.Common.{rules, ◌≡◌, map, take, length, refl, ap, sym, ◌∙◌, arith}
use Rattle.std.proofs.Math.Seq.{take-length}
use Rattle.tt.specs.Views.{trees_of}
use Rattle.mbe_matcher.specs.Ends.{sums}
use Rattle.mbe_matcher.specs.Grouping.{first_bound, counts_by, taken_by}
use Rattle.mbe_matcher.specs.Marks.{note_of}
use Rattle.mbe_rules.specs.Rounds.{nested}
use Rattle.mbe_rules.proofs.Nesting.{bounds_nested, twice}
use Rattle.mbe_rules.proofs.taken.Taken.of.Goals as goal

pub returns : goal.returns
returns c =
    let notes = map note_of c.args.binding.now.marks.items in
    let binder = c.args.binder.now in
    let last : c.loop-number.number-index ≡ length binder.nest.items = omega (arith, c.loop-number-test.false) in
    let all : take c.loop-number.number-index binder.nest.items ≡ binder.nest.items = ap (λ n. take n binder.nest.items) last ∙ take-length binder.nest.items in
    let trees : map trees_of c.in_ok-trees.trees.items ≡ taken_by binder.number notes = search rules in
    record {
      fragment = refl;
      bound =
          record {
            counts = map (λ r. counts_by r 0 notes) binder.nest.items;
            ends = c.loop-number.invariant ∙ ap (map (λ r. sums 0 (counts_by r 0 notes))) all ∙ sym (twice (λ r. counts_by r 0 notes) (sums 0) binder.nest.items);
            is =
                ap first_bound (bounds_nested binder.nest.items binder.number notes)
                ∙ ap (λ its. first_bound (nested (map (λ r. counts_by r 0 notes) binder.nest.items) its)) (sym trees);
          };
    }
