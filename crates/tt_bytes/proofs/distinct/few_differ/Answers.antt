use Rattle.std.proofs.Common.{rules, ◌≡◌, ◌∷◌, true, false, refl, sym, subst}
use Rattle.std.specs.List.{IsDistinct, list_any}
use Rattle.tt_bytes.proofs.Apartness.{one_apart, apart_one, none_apart}
use Rattle.tt_bytes.proofs.distinct.few_differ.Goals as goal

pub loop-first-preserved : goal.loop-first-preserved
loop-first-preserved g c =
    let same = g.T.PartialEq.eq in
    let is : c.loop-first.left.now ≡ c.in-Some.first.now ∷ c.in-Some.rest.now = search rules in
    let none : list_any (λ y. same y c.in-Some.first.now) c.in-Some.rest.now ≡ false = search rules in
    record {
      differ = (
        λ differ. c.loop-first.invariant.differ.0 (subst (IsDistinct same) (sym is) (one_apart same c.requires c.in-Some.first.now c.in-Some.rest.now none differ)),
        λ differ. (apart_one same c.requires c.in-Some.first.now c.in-Some.rest.now (subst (IsDistinct same) is (c.loop-first.invariant.differ.1 differ))).1,
      );
    }

pub returns-then-is_among : goal.returns-then-is_among
returns-then-is_among g c =
    let same = g.T.PartialEq.eq in
    let is : c.loop-first.left.now ≡ c.in-Some.first.now ∷ c.in-Some.rest.now = search rules in
    let one : list_any (λ y. same y c.in-Some.first.now) c.in-Some.rest.now ≡ true = search rules in
    (λ wrong. absurd (cc wrong), λ differ. absurd (cc ((apart_one same c.requires c.in-Some.first.now c.in-Some.rest.now (subst (IsDistinct same) is (c.loop-first.invariant.differ.1 differ))).0, one)))

pub returns : goal.returns
returns g c = (
  λ all. c.loop-first.invariant.differ.0 (none_apart g.T.PartialEq.eq c.loop-first.left.now c.in_default.ensures.cases),
  λ differ. refl,
)
