-- A restore point is taken.
use Rattle.std.proofs.Common.{◌≡◌, ℕ, ◌+◌, ◌<◌, ◌≤◌, List, [], ◌∷◌, ◌++◌, length, Option, None, ap, sym, ◌∙◌, subst, arith}
use Rattle.std.proofs.lemmas.List.{take_all, drop_all}
use Rattle.std.specs.List.{AllByRecursion}
use Rattle.tt_base.specs.declared.delimiter.Delimiter.{Delimiter}
use Rattle.tt_base.specs.declared.token_tree.TokenTree.{TokenTree}
use Rattle.tt.specs.declared.builder.standing.Standing.{Standing}
use Rattle.tt_base.specs.Building.{Point, BuilderState, point_taken}
use Rattle.tt.specs.BuilderFields.{IsNoted, AreNoted, IsEarlier, AreInOrder, IsStateOf}
use Rattle.tt.proofs.Growing.{all_and_one, all_weaker}

-- One more point is kept.
one_more : (top : Delimiter) (tokens : List TokenTree) (headers : List ℕ) (kept : List Standing) (points : List Point) (k : Standing) (p : Point)
    → AreNoted top tokens headers kept points → IsNoted top tokens headers k p → AreNoted top tokens headers (kept ++ k ∷ []) (points ++ p ∷ [])
one_more top tokens headers [] [] k p are is = (is, tt)
one_more top tokens headers [] (r ∷ points) k p are is = absurd are
one_more top tokens headers (q ∷ kept) [] k p are is = absurd are
one_more top tokens headers (q ∷ kept) (r ∷ points) k p are is = (are.0, one_more top tokens headers kept points k p are.1 is)

-- The points are in order with one more that was taken after all others.
in_order : (kept : List Standing) (k : Standing) → AreInOrder kept → AllByRecursion (λ q. IsEarlier q k) kept → AreInOrder (kept ++ k ∷ [])
in_order [] k order earlier = (tt, tt)
in_order (q ∷ kept) k order earlier = (all_and_one (IsEarlier q) kept k order.0 earlier.0, in_order kept k order.1 earlier.1)

-- No point has more tokens than the builder holds.
all_reach : (top : Delimiter) (tokens : List TokenTree) (headers : List ℕ) (taken : ℕ) (kept : List Standing) (points : List Point) (k : Standing)
    → AreNoted top tokens headers kept points → AllByRecursion (λ q. q.number < taken) kept → k.number ≡ taken → k.tokens ≡ length tokens → k.depth ≡ length headers
    → AllByRecursion (λ q. IsEarlier q k) kept
all_reach top tokens headers taken [] [] k are numbers n t d = tt
all_reach top tokens headers taken [] (r ∷ points) k are numbers n t d = absurd are
all_reach top tokens headers taken (q ∷ kept) [] k are numbers n t d = absurd are
all_reach top tokens headers taken (q ∷ kept) (r ∷ points) k are numbers n t d = (
  record {
    number = omega (arith, numbers.0, n);
    tokens = omega (arith, are.0.reaches, t);
    depth = omega (arith, are.0.counts, d);
  },
  all_reach top tokens headers taken kept points k are.1 numbers.1 n t d,
)

-- The point is taken.
pub taken_state : (tokens : List TokenTree) (headers : List ℕ) (mark : Option ℕ) (points more : List Standing) (taken : ℕ) (s : BuilderState) (k : Standing)
    → IsStateOf tokens headers mark points taken s → more ≡ points ++ k ∷ [] → k.number ≡ taken → k.tokens ≡ length tokens → k.depth ≡ length headers
    → IsStateOf tokens headers None more (taken + 1) (point_taken s)
taken_state tokens headers mark points more taken s k is added n t d =
    let noted : IsNoted s.top tokens headers k (record { number = s.taken; stack = s.stack }) =
    record {
      numbered = n ∙ is.count;
      held = take_all k.tokens tokens (omega (arith, t)) ∙ is.list;
      reaches = omega (arith, t);
      opened = take_all k.depth headers (omega (arith, d)) ∙ is.open_places;
      counts = omega (arith, d);
      behind = subst (AllByRecursion (λ place. k.tokens ≤ place)) (sym (drop_all k.depth headers (omega (arith, d)))) tt;
    } in
    record {
      list = is.list;
      few = is.few;
      open_places = is.open_places;
      marked = tt;
      clear = tt;
      noted =
          subst (λ f. AreNoted s.top tokens headers f (s.points ++ record { number = s.taken; stack = s.stack } ∷ [])) (sym added)
          (one_more s.top tokens headers points s.points k (record { number = s.taken; stack = s.stack }) is.noted noted);
      order = subst AreInOrder (sym added) (in_order points k is.order (all_reach s.top tokens headers taken points s.points k is.noted is.numbers n t d));
      numbers =
          subst (AllByRecursion (λ q. q.number < taken + 1)) (sym added)
          (all_and_one (λ q. q.number < taken + 1) points k
          (all_weaker (λ q. q.number < taken) (λ q. q.number < taken + 1) points (λ q below. omega (arith, below)) is.numbers) (omega (arith, n)));
      count = ap (λ m. m + 1) is.count;
    }
