-- A restore point is found, and the list is cut back to it.
use Rattle.std.proofs.Common.{◌≡◌, ℕ, zero, suc, ◌+◌, ◌<◌, ◌≤◌, List, [], ◌∷◌, length, take, drop, get_or, Bool, true, false, cond, Option, Some, None, refl, ap, sym, ◌∙◌, subst, arith, nat_le, nat_eq, ◌⊎◌, inl, inr, is_some}
use Rattle.std.proofs.lemmas.Bool.{leb-true}
use Rattle.std.proofs.lemmas.Bool.Decides.{leb_tells}
use Rattle.std.proofs.lemmas.List.{length-take-le, get_or-take}
use Rattle.std.proofs.Math.Seq.{drop-cons}
use Rattle.std.specs.List.{AllByRecursion, filter}
use Rattle.tt_base.specs.declared.delimiter.Delimiter.{Delimiter}
use Rattle.tt_base.specs.declared.token_tree.TokenTree.{TokenTree}
use Rattle.tt_base.specs.Forest.{size}
use Rattle.tt.specs.declared.builder.standing.Standing.{Standing}
use Rattle.tt_base.specs.Building.{Stack, lowest, above, tokens_held, Point, BuilderState, noted, back_to, restored, points_before}
use Rattle.tt.specs.BuilderFields.{places, kept_under, IsNoted, AreNoted, AreInOrder, IsStateOf}
use Rattle.tt.specs.OneState.{length-written}
use Rattle.tt.proofs.Filters.{all_filter, order_filter, same_test, at_place}
use Rattle.tt.proofs.Growing.{all_and_one, all_weaker}

-- All headers of open subtrees are among the tokens held.
pub places_below : (stack : Stack) → AllByRecursion (λ place. place ≤ tokens_held stack) (places stack)
places_below (lowest trees) = tt
places_below (above outer kind open_span trees) =
    all_and_one (λ place. place ≤ tokens_held outer + suc (size trees)) (places outer) (suc (tokens_held outer))
    (all_weaker (λ place. place ≤ tokens_held outer) (λ place. place ≤ tokens_held outer + suc (size trees)) (places outer) (λ place below. omega (arith, below)) (places_below outer))
    (omega arith)

-- The first items of the first items.
take_front : {A : Type 0} (m n : ℕ) (xs : List A) → m ≤ n → take m (take n xs) ≡ take m xs
take_front zero n xs le = refl
take_front (suc m) zero xs le = absurd (omega (arith, le))
take_front (suc m) (suc n) [] le = refl
take_front (suc m) (suc n) (x ∷ xs) le = ap (λ l. x ∷ l) (take_front m n xs (omega (arith, le)))

-- What holds for all later items holds for those that are left.
all_front : {A : Type 0} (P : A → Type 0) (m n : ℕ) (xs : List A) → AllByRecursion P (drop m xs) → AllByRecursion P (drop m (take n xs))
all_front P zero zero xs all = tt
all_front P zero (suc n) [] all = tt
all_front P zero (suc n) (x ∷ xs) all = (all.0, all_front P zero n xs all.1)
all_front P (suc m) zero xs all = tt
all_front P (suc m) (suc n) [] all = tt
all_front P (suc m) (suc n) (x ∷ xs) all = all_front P m n xs all

module _ (top : Delimiter) (tokens : List TokenTree) (headers : List ℕ) where
  -- A point counts the tokens of its levels, and the top.
  noted_tokens : (k : Standing) (p : Point) → IsNoted top tokens headers k p → k.tokens ≡ suc (tokens_held p.stack)
  noted_tokens k p is = sym (length-take-le k.tokens tokens is.reaches) ∙ ap length is.held ∙ length-written top p.stack

  -- A point with no more tokens has no more levels.
  no_deeper : (k q : Standing) (p r : Point) → IsNoted top tokens headers k p → IsNoted top tokens headers q r → q.tokens ≤ k.tokens → q.depth ≤ k.depth
  no_deeper k q p r at here fewer = by_order (leb_tells q.depth k.depth)
    where
      by_order : ((nat_le q.depth k.depth ≡ true) × (q.depth ≤ k.depth)) ⊎ ((nat_le q.depth k.depth ≡ false) × (k.depth < q.depth)) → q.depth ≤ k.depth
      by_order (inl x) = x.1
      by_order (inr x) =
          let within : k.depth < length headers = omega (arith, x.1, here.counts) in
          let behind : AllByRecursion (λ place. k.tokens ≤ place) (get_or headers k.depth 0 ∷ drop (suc k.depth) headers) =
          subst (AllByRecursion (λ place. k.tokens ≤ place)) (drop-cons headers k.depth 0 within) at.behind in
          let among : AllByRecursion (λ place. place ≤ tokens_held r.stack) (take q.depth headers) =
          subst (AllByRecursion (λ place. place ≤ tokens_held r.stack)) (sym here.opened) (places_below r.stack) in
          let n : length (take q.depth headers) ≡ q.depth = length-take-le q.depth headers here.counts in
          let low : get_or (take q.depth headers) k.depth 0 ≤ tokens_held r.stack =
          at_place (λ place. place ≤ tokens_held r.stack) (take q.depth headers) k.depth 0 (omega (arith, n, x.1)) among in
          absurd (omega (arith, behind.0, low, get_or-take q.depth headers k.depth 0 x.1, noted_tokens q r here, fewer))

  -- Such a point stays valid in the cut lists.
  cut_point : (k q : Standing) (p r : Point) → IsNoted top tokens headers k p → IsNoted top tokens headers q r → q.tokens ≤ k.tokens
      → IsNoted top (take k.tokens tokens) (take k.depth headers) q r
  cut_point k q p r at here fewer =
      let deep = no_deeper k q p r at here fewer in
      record {
        numbered = here.numbered;
        held = take_front q.tokens k.tokens tokens fewer ∙ here.held;
        reaches = omega (arith, fewer, length-take-le k.tokens tokens at.reaches);
        opened = take_front q.depth k.depth headers deep ∙ here.opened;
        counts = omega (arith, deep, length-take-le k.depth headers at.counts);
        behind = all_front (λ place. q.tokens ≤ place) q.depth k.depth headers here.behind;
      }

  -- the kept lengths and the valid points
  cut_points : (k : Standing) (p : Point) (kept : List Standing) (points : List Point) → IsNoted top tokens headers k p → AreNoted top tokens headers kept points
      → AreNoted top (take k.tokens tokens) (take k.depth headers) (filter (λ q. nat_le q.tokens k.tokens) kept) (points_before p.stack points)
  cut_points k p [] [] at are = tt
  cut_points k p [] (r ∷ points) at are = absurd are
  cut_points k p (q ∷ kept) [] at are = absurd are
  cut_points k p (q ∷ kept) (r ∷ points) at are = by_test (nat_le q.tokens k.tokens) refl (cut_points k p kept points at are.1)
    where
      tests : nat_le (tokens_held r.stack) (tokens_held p.stack) ≡ nat_le q.tokens k.tokens
      tests =
          same_test (tokens_held r.stack) q.tokens (tokens_held p.stack) k.tokens (λ le. omega (arith, le, noted_tokens q r are.0, noted_tokens k p at))
          (λ le. omega (arith, le, noted_tokens q r are.0, noted_tokens k p at))

      by_test : (b : Bool) → nat_le q.tokens k.tokens ≡ b
          → AreNoted top (take k.tokens tokens) (take k.depth headers) (filter (λ q. nat_le q.tokens k.tokens) kept) (points_before p.stack points)
          → AreNoted top (take k.tokens tokens) (take k.depth headers)
          (cond b (q ∷ filter (λ q. nat_le q.tokens k.tokens) kept) (filter (λ q. nat_le q.tokens k.tokens) kept))
          (cond (nat_le (tokens_held r.stack) (tokens_held p.stack)) (r ∷ points_before p.stack points) (points_before p.stack points))
      by_test true e more = rw (tests ∙ e) (cut_point k q p r at are.0 (leb-true q.tokens k.tokens e), more)
      by_test false e more = rw (tests ∙ e) more

  -- The lengths that are found belong to the point of that number.
  pub found_point : (number : ℕ) (kept : List Standing) (points : List Point) (k : Standing) → AreNoted top tokens headers kept points → kept_under number kept ≡ Some k
      → (stack : Stack) × (noted number points ≡ Some stack) × IsNoted top tokens headers k (record { number = k.number; stack = stack })
  found_point number [] [] k are found = cc found
  found_point number [] (p ∷ points) k are found = absurd are
  found_point number (q ∷ kept) [] k are found = absurd are
  found_point number (q ∷ kept) (p ∷ points) k are found = by_test (nat_eq q.number number) refl found (found_point number kept points k are.1)
    where
      by_test : (b : Bool) → nat_eq q.number number ≡ b → cond b (Some q) (kept_under number kept) ≡ Some k
          → (kept_under number kept ≡ Some k → (stack : Stack) × (noted number points ≡ Some stack) × IsNoted top tokens headers k (record { number = k.number; stack = stack }))
          → (stack : Stack) × (cond (nat_eq p.number number) (Some p.stack) (noted number points) ≡ Some stack) × IsNoted top tokens headers k (record { number = k.number; stack = stack })
      by_test true e found more =
          let same : q ≡ k = cc found in
          let is = are.0 in (
            p.stack,
            ap (λ n. cond (nat_eq n number) (Some p.stack) (noted number points)) (sym is.numbered) ∙ ap (λ b. cond b (Some p.stack) (noted number points)) e,
            subst (λ x. IsNoted top tokens headers x (record { number = x.number; stack = p.stack })) same
                (record { numbered = refl; held = is.held; reaches = is.reaches; opened = is.opened; counts = is.counts; behind = is.behind }),
          )
      by_test false e found more =
          let (stack, there, is) = more found in
          (stack, ap (λ n. cond (nat_eq n number) (Some p.stack) (noted number points)) (sym are.0.numbered) ∙ ap (λ b. cond b (Some p.stack) (noted number points)) e ∙ there, is)

  -- If no lengths are found, there is no such point.
  no_point : (number : ℕ) (kept : List Standing) (points : List Point) → AreNoted top tokens headers kept points → kept_under number kept ≡ None → noted number points ≡ None
  no_point number [] [] are none = refl
  no_point number [] (p ∷ points) are none = absurd are
  no_point number (q ∷ kept) [] are none = absurd are
  no_point number (q ∷ kept) (p ∷ points) are none = by_test (nat_eq q.number number) refl none (no_point number kept points are.1)
    where
      by_test : (b : Bool) → nat_eq q.number number ≡ b → cond b (Some q) (kept_under number kept) ≡ None → (kept_under number kept ≡ None → noted number points ≡ None)
          → cond (nat_eq p.number number) (Some p.stack) (noted number points) ≡ None
      by_test true e none more = cc none
      by_test false e none more = ap (λ n. cond (nat_eq n number) (Some p.stack) (noted number points)) (sym are.0.numbered) ∙ ap (λ b. cond b (Some p.stack) (noted number points)) e ∙ more none

-- The builder goes back to a valid point.
pub restored_state : (tokens now : List TokenTree) (headers left : List ℕ) (mark : Option ℕ) (points fewer : List Standing) (taken : ℕ) (s : BuilderState) (number : ℕ) (k : Standing)
    → IsStateOf tokens headers mark points taken s → kept_under number points ≡ Some k → now ≡ take k.tokens tokens → left ≡ take k.depth headers
    → fewer ≡ filter (λ q. nat_le q.tokens k.tokens) points → IsStateOf now left None fewer taken (restored number s)
restored_state tokens now headers left mark points fewer taken s number k is found cut popped dropped =
    let (stack, there, at) = found_point s.top tokens headers number points s.points k is.noted found in
    subst (λ o. IsStateOf now left None fewer taken (back_to o s)) (sym there)
    (record {
      list = cut ∙ at.held;
      few = omega (arith, is.few, ap length cut, length-take-le k.tokens tokens at.reaches, at.reaches);
      open_places = popped ∙ at.opened;
      marked = tt;
      clear = tt;
      noted =
          subst (λ f. AreNoted s.top now left f (points_before stack s.points)) (sym dropped)
          (subst (λ l. AreNoted s.top l left (filter (λ q. nat_le q.tokens k.tokens) points) (points_before stack s.points)) (sym cut)
          (subst (λ h. AreNoted s.top (take k.tokens tokens) h (filter (λ q. nat_le q.tokens k.tokens) points) (points_before stack s.points)) (sym popped)
          (cut_points s.top tokens headers k (record { number = k.number; stack = stack }) points s.points at is.noted)));
      order = subst AreInOrder (sym dropped) (order_filter (λ q. nat_le q.tokens k.tokens) points is.order);
      numbers = subst (AllByRecursion (λ q. q.number < taken)) (sym dropped) (all_filter (λ q. q.number < taken) (λ q. nat_le q.tokens k.tokens) points is.numbers);
      count = is.count;
    })

-- A point is valid exactly if its lengths are kept.
pub stands : (tokens : List TokenTree) (headers : List ℕ) (mark : Option ℕ) (points : List Standing) (taken : ℕ) (s : BuilderState) (number : ℕ)
    → IsStateOf tokens headers mark points taken s → is_some (noted number s.points) ≡ is_some (kept_under number points)
stands tokens headers mark points taken s number is = by_option (kept_under number points) refl
  where
    by_option : (o : Option Standing) → kept_under number points ≡ o → is_some (noted number s.points) ≡ is_some (kept_under number points)
    by_option None e = ap is_some (no_point s.top tokens headers number points s.points is.noted e) ∙ sym (ap is_some e)
    by_option (Some k) e = ap is_some (found_point s.top tokens headers number points s.points k is.noted e).1 ∙ sym (ap is_some e)

-- If no lengths are kept, nothing changes.
pub not_restored : (tokens : List TokenTree) (headers : List ℕ) (mark : Option ℕ) (points : List Standing) (taken : ℕ) (s : BuilderState) (number : ℕ)
    → IsStateOf tokens headers mark points taken s → kept_under number points ≡ None → restored number s ≡ s
not_restored tokens headers mark points taken s number is none = ap (λ o. back_to o s) (no_point s.top tokens headers number points s.points is.noted none)
