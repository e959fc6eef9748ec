-- The innermost subtree is closed.
use Rattle.std.proofs.Common.{◌≡◌, ℕ, suc, ◌+◌, ◌-◌, ◌<◌, ◌≤◌, List, [], ◌∷◌, ◌++◌, length, drop, set, get_or, Bool, true, false, cond, Option, Some, refl, ap, ap₂, sym, ◌∙◌, subst, arith, nat_le, length-append, length-set, append-nil}
use Rattle.std.proofs.lemmas.Bool.{leb-true}
use Rattle.std.proofs.lemmas.List.{take-append-le, drop-append-le, take-set-le, length-take-le}
use Rattle.std.proofs.Math.Seq.{set-append_seam, get_or-append_seam}
use Rattle.std.specs.List.{AllByRecursion, filter}
use Rattle.tt_base.specs.declared.delimiter.Delimiter.{Delimiter}
use Rattle.tt_base.specs.declared.span.Span.{Span}
use Rattle.tt_base.specs.declared.token_tree.TokenTree.{TokenTree}
use Rattle.tt_base.specs.Token.{delimiter}
use Rattle.tt_base.specs.Forest.{Forest, end, leaf, node, size, header, flat, join}
use Rattle.tt_base.specs.Unflat.{length-flat}
use Rattle.tt.specs.declared.builder.standing.Standing.{Standing}
use Rattle.tt_base.specs.Building.{Stack, lowest, above, innermost, append, depth, tree_count, tokens_held, Point, BuilderState, IsOpen, closed, points_within}
use Rattle.tt.specs.BuilderFields.{written, places, open_header, closed_token, tokens_before, IsNodeAt, IsMark, IsNoted, AreNoted, AreInOrder, IsStateOf}
use Rattle.tt.specs.OneState.{length-written, last_alike}
use Rattle.tt.proofs.Growing.{written-append, places-append}
use Rattle.tt.proofs.Filters.{all_filter, order_filter, same_test}

-- There is a place for each open subtree.
pub length-places : (stack : Stack) → length (places stack) ≡ depth stack
length-places (lowest trees) = refl
length-places (above outer kind open_span trees) = omega (arith, length-append (places outer) (suc (tokens_held outer) ∷ []), length-places outer)

-- A point has as many levels as the depth that is kept for it.
pub noted_depth : (top : Delimiter) (tokens : List TokenTree) (headers : List ℕ) (k : Standing) (p : Point) → IsNoted top tokens headers k p → k.depth ≡ depth p.stack
noted_depth top tokens headers k p is = sym (length-take-le k.depth headers is.counts) ∙ ap length is.opened ∙ length-places p.stack

-- A node after trees has their count as its number, and their tokens before it.
node_behind : (trees : Forest) (d : Delimiter) (children : Forest)
    → (tokens_before (tree_count trees) (join trees (node d children end)) ≡ size trees) × IsNodeAt (tree_count trees) (join trees (node d children end))
node_behind end d children = (refl, tt)
node_behind (leaf it rest) d children = let behind = node_behind rest d children in (ap suc behind.0, behind.1)
node_behind (node e inner rest) d children =
    let behind = node_behind rest d children in
    (ap (λ n. suc (size inner + n)) behind.0, behind.1)

-- The mark after a subtree was closed.
close_mark : (outer : Stack) (d : Delimiter) (children : Forest) (place : ℕ) → place ≡ suc (tokens_held outer)
    → IsMark (append (node d children end) outer) (Some place) (Some (tree_count (innermost outer)))
close_mark (lowest trees) d children place here = let behind = node_behind trees d children in (omega (arith, here, behind.0), behind.1)
close_mark (above outer kind open_span trees) d children place here =
    let behind = node_behind trees d children in
    (omega (arith, here, behind.0), behind.1)

-- what holds for all places holds for the last one
last_of_all : (P : ℕ → Type 0) (xs : List ℕ) (x : ℕ) → AllByRecursion P (xs ++ x ∷ []) → AllByRecursion P xs × P x
last_of_all P [] x all = (tt, all.0)
last_of_all P (y ∷ xs) x all = let rest = last_of_all P xs x all.1 in ((all.0, rest.0), rest.1)

-- A point with no more levels than are left was taken before the closed subtree was opened.
pub opened_later : (top : Delimiter) (tokens : List TokenTree) (left : List ℕ) (place : ℕ) (k : Standing) (p : Point)
    → IsNoted top tokens (left ++ place ∷ []) k p → k.depth ≤ length left → AllByRecursion (λ h. k.tokens ≤ h) (drop k.depth left) × (k.tokens ≤ place)
opened_later top tokens left place k p is within =
    last_of_all (λ h. k.tokens ≤ h) (drop k.depth left) place
    (subst (AllByRecursion (λ h. k.tokens ≤ h)) (drop-append-le k.depth left (place ∷ []) within) is.behind)

-- Such a point stays valid.
close_point : (top : Delimiter) (tokens : List TokenTree) (left : List ℕ) (place : ℕ) (x : TokenTree) (k : Standing) (p : Point)
    → IsNoted top tokens (left ++ place ∷ []) k p → k.depth ≤ length left → IsNoted top (set tokens place x) left k p
close_point top tokens left place x k p is within =
    let later = opened_later top tokens left place k p is within in
    record {
      numbered = is.numbered;
      held = take-set-le k.tokens tokens place x later.1 ∙ is.held;
      reaches = omega (arith, is.reaches, length-set tokens place x);
      opened = sym (take-append-le k.depth left (place ∷ []) within) ∙ is.opened;
      counts = within;
      behind = later.0;
    }

-- the kept lengths and the valid points
close_points : (top : Delimiter) (tokens : List TokenTree) (left : List ℕ) (place : ℕ) (x : TokenTree) (outer : Stack) (kept : List Standing) (points : List Point)
    → length left ≡ depth outer → AreNoted top tokens (left ++ place ∷ []) kept points
    → AreNoted top (set tokens place x) left (filter (λ k. nat_le k.depth (length left)) kept) (points_within outer points)
close_points top tokens left place x outer [] [] same are = tt
close_points top tokens left place x outer [] (p ∷ points) same are = absurd are
close_points top tokens left place x outer (k ∷ kept) [] same are = absurd are
close_points top tokens left place x outer (k ∷ kept) (p ∷ points) same are = by_test (nat_le k.depth (length left)) refl (sym tests) (close_points top tokens left place x outer kept points same are.1)
  where
    deep : k.depth ≡ depth p.stack
    deep = noted_depth top tokens (left ++ place ∷ []) k p are.0

    tests : nat_le k.depth (length left) ≡ nat_le (depth p.stack) (depth outer)
    tests = ap₂ nat_le deep same

    by_test : (b : Bool) → nat_le k.depth (length left) ≡ b → nat_le (depth p.stack) (depth outer) ≡ nat_le k.depth (length left)
        → AreNoted top (set tokens place x) left (filter (λ k. nat_le k.depth (length left)) kept) (points_within outer points)
        → AreNoted top (set tokens place x) left
        (cond b (k ∷ filter (λ k. nat_le k.depth (length left)) kept) (filter (λ k. nat_le k.depth (length left)) kept))
        (cond (nat_le (depth p.stack) (depth outer)) (p ∷ points_within outer points) (points_within outer points))
    by_test true e same_test more =
        rw (same_test ∙ e) (close_point top tokens left place x k p are.0 (leb-true k.depth (length left) e), more)
    by_test false e same_test more = rw (same_test ∙ e) more

-- the points that are left have no more tokens than come before the closed header
close_clear : (top : Delimiter) (tokens : List TokenTree) (left : List ℕ) (place : ℕ) (kept : List Standing) (points : List Point)
    → AreNoted top tokens (left ++ place ∷ []) kept points → AllByRecursion (λ k. k.tokens ≤ place) (filter (λ k. nat_le k.depth (length left)) kept)
close_clear top tokens left place [] [] are = tt
close_clear top tokens left place [] (p ∷ points) are = absurd are
close_clear top tokens left place (k ∷ kept) [] are = absurd are
close_clear top tokens left place (k ∷ kept) (p ∷ points) are = by_test (nat_le k.depth (length left)) refl (close_clear top tokens left place kept points are.1)
  where
    by_test : (b : Bool) → nat_le k.depth (length left) ≡ b → AllByRecursion (λ k. k.tokens ≤ place) (filter (λ k. nat_le k.depth (length left)) kept)
        → AllByRecursion (λ k. k.tokens ≤ place) (cond b (k ∷ filter (λ k. nat_le k.depth (length left)) kept) (filter (λ k. nat_le k.depth (length left)) kept))
    by_test true e more = ((opened_later top tokens left place k p are.0 (leb-true k.depth (length left) e)).1, more)
    by_test false e more = more

-- The innermost subtree is closed.
pub closed_state : (tokens now : List TokenTree) (headers left : List ℕ) (mark : Option ℕ) (points fewer : List Standing) (taken : ℕ) (s : BuilderState)
    (close_span : Span) (place n : ℕ) (d : TokenTree)
    → IsStateOf tokens headers mark points taken s → IsOpen s → headers ≡ left ++ place ∷ [] → n ≡ length tokens - place - 1
    → now ≡ set tokens place (closed_token close_span n (get_or tokens place d)) → fewer ≡ filter (λ p. nat_le p.depth (length left)) points
    → IsStateOf now left (Some place) fewer taken (closed close_span s)
closed_state tokens now headers left mark points fewer taken s close_span place n d is open_one popped counted patched dropped =
    by_stack s.stack open_one is.list is.open_places
  where
    by_stack : (stack : Stack) → IsOpen (record { top = s.top; stack = stack; mark = s.mark; points = s.points; taken = s.taken })
        → tokens ≡ written s.top stack → headers ≡ places stack
        → IsStateOf now left (Some place) fewer taken (closed close_span (record { top = s.top; stack = stack; mark = s.mark; points = s.points; taken = s.taken }))
    by_stack (lowest trees) impossible list open_places = absurd impossible
    by_stack (above outer kind open_span trees) is_open list open_places =
        let (same_left, same_place) = last_alike left (places outer) place (suc (tokens_held outer)) (sym popped ∙ open_places) in
        let here : place ≡ length (written s.top outer) = same_place ∙ sym (length-written s.top outer) in
        let sized : n ≡ size trees =
        omega (arith, counted, here, ap length list, length-append (written s.top outer) (open_header kind open_span ∷ flat trees), length-flat trees) in
        let found : get_or tokens place d ≡ open_header kind open_span =
        ap₂ (λ l i. get_or l i d) list here ∙ get_or-append_seam (written s.top outer) (open_header kind open_span) (flat trees) d in
        let new_header : closed_token close_span n (get_or tokens place d) ≡ header (delimiter kind open_span close_span) (size trees) =
        ap₂ (closed_token close_span) sized found in
        let all : now ≡ written s.top (append (node (delimiter kind open_span close_span) trees end) outer) =
        patched ∙ ap (set tokens place) new_header
        ∙ ap₂ (λ l i. set l i (header (delimiter kind open_span close_span) (size trees))) list here
        ∙ set-append_seam (written s.top outer) (open_header kind open_span) (flat trees) (header (delimiter kind open_span close_span) (size trees))
        ∙ ap (λ l. written s.top outer ++ header (delimiter kind open_span close_span) (size trees) ∷ l) (sym (append-nil (flat trees)))
        ∙ sym (written-append s.top outer (node (delimiter kind open_span close_span) trees end)) in
        let noted : AreNoted s.top tokens (left ++ place ∷ []) points s.points = subst (λ h. AreNoted s.top tokens h points s.points) popped is.noted in
        let deep : length left ≡ depth outer = ap length same_left ∙ length-places outer in
        record {
          list = all;
          few = omega (arith, is.few, ap length patched, length-set tokens place (closed_token close_span n (get_or tokens place d)));
          open_places = same_left ∙ sym (places-append outer (node (delimiter kind open_span close_span) trees end));
          marked = close_mark outer (delimiter kind open_span close_span) trees place same_place;
          clear = subst (AllByRecursion (λ k. k.tokens ≤ place)) (sym dropped) (close_clear s.top tokens left place points s.points noted);
          noted =
              subst (λ f. AreNoted s.top now left f (points_within outer s.points)) (sym dropped)
              (subst (λ l. AreNoted s.top l left (filter (λ k. nat_le k.depth (length left)) points) (points_within outer s.points)) (sym patched)
              (close_points s.top tokens left place (closed_token close_span n (get_or tokens place d)) outer points s.points deep noted));
          order = subst AreInOrder (sym dropped) (order_filter (λ k. nat_le k.depth (length left)) points is.order);
          numbers = subst (AllByRecursion (λ k. k.number < taken)) (sym dropped) (all_filter (λ k. k.number < taken) (λ k. nat_le k.depth (length left)) points is.numbers);
          count = is.count;
        }

-- The place of the innermost open header is in the list.
pub place_within : (tokens : List TokenTree) (headers left : List ℕ) (mark : Option ℕ) (points : List Standing) (taken : ℕ) (s : BuilderState) (place : ℕ)
    → IsStateOf tokens headers mark points taken s → headers ≡ left ++ place ∷ [] → place < length tokens
place_within tokens headers left mark points taken s place is popped =
    by_stack s.stack (sym popped ∙ is.open_places) (ap length is.list ∙ length-written s.top s.stack)
  where
    by_stack : (stack : Stack) → left ++ place ∷ [] ≡ places stack → length tokens ≡ suc (tokens_held stack) → place < length tokens
    by_stack (lowest trees) none counted = absurd (omega (arith, ap length none, length-append left (place ∷ [])))
    by_stack (above outer kind open_span trees) some counted =
        let (same_left, same_place) = last_alike left (places outer) place (suc (tokens_held outer)) some in
        omega (arith, same_place, counted)
