-- How each call of a builder changes its list, its open headers and its state.
use Rattle.std.proofs.Common.{◌≡◌, ℕ, zero, suc, ◌+◌, ◌-◌, ◌<◌, ◌≤◌, Bool, true, false, cond, is_err, true≢false, List, [], ◌∷◌, ◌++◌, Option, Some, None, Result, Ok, Err, OnOk, OnErr, length, map, filter, take, drop, get_or, set, slice_get, nat_le, refl, ap, ap₂, sym, subst, ◌∙◌, arith, length-append}
use Rattle.std.proofs.lemmas.List.{map-append, length-map, length-take-le}
use Rattle.std.specs.List.{AllByRecursion, remove}
use Rattle.tt_base.specs.declared.delimiter.Delimiter.{Delimiter}
use Rattle.tt_base.specs.declared.delimiter.DelimiterKind.{DelimiterKind}
use Rattle.tt_base.specs.declared.leaf.Leaf.{Leaf}
use Rattle.tt_base.specs.declared.span.Span.{Span}
use Rattle.tt_base.specs.declared.token_tree.TokenTree.{TokenTree}
use Rattle.tt_base.specs.declared.token_tree.TokenTree.TheVariants as token
use Rattle.tt_base.specs.Building.{Stack, lowest, above, empty_builder, extended, opened, closed, removed, restored, tokens_held, BuilderState, IsOpen}
use Rattle.tt_base.specs.Forest.{Forest, leaf, end, flat, size, header}
use Rattle.tt_base.specs.Token.{delimiter}
use Rattle.tt_base.specs.Unflat.{length-flat}
use Rattle.tt_tables.specs.Held.{HeldToken, whole, opened as open_header_held, as_token, open_places}
use Rattle.tt_tables.proofs.Opening.{IsInnermost, innermost_open, open_places-opened, open_places-wholes, open_places-take, open_places-remove, whole_at, all_from}
use Rattle.tt.specs.declared.builder.standing.Standing.{Standing}
use Rattle.tt.specs.BuilderFields.{places, closed_token, invisible_token, innermost_start, kept_under, HasState, IsStateOf}
use Rattle.tt.specs.HeldList.{all_tokens, AreOpenIn}
use Rattle.tt.specs.OneState.{seen, length-written}
use Rattle.tt.proofs.Closing.{closed_state}
use Rattle.tt.proofs.Growing.{all_weaker, extended_state, opened_state, new_state, same_fields}
use Rattle.tt.proofs.HeldList.{whole_tokens}
use Rattle.tt.proofs.Removing.{marked, marked_within, removed_state, mark_gone}
use Rattle.tt.proofs.Restoring.{found_point, places_below, restored_state}

-- the fields represent the state, and the open headers are at their places
pub record Keeps (top : Delimiter) (held : List HeldToken) (headers : List ℕ) (mark : Option ℕ) (points : List Standing) (taken : ℕ) (s : BuilderState) : Type 0 where
  pub state : IsStateOf (all_tokens top held) headers mark points taken s
  pub opens : AreOpenIn held headers

-- The fields represent the state that the model shows.
pub keeps : (top : Delimiter) (held : List HeldToken) (headers : List ℕ) (mark : Option ℕ) (points : List Standing) (taken : ℕ) (has : HasState (all_tokens top held) headers mark points taken) → AreOpenIn held headers
    → (s : BuilderState) → has.0 ≡ s → Keeps top held headers mark points taken s
keeps top held headers mark points taken has opens s e = record { state = seen (all_tokens top held) headers mark points taken has s e; opens = opens }

-- The list has one token more than the tokens held.
pub length-all : (top : Delimiter) (held : List HeldToken) → length (all_tokens top held) ≡ length held + 1
length-all top held = omega (arith, length-map held as_token)

-- The same fields.
pub same_keeps : (top : Delimiter) (held now : List HeldToken) (headers headers_now : List ℕ) (mark : Option ℕ) (points points_now : List Standing) (taken : ℕ) (s : BuilderState)
    → Keeps top held headers mark points taken s → now ≡ held → headers_now ≡ headers → points_now ≡ points → Keeps top now headers_now mark points_now taken s
same_keeps top held now headers headers_now mark points points_now taken s is e₁ e₂ e₃ =
    record {
      state = same_fields (all_tokens top held) (all_tokens top now) headers headers_now mark points points_now taken s is.state (ap (all_tokens top) e₁) e₂ e₃;
      opens = ap (open_places 1) e₁ ∙ is.opens ∙ sym e₂;
    }

-- Only the top is held.
pub new_keeps : (top : Delimiter) (held : List HeldToken) (headers : List ℕ) (points : List Standing) → held ≡ [] → headers ≡ [] → points ≡ [] → Keeps top held headers None points 0 (empty_builder top)
new_keeps top held headers points e₁ e₂ e₃ =
    record { state = new_state top (all_tokens top held) headers points (ap (all_tokens top) e₁) e₂ e₃; opens = ap (open_places 1) e₁ ∙ sym e₂ }

-- A subtree is opened.
pub opened_keeps : (top : Delimiter) (held now : List HeldToken) (headers headers_now : List ℕ) (mark : Option ℕ) (points : List Standing) (taken : ℕ) (s : BuilderState) (kind : DelimiterKind) (open_span : Span) (place : ℕ)
    → Keeps top held headers mark points taken s → now ≡ held ++ open_header_held kind open_span ∷ [] → place ≡ length held + 1 → place ≤ 4294967295
    → headers_now ≡ headers ++ place ∷ [] → Keeps top now headers_now None points taken (opened kind open_span s)
opened_keeps top held now headers headers_now mark points taken s kind open_span place is grown here few added =
    record {
      state =
          opened_state (all_tokens top held) (all_tokens top now) headers headers_now mark points taken s kind open_span place is.state
          (ap (all_tokens top) grown ∙ ap (λ l. header top 0 ∷ l) (map-append as_token held (open_header_held kind open_span ∷ [])))
          (omega (arith, length-all top now, ap length grown, length-append held (open_header_held kind open_span ∷ []), here, few))
          (omega (arith, here, length-all top held)) added;
      opens =
          ap (open_places 1) grown ∙ open_places-opened 1 held kind open_span ∙ ap (λ n. open_places 1 held ++ n ∷ []) (omega (arith, here)) ∙ ap (λ l. l ++ place ∷ []) is.opens ∙ sym added;
    }

-- Trees are appended.
pub extended_keeps : (top : Delimiter) (held now : List HeldToken) (headers : List ℕ) (mark : Option ℕ) (points : List Standing) (taken : ℕ) (s : BuilderState) (more : Forest)
    → Keeps top held headers mark points taken s → now ≡ held ++ map whole (flat more) → length held + size more ≤ 4294967295 → Keeps top now headers mark points taken (extended more s)
extended_keeps top held now headers mark points taken s more is grown few =
    record {
      state =
          extended_state (all_tokens top held) (all_tokens top now) headers mark points taken s more is.state
          (ap (all_tokens top) grown ∙ ap (λ l. header top 0 ∷ l) (map-append as_token held (map whole (flat more)) ∙ ap (λ l. map as_token held ++ l) (whole_tokens (flat more))))
          (omega (arith, length-all top now, ap length grown, length-append held (map whole (flat more)), length-map (flat more) whole, length-flat more, few));
      opens = ap (open_places 1) grown ∙ open_places-wholes 1 held (flat more) ∙ is.opens;
    }

-- Trees are appended if there was memory for them.
pub maybe_keeps : (added : Bool) (top : Delimiter) (held now : List HeldToken) (headers : List ℕ) (mark : Option ℕ) (points : List Standing) (taken : ℕ) (s : BuilderState) (more : Forest)
    → Keeps top held headers mark points taken s → now ≡ cond added (held ++ map whole (flat more)) held → length held + size more ≤ 4294967295
    → Keeps top now headers mark points taken (cond added (extended more s) s)
maybe_keeps true top held now headers mark points taken s more is grown few = extended_keeps top held now headers mark points taken s more is grown few
maybe_keeps false top held now headers mark points taken s more is grown few = same_keeps top held now headers headers mark points points taken s is grown refl refl

-- A fact after a success holds if the result is no error.
pub ok_of : {T E : Type 0} {P : Type 0} (result : Result T E) → is_err result ≡ false → OnOk result P → P
ok_of (Ok x) fine p = p
ok_of (Err e) fine p = absurd (true≢false fine)

-- The tokens, after one has changed.
tokens-set : (held : List HeldToken) (i : ℕ) (h : HeldToken) → map as_token (set held i h) ≡ set (map as_token held) i (as_token h)
tokens-set [] i h = refl
tokens-set (x ∷ held) zero h = refl
tokens-set (x ∷ held) (suc i) h = ap (λ l. as_token x ∷ l) (tokens-set held i h)

-- The token at a place is the one that is held there.
token_at : (held : List HeldToken) (i : ℕ) (h : HeldToken) (d : TokenTree) → slice_get held i ≡ Some h → get_or (map as_token held) i d ≡ as_token h
token_at [] i h d at = absurd (cc at)
token_at (x ∷ held) zero h d at =
    let is : x ≡ h = cc at in
    ap as_token is
token_at (x ∷ held) (suc i) h d at = token_at held i h d at

-- All open headers are after the top.
pub behind_top : (top : Delimiter) (held : List HeldToken) (headers left : List ℕ) (place : ℕ) → AreOpenIn held headers → headers ≡ left ++ place ∷ [] → 1 ≤ place
behind_top top held headers left place opens popped = last_from left (open_places 1 held) (all_from 1 held) (opens ∙ popped)
  where
    last_from : (left found : List ℕ) → AllByRecursion (λ p. 1 ≤ p) found → found ≡ left ++ place ∷ [] → 1 ≤ place
    last_from [] [] all e = absurd (cc e)
    last_from [] (p ∷ found) all e =
        let is : p ≡ place = cc e in
        omega (arith, is, all.0)
    last_from (l ∷ left) [] all e = absurd (cc e)
    last_from (l ∷ left) (p ∷ found) all e = last_from left found all.1 (cc e)

-- The innermost open header.
pub innermost_there : (held : List HeldToken) (headers left : List ℕ) (place i : ℕ) → AreOpenIn held headers → headers ≡ left ++ place ∷ [] → place ≡ 1 + i → IsInnermost 1 held left i
innermost_there held headers left place i opens popped here = innermost_open 1 held left i place (opens ∙ popped) here

-- The innermost subtree is closed.
pub closed_keeps : (top : Delimiter) (held now : List HeldToken) (headers left : List ℕ) (mark : Option ℕ) (points fewer : List Standing) (taken : ℕ) (s : BuilderState) (close_span : Span) (place n : ℕ)
    → Keeps top held headers mark points taken s → IsOpen s → headers ≡ left ++ place ∷ [] → n ≡ length held - place
    → ((kind : DelimiterKind) (open_span : Span) → slice_get held (place - 1) ≡ Some (open_header_held kind open_span) → now ≡ set held (place - 1) (whole (header (delimiter kind open_span close_span) n)))
    → fewer ≡ filter (λ p. nat_le p.depth (length left)) points → Keeps top now left (Some place) fewer taken (closed close_span s)
closed_keeps top held now headers left mark points fewer taken s close_span place n is is_open popped counted patched dropped =
    by_place place refl (behind_top top held headers left place is.opens popped)
  where
    by_place : (p : ℕ) → place ≡ p → 1 ≤ place → Keeps top now left (Some place) fewer taken (closed close_span s)
    by_place zero e low = absurd (omega (arith, e, low))
    by_place (suc i) e low =
        let inner = innermost_there held headers left place i is.opens popped (omega (arith, e)) in
        let below : place - 1 ≡ i = omega (arith, e) in
        let changed : now ≡ set held i (whole (header (delimiter inner.kind inner.open_span close_span) n)) =
        patched inner.kind inner.open_span (ap (slice_get held) below ∙ inner.there) ∙ ap (λ j. set held j (whole (header (delimiter inner.kind inner.open_span close_span) n))) below in
        let d = header top 0 in
        let found : get_or (all_tokens top held) place d ≡ as_token (open_header_held inner.kind inner.open_span) = ap (λ j. get_or (all_tokens top held) j d) e ∙ token_at held i _ d inner.there in
        record {
          state =
              closed_state (all_tokens top held) (all_tokens top now) headers left mark points fewer taken s close_span place n d is.state is_open popped
              (omega (arith, counted, length-all top held))
              (ap (all_tokens top) changed ∙ ap (λ l. header top 0 ∷ l) (tokens-set held i (whole (header (delimiter inner.kind inner.open_span close_span) n)))
              ∙ ap₂ (λ j t. set (all_tokens top held) j t) (sym e) (sym (ap (closed_token close_span n) found)))
              dropped;
          opens = ap (open_places 1) changed ∙ inner.closed (header (delimiter inner.kind inner.open_span close_span) n);
        }

-- ---- the mark

-- All open headers are before the marked one.
open_before : (stack : Stack) (n : ℕ) → innermost_start stack ≤ n → AllByRecursion (λ place. place < n) (places stack)
open_before (lowest trees) n start = tt
open_before (above outer kind open_span trees) n start =
    both (places outer) (suc (tokens_held outer)) (all_weaker (λ place. place ≤ tokens_held outer) (λ place. place < n) (places outer) (λ place low. omega (arith, low, start)) (places_below outer)) (omega (arith, start))
  where
    both : (outer : List ℕ) (last : ℕ) → AllByRecursion (λ place. place < n) outer → last < n → AllByRecursion (λ place. place < n) (outer ++ last ∷ [])
    both [] last all less = (less, tt)
    both (p ∷ outer) last all less = (all.0, both outer last all.1 less)

-- the token at the mark, which is a closed header
pub record MarkThere (top : Delimiter) (held : List HeldToken) (headers : List ℕ) (place : ℕ) : Type 0 where
  pub behind : 1 ≤ place
  pub within : place - 1 < length held
  pub before : AllByRecursion (λ p. p < place) headers

pub mark_there : (top : Delimiter) (held : List HeldToken) (headers : List ℕ) (points : List Standing) (taken : ℕ) (s : BuilderState) (place : ℕ)
    → Keeps top held headers (Some place) points taken s → MarkThere top held headers place
mark_there top held headers points taken s place is =
    let m = marked (all_tokens top held) headers points taken s place is.state in
    let low = start_low s.stack in
    record {
      behind = omega (arith, m.here, low);
      within = omega (arith, m.here, low, marked_within (all_tokens top held) headers points taken s place is.state, length-all top held);
      before = subst (AllByRecursion (λ p. p < place)) (sym is.state.open_places) (open_before s.stack place (omega (arith, m.here)));
    }
  where
    start_low : (stack : Stack) → 1 ≤ innermost_start stack
    start_low (lowest trees) = omega arith
    start_low (above outer kind open_span trees) = omega arith

-- The token at that place is whole.
pub mark_whole : (held : List HeldToken) (headers : List ℕ) (place i : ℕ) (h : HeldToken) → AreOpenIn held headers → AllByRecursion (λ p. p < place) headers → place ≡ 1 + i → slice_get held i ≡ Some h
    → slice_get held i ≡ Some (whole (as_token h))
mark_whole held headers place i h opens before here at = whole_at 1 held i place h at here (subst (AllByRecursion (λ p. p < place)) (sym opens) before)

tokens-remove : (held : List HeldToken) (i : ℕ) → map as_token (remove held i) ≡ remove (map as_token held) i
tokens-remove [] zero = refl
tokens-remove [] (suc i) = refl
tokens-remove (x ∷ held) zero = refl
tokens-remove (x ∷ held) (suc i) = ap (λ l. as_token x ∷ l) (tokens-remove held i)

-- The marked header is removed.
pub removed_keeps : (top : Delimiter) (held now : List HeldToken) (headers : List ℕ) (points : List Standing) (taken : ℕ) (s : BuilderState) (place i : ℕ) (it : TokenTree)
    → Keeps top held headers (Some place) points taken s → place ≡ 1 + i → slice_get held i ≡ Some (whole it) → now ≡ remove held i → invisible_token it ≡ true
    → Keeps top now headers None points taken (removed s)
removed_keeps top held now headers points taken s place i it is here at out invisible =
    let there = mark_there top held headers points taken s place is in
    let d = header top 0 in
    let at_place : place ≡ suc i = omega (arith, here) in
    record {
      state =
          removed_state (all_tokens top held) (all_tokens top now) headers points taken s place d is.state
          (ap (all_tokens top) out ∙ ap (λ l. header top 0 ∷ l) (tokens-remove held i) ∙ ap (remove (all_tokens top held)) (sym at_place))
          (ap invisible_token (ap (λ j. get_or (all_tokens top held) j d) at_place ∙ token_at held i (whole it) d at) ∙ invisible);
      opens = ap (open_places 1) out ∙ open_places-remove 1 held i place it at here (subst (AllByRecursion (λ p. p < place)) (sym is.opens) there.before) ∙ is.opens;
    }

-- Only the mark is cleared.
pub mark_gone_keeps : (top : Delimiter) (held : List HeldToken) (headers : List ℕ) (points : List Standing) (taken : ℕ) (s : BuilderState) (place i : ℕ) (it : TokenTree)
    → Keeps top held headers (Some place) points taken s → place ≡ 1 + i → slice_get held i ≡ Some (whole it) → invisible_token it ≡ false
    → Keeps top held headers None points taken (removed s)
mark_gone_keeps top held headers points taken s place i it is here at visible =
    let d = header top 0 in
    let at_place : place ≡ suc i = omega (arith, here) in
    record {
      state =
          mark_gone (all_tokens top held) headers points taken s place d is.state
          (ap invisible_token (ap (λ j. get_or (all_tokens top held) j d) at_place ∙ token_at held i (whole it) d at) ∙ visible);
      opens = is.opens;
    }

-- ---- restore points

tokens-take : (held : List HeldToken) (n : ℕ) → map as_token (take n held) ≡ take n (map as_token held)
tokens-take held zero = refl
tokens-take [] (suc n) = refl
tokens-take (x ∷ held) (suc n) = ap (λ l. as_token x ∷ l) (tokens-take held n)

-- A point counts the top.
pub point_counts : (top : Delimiter) (held : List HeldToken) (headers : List ℕ) (mark : Option ℕ) (points : List Standing) (taken : ℕ) (s : BuilderState) (number : ℕ) (k : Standing)
    → Keeps top held headers mark points taken s → kept_under number points ≡ Some k → 1 ≤ k.tokens
point_counts top held headers mark points taken s number k is found =
    let (stack, there, at) = found_point s.top (all_tokens top held) headers number points s.points k is.state.noted found in
    omega (arith, ap length at.held, length-take-le k.tokens (all_tokens top held) at.reaches, length-written s.top stack)

-- The builder goes back to a valid point.
pub restored_keeps : (top : Delimiter) (held now : List HeldToken) (headers left : List ℕ) (mark : Option ℕ) (points fewer : List Standing) (taken : ℕ) (s : BuilderState) (number : ℕ) (k : Standing)
    → Keeps top held headers mark points taken s → kept_under number points ≡ Some k → now ≡ take (k.tokens - 1) held → left ≡ take k.depth headers
    → fewer ≡ filter (λ q. nat_le q.tokens k.tokens) points → Keeps top now left None fewer taken (restored number s)
restored_keeps top held now headers left mark points fewer taken s number k is found cut popped dropped =
    let (stack, there, at) = found_point s.top (all_tokens top held) headers number points s.points k is.state.noted found in
    let low = point_counts top held headers mark points taken s number k is found in
    let counted : k.tokens ≡ suc (tokens_held stack) = omega (arith, ap length at.held, length-take-le k.tokens (all_tokens top held) at.reaches, length-written s.top stack) in
    let one_more : k.tokens ≡ suc (k.tokens - 1) = omega (arith, low) in
    record {
      state =
          restored_state (all_tokens top held) (all_tokens top now) headers left mark points fewer taken s number k is.state found
          (ap (all_tokens top) cut ∙ ap (λ l. header top 0 ∷ l) (tokens-take held (k.tokens - 1)) ∙ ap (λ n. take n (all_tokens top held)) (sym one_more))
          popped dropped;
      opens =
          ap (open_places 1) cut
          ∙ open_places-take 1 held (k.tokens - 1) k.tokens k.depth (omega (arith, low))
          (subst (λ l. AllByRecursion (λ place. place < k.tokens) (take k.depth l)) (sym is.opens)
          (subst (AllByRecursion (λ place. place < k.tokens)) (sym at.opened)
          (all_weaker (λ place. place ≤ tokens_held stack) (λ place. place < k.tokens) (places stack) (λ place less. omega (arith, less, counted)) (places_below stack))))
          (subst (λ l. AllByRecursion (λ place. k.tokens ≤ place) (drop k.depth l)) (sym is.opens) at.behind)
          ∙ ap (take k.depth) is.opens
          ∙ sym popped;
    }

-- ---- a leaf

-- A leaf is appended, or nothing has changed.
pub pushed_or_same : {E : Type 0} (top : Delimiter) (held now : List HeldToken) (headers : List ℕ) (mark : Option ℕ) (points : List Standing) (taken : ℕ) (s : BuilderState) (it : Leaf) (result : Result (Unit {0}) E)
    → Keeps top held headers mark points taken s → OnOk result (now ≡ held ++ whole (token.Leaf it) ∷ []) → OnErr result (now ≡ held) → length held < 4294967295
    → (next : BuilderState) × Keeps top now headers mark points taken next
pushed_or_same top held now headers mark points taken s it (Ok u) is grown same few = (extended (leaf it end) s, extended_keeps top held now headers mark points taken s (leaf it end) is grown (omega (arith, few)))
pushed_or_same top held now headers mark points taken s it (Err e) is grown same few = (s, same_keeps top held now headers headers mark points points taken s is same refl refl)
