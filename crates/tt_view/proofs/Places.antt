-- The place of a cursor, and what is read at it.
use Rattle.std.proofs.Common.{◌≡◌, ◌==◌, ◌<◌, ◌≤◌, ℕ, suc, ◌+◌, ◌-◌, Some, None, true, false, List, [], ◌∷◌, ◌++◌, length, drop, reverse, refl, ap, ap₂, sym, subst, ◌∙◌, arith, append_assoc, append-nil, length-append}
use Rattle.std.proofs.Math.Seq.{drop-append_seam}
use Rattle.std.proofs.lemmas.Bool.Decides.{nat_tests}
use Rattle.std.proofs.lemmas.List.{reverse-append, length-reverse}
use Rattle.std.specs.List.{slice_get}
use Rattle.tt_base.specs.declared.delimiter.Subtree.{Subtree}
use Rattle.tt_base.specs.declared.leaf.Leaf.{Leaf}
use Rattle.tt_base.specs.declared.token_tree.TokenTree.TheVariants as token
use Rattle.tt_base.specs.Forest.{Forest, end, leaf, node, size, flat, join}
use Rattle.tt_base.specs.Unflat.{flat-join, front, behind}
use Rattle.tt_base.specs.Moves.{first_token, after_token}
use Rattle.tt_base.specs.Walk.{Event, passes, opens, closes, subtree_of, walk, Walked, events_ahead, is_over, is_at_close, token_at, open_nodes, tokens_of, one_if_any, one_on}
use Rattle.tt_base.specs.Siblings.{is_end}
use Rattle.tt_view.specs.Innermost.{is_end_of}
use Rattle.tt_view.specs.Frames.{left, Stands, StandsInWalk, walked, events_left}
use Rattle.tt_view.specs.declared.cursor.Cursor.TheInside.{Inside}
use Rattle.tt_view.specs.declared.cursor.Frame.{Frame}
use Rattle.tt_base.proofs.Joins.{size-join}
use Rattle.tt_base.proofs.Walks.{walk-join, open_walk, tokens-append, tokens_walk, over_end, not_over, stays}
use Rattle.tt_view.proofs.Frames.{left_join, IsOpen, past_leaf, past_node, into_node, open_above}

-- The events that are left are the last events of the whole walk.
pub ends : (o : Forest) (fs : List Frame) (ahead : Forest) → Stands o fs ahead → (first : List Event) × (walk o ≡ first ++ left fs ahead)
ends o [] ahead (passed, whole) = (walk passed, ap walk whole ∙ walk-join passed ahead)
ends o (f ∷ fs) ahead (passed, inner, outer, cut, behind_is, counted, below, up) =
    let c = join passed inner in
    let h = subtree_of f.header.delimiter (size c) in
    let before = ends o fs (node f.header.delimiter c outer) up in
    let past = past_node o fs f.header.delimiter c outer up (open_above fs f.behind f.header.delimiter c outer below behind_is) in
    let head : h ≡ f.header = λ i. record { delimiter = f.header.delimiter; len = sym counted i } in
    let level : left (f ∷ fs) ahead ≡ walk inner ++ (closes f.header ∷ left fs outer) = left_join f fs inner outer ahead cut behind_is in
    let inside : (walk c ++ (closes h ∷ [])) ++ left fs outer ≡ walk passed ++ left (f ∷ fs) ahead =
    append_assoc (walk c) (closes h ∷ []) (left fs outer)
    ∙ (λ i. walk-join passed inner i ++ (closes (head i) ∷ left fs outer))
    ∙ append_assoc (walk passed) (walk inner) (closes f.header ∷ left fs outer)
    ∙ ap (λ v. walk passed ++ v) (sym level) in (
      before.0 ++ (opens h ∷ walk passed),
      before.1 ∙ ap (λ v. before.0 ++ v) (past.is ∙ ap (λ v. opens h ∷ v) inside) ∙ sym (append_assoc before.0 (opens h ∷ walk passed) (left (f ∷ fs) ahead)),
    )

-- The events ahead of that place are those that are left.
pub place_of : (o : Forest) (fs : List Frame) (ahead : Forest) → Stands o fs ahead → drop (length (walk o) - length (left fs ahead)) (walk o) ≡ left fs ahead
place_of o fs ahead s =
    let e = ends o fs ahead s in
    let far : length (walk o) - length (left fs ahead) ≡ length e.0 = omega (arith, ap length e.1, length-append e.0 (left fs ahead)) in
    ap₂ drop far e.1 ∙ drop-append_seam e.0 (left fs ahead)

-- The events that a cursor has left are those ahead of its place.
pub ahead_is : (cursor : Inside) (now : Walked) → StandsInWalk cursor → walked cursor ≡ now → events_ahead now ≡ events_left cursor
ahead_is cursor now stands view_is = ap events_ahead (sym view_is) ∙ place_of _ _ _ stands

-- the place where these events are left
abbrev pub at : Forest → List Event → Walked
at o l = record { origin = o; place = length (walk o) - length l }

-- After one of the events that are left, the place is one event further.
pub moved : (o : Forest) (fs gs : List Frame) (f g : Forest) (event : Event) → Stands o fs f → Stands o gs g → left fs f ≡ event ∷ left gs g
    → at o (left gs g) ≡ one_on (at o (left fs f))
moved o fs gs f g event s t is =
    let e = ends o fs f s in
    let here : drop (length (walk o) - length (left fs f)) (walk o) ≡ event ∷ left gs g = place_of o fs f s ∙ is in
    let count : length (walk o) ≡ length e.0 + length (left fs f) = ap length e.1 ∙ length-append e.0 (left fs f) in
    let far : length (walk o) - length (left gs g) ≡ (length (walk o) - length (left fs f)) + 1 = omega (arith, count, ap length is) in
    λ i. record { origin = o; place = (far ∙ ap (λ v. (length (walk o) - length (left fs f)) + one_if_any v) (sym here)) i }

-- The next event goes out of the innermost node exactly if no tokens of it are left.
pub close_some : (o : Forest) (fs : List Frame) (f : Frame) (ahead : Forest) → Stands o (f ∷ fs) ahead → (b n : ℕ) → b ≡ f.behind → n ≡ size ahead
    → (b == n) ≡ is_at_close (left (f ∷ fs) ahead)
close_some o fs f ahead (passed, end, outer, cut, behind_is, counted, below, up) b n e m =
    let same : b ≡ n = omega (arith, ap size cut, behind_is, e, m) in
    let yes : (b == n) ≡ true = grind (arith, nat_tests) in
    yes ∙ sym (ap is_at_close (left_join f fs end outer ahead cut behind_is))
close_some o fs f ahead (passed, leaf it inner, outer, cut, behind_is, counted, below, up) b n e m =
    let less : b < n = omega (arith, ap size cut, size-join inner outer, behind_is, e, m) in
    let no : (b == n) ≡ false = grind (arith, nat_tests) in
    no ∙ sym (ap is_at_close (left_join f fs (leaf it inner) outer ahead cut behind_is))
close_some o fs f ahead (passed, node d c inner, outer, cut, behind_is, counted, below, up) b n e m =
    let less : b < n = omega (arith, ap size cut, size-join inner outer, size-join c inner, behind_is, e, m) in
    let no : (b == n) ≡ false = grind (arith, nat_tests) in
    no ∙ sym (ap is_at_close (left_join f fs (node d c inner) outer ahead cut behind_is))

pub close_none : (ahead : Forest) → false ≡ is_at_close (walk ahead)
close_none end = refl
close_none (leaf it rest) = refl
close_none (node d c rest) = refl

-- Otherwise the innermost level has trees left, or no event is left.
pub open_or_over : (o : Forest) (fs : List Frame) (ahead : Forest) → Stands o fs ahead → is_at_close (left fs ahead) ≡ false → IsOpen fs ahead
open_or_over o [] ahead s e = tt
open_or_over o (f ∷ fs) ahead (passed, end, outer, cut, behind_is, counted, below, up) e =
    let close : is_at_close (left (f ∷ fs) ahead) ≡ true = ap is_at_close (left_join f fs end outer ahead cut behind_is) in cc
open_or_over o (f ∷ fs) ahead (passed, leaf it inner, outer, cut, behind_is, counted, below, up) e =
    omega (arith, ap size cut, size-join inner outer, behind_is)
open_or_over o (f ∷ fs) ahead (passed, node d c inner, outer, cut, behind_is, counted, below, up) e =
    omega (arith, ap size cut, size-join inner outer, size-join c inner, behind_is)

-- The token of the next event, if that event goes out of no node.
pub token_ahead : (o : Forest) (fs : List Frame) (ahead : Forest) → Stands o fs ahead → is_at_close (left fs ahead) ≡ false
    → first_token ahead ≡ token_at (left fs ahead)
token_ahead o [] end s e = refl
token_ahead o (f ∷ fs) end s e = absurd (omega (arith, open_or_over o (f ∷ fs) end s e))
token_ahead o fs (leaf it rest) s e = sym (ap token_at (past_leaf o fs it rest s (open_or_over o fs (leaf it rest) s e)).is)
token_ahead o fs (node d c rest) s e = sym (ap token_at (past_node o fs d c rest s (open_or_over o fs (node d c rest) s e)).is)

-- The number of open nodes.
pub open_count : (o : Forest) (fs : List Frame) (ahead : Forest) → Stands o fs ahead → open_nodes (left fs ahead) ≡ length fs
open_count o [] ahead s = ap open_nodes (sym (append-nil (walk ahead))) ∙ open_walk ahead []
open_count o (f ∷ fs) ahead (passed, inner, outer, cut, behind_is, counted, below, up) =
    let past = past_node o fs f.header.delimiter (join passed inner) outer up (open_above fs f.behind f.header.delimiter (join passed inner) outer below behind_is) in
    ap open_nodes (left_join f fs inner outer ahead cut behind_is) ∙ open_walk inner (closes f.header ∷ left fs outer) ∙ ap suc (open_count o fs outer past.stands)

-- The tokens of the events that are left are those ahead.
pub tokens_left : (o : Forest) (fs : List Frame) (ahead : Forest) → Stands o fs ahead → tokens_of (left fs ahead) ≡ flat ahead
tokens_left o [] ahead s = tokens_walk ahead
tokens_left o (f ∷ fs) ahead (passed, inner, outer, cut, behind_is, counted, below, up) =
    let past = past_node o fs f.header.delimiter (join passed inner) outer up (open_above fs f.behind f.header.delimiter (join passed inner) outer below behind_is) in
    ap tokens_of (left_join f fs inner outer ahead cut behind_is)
    ∙ tokens-append (walk inner) (closes f.header ∷ left fs outer)
    ∙ ap₂ ◌++◌ (tokens_walk inner) (tokens_left o fs outer past.stands)
    ∙ sym (flat-join inner outer)
    ∙ ap flat (sym cut)

some_is_not_none : (n : ℕ) → 0 < n → (n == 0) ≡ false
some_is_not_none n h = grind (arith, nat_tests)

-- Without open nodes, no event is left exactly if no tree is left. With an open node, events are left.
pub over_none : (fs : List Frame) (ahead : Forest) → (length fs == 0) ≡ true → is_end ahead ≡ is_over (left fs ahead)
over_none [] ahead e = over_end ahead
over_none (f ∷ fs) ahead e = let no : (length (f ∷ fs) == 0) ≡ false = some_is_not_none (length (f ∷ fs)) (omega arith) in cc

pub over_some : (fs : List Frame) (ahead : Forest) → (length fs == 0) ≡ false → false ≡ is_over (left fs ahead)
over_some [] ahead e = let yes : (length {A = Frame} [] == 0) ≡ true = refl in cc
over_some (f ∷ fs) ahead e =
    not_over (walk (front (size ahead - f.behind) ahead)) (closes f.header) (left fs (behind (size ahead - f.behind) ahead))

-- A header ahead counts no more tokens than follow it.
pub held_within : (f : Forest) (s : Subtree) → first_token f ≡ Some (token.Subtree s) → s.len ≤ size (after_token f)
held_within end s e = cc
held_within (leaf it rest) s e = cc
held_within (node d c rest) s e = let same : size c ≡ s.len = cc in omega (arith, same, size-join c rest)

-- If no token is ahead and the next event goes out of no node, no event is left.
pub none_left : (o : Forest) (fs : List Frame) (ahead : Forest) → Stands o fs ahead → is_at_close (left fs ahead) ≡ false → ahead ≡ end → left fs ahead ≡ []
none_left o fs ahead s e z = nothing (left fs ahead) e (sym (token_ahead o fs ahead s e) ∙ ap first_token z)
  where
    nothing : (l : List Event) → is_at_close l ≡ false → token_at l ≡ None → l ≡ []
    nothing [] e n = refl
    nothing (passes it ∷ l) e n = cc
    nothing (opens s ∷ l) e n = cc
    nothing (closes s ∷ l) e n = cc

-- At the end of a node none of its tokens is left.
pub closing : (o : Forest) (fs : List Frame) (f : Frame) (ahead : Forest) → Stands o (f ∷ fs) ahead → is_at_close (left (f ∷ fs) ahead) ≡ true → f.behind ≡ size ahead
closing o fs f ahead s e =
    let same : (f.behind == size ahead) ≡ true = close_some o fs f ahead s f.behind (size ahead) refl refl ∙ e in
    grind (arith, nat_tests)

-- a step into a node, of which only the token is known
pub record Gone (o : Forest) (fs gs : List Frame) (ahead rest : Forest) : Type 0 where
  pub event : Event
  pub is : left fs ahead ≡ event ∷ left gs rest
  pub stands : Stands o gs rest

pub gone_node : (o : Forest) (fs gs : List Frame) (f : Frame) (ahead rest : Forest) (h : Subtree) → Stands o fs ahead → is_at_close (left fs ahead) ≡ false
    → first_token ahead ≡ Some (token.Subtree h) → rest ≡ after_token ahead → f.header ≡ h → f.behind ≡ size rest - h.len → gs ≡ f ∷ fs → Gone o fs gs ahead rest
gone_node o fs gs f end rest h s e t r head behind_is more = cc
gone_node o fs gs f (leaf it after) rest h s e t r head behind_is more = cc
gone_node o fs gs f (node d c after) rest h s e t r head behind_is more =
    let same : subtree_of d (size c) ≡ h = cc in
    let counted : size c ≡ h.len = ap (λ v. v.len) same in
    let behind_size : f.behind ≡ size after = omega (arith, behind_is, ap size r, size-join c after, counted) in
    let into = into_node o fs f d c after s (open_or_over o fs (node d c after) s e) (head ∙ sym same) behind_size in
    record {
      event = opens f.header;
      is = into.is ∙ ap₂ (λ v w. opens f.header ∷ left v w) (sym more) (sym r);
      stands = subst (λ v. Stands o v rest) (sym more) (subst (Stands o (f ∷ fs)) (sym r) into.stands);
    }

-- The last frame of the stack is the innermost node.
pub last_frame : (xs : List Frame) (x : Frame) → slice_get xs (length xs - 1) ≡ Some x → (ys : List Frame) × (reverse xs ≡ x ∷ ys)
last_frame [] x e = cc
last_frame (y ∷ []) x e = let same : y ≡ x = cc in ([], ap (λ v. v ∷ []) same)
last_frame (y ∷ z ∷ zs) x e =
    let at_end : length (y ∷ z ∷ zs) - 1 ≡ suc (length (z ∷ zs) - 1) = omega arith in
    let more = last_frame (z ∷ zs) x (sym (ap (slice_get (y ∷ z ∷ zs)) at_end) ∙ e) in
    (more.0 ++ (y ∷ []), reverse-append (y ∷ []) (z ∷ zs) ∙ ap (λ v. v ++ (y ∷ [])) more.1)

pub no_frame : (xs : List Frame) → slice_get xs (length xs - 1) ≡ None → reverse xs ≡ []
no_frame [] e = refl
no_frame (y ∷ []) e = cc
no_frame (y ∷ z ∷ zs) e =
    let at_end : length (y ∷ z ∷ zs) - 1 ≡ suc (length (z ∷ zs) - 1) = omega arith in
    let none = no_frame (z ∷ zs) (sym (ap (slice_get (y ∷ z ∷ zs)) at_end) ∙ e) in absurd (omega (arith, ap length none, length-reverse (z ∷ zs)))

pub nil_of : (fs : List Frame) → length fs ≡ 0 → fs ≡ []
nil_of [] e = refl
nil_of (f ∷ fs) e = absurd (omega (arith, e))

pub close_is : (o : Forest) (fs : List Frame) (ahead : Forest) → Stands o fs ahead → is_end_of fs (size ahead) ≡ is_at_close (left fs ahead)
close_is o [] ahead s = close_none ahead
close_is o (f ∷ fs) ahead s = close_some o fs f ahead s f.behind (size ahead) refl refl

-- a step past a leaf
pub record LeafGone (o : Forest) (fs : List Frame) (ahead rest : Forest) (it : Leaf) : Type 0 where
  pub is : left fs ahead ≡ passes it ∷ left fs rest
  pub stands : Stands o fs rest

pub leaf_gone : (o : Forest) (fs : List Frame) (ahead rest : Forest) (it : Leaf) → Stands o fs ahead → is_at_close (left fs ahead) ≡ false
    → first_token ahead ≡ Some (token.Leaf it) → rest ≡ after_token ahead → LeafGone o fs ahead rest it
leaf_gone o fs end rest it s e t r = cc
leaf_gone o fs (leaf other after) rest it s e t r =
    let same : other ≡ it = cc in
    let past = past_leaf o fs other after s (open_or_over o fs (leaf other after) s e) in
    record { is = past.is ∙ ap₂ (λ v w. passes v ∷ left fs w) same (sym r); stands = subst (Stands o fs) (sym r) past.stands }
leaf_gone o fs (node d c after) rest it s e t r = cc

-- A step past a leaf, or no step at the end of the walk.
pub gone_plain : (o : Forest) (fs : List Frame) (ahead rest : Forest) → Stands o fs ahead → is_at_close (left fs ahead) ≡ false
    → ((it : Subtree) → first_token ahead ≡ Some (token.Subtree it) → ⊥) → rest ≡ after_token ahead
    → Stands o fs rest × (at o (left fs rest) ≡ one_on (at o (left fs ahead)))
gone_plain o fs end rest s e n r =
    (subst (Stands o fs) (sym r) s, ap (λ v. at o (left fs v)) r ∙ stays (at o (left fs end)) (place_of o fs end s ∙ none_left o fs end s e refl))
gone_plain o fs (leaf it after) rest s e n r =
    let gone = leaf_gone o fs (leaf it after) rest it s e refl r in (gone.stands, moved o fs fs (leaf it after) rest (passes it) s gone.stands gone.is)
gone_plain o fs (node d c after) rest s e n r = absurd (n _ refl)
