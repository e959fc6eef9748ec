-- Facts about walks and places in them.
use Rattle.std.proofs.Common.{◌≡◌, ℕ, zero, suc, ◌+◌, Some, None, true, false, List, [], ◌∷◌, ◌++◌, length, take, drop, refl, ap, ap₂, sym, subst, ◌∙◌, arith, append_assoc}
use Rattle.std.proofs.Math.Seq.{drop-append_seam}
use Rattle.std.proofs.lemmas.List.{take-append-drop, drop-drop}
use Rattle.tt_base.specs.declared.delimiter.Subtree.{Subtree}
use Rattle.tt_base.specs.declared.leaf.Leaf.{Leaf}
use Rattle.tt_base.specs.declared.token_tree.TokenTree.{TokenTree}
use Rattle.tt_base.specs.declared.token_tree.TokenTree.TheVariants as token
use Rattle.tt_base.specs.Forest.{Forest, end, leaf, node, size, header, flat, join, IsWhole}
use Rattle.tt_base.specs.Unflat.{flat-join}
use Rattle.tt_base.specs.Walk.{Event, passes, opens, closes, subtree_of, walk, Walked, events_ahead, is_over, is_at_close, is_at_open, token_at, two_leaves_at, open_nodes, tokens_of, one_if_any, one_on, flat_left}
use Rattle.tt_base.specs.Siblings.{is_end}

-- Every end piece of a whole flat list is whole.
pub whole_drop : (n : ℕ) (f : Forest) → IsWhole (drop n (flat f))
whole_drop zero f = (f, refl)
whole_drop (suc n) end = (end, refl)
whole_drop (suc n) (leaf it rest) = whole_drop n rest
whole_drop (suc n) (node d children rest) = subst (λ l. IsWhole (drop n l)) (flat-join children rest) (whole_drop n (join children rest))

-- The walk through two lists of trees.
pub walk-join : (f g : Forest) → walk (join f g) ≡ walk f ++ walk g
walk-join end g = refl
walk-join (leaf it rest) g = ap (λ v. passes it ∷ v) (walk-join rest g)
walk-join (node d children rest) g =
    ap (λ v. opens (subtree_of d (size children)) ∷ (walk children ++ (closes (subtree_of d (size children)) ∷ v))) (walk-join rest g)
    ∙ ap (λ v. opens (subtree_of d (size children)) ∷ v) (sym (append_assoc (walk children) (closes (subtree_of d (size children)) ∷ walk rest) (walk g)))

-- A walk goes out of each node that it goes into.
pub open_walk : (f : Forest) (events : List Event) → open_nodes (walk f ++ events) ≡ open_nodes events
open_walk end events = refl
open_walk (leaf it rest) events = open_walk rest events
open_walk (node d children rest) events =
    let h = subtree_of d (size children) in
    let one : open_nodes ((walk children ++ (closes h ∷ walk rest)) ++ events) ≡ suc (open_nodes events) =
    ap open_nodes (append_assoc (walk children) (closes h ∷ walk rest) events) ∙ open_walk children (closes h ∷ (walk rest ++ events)) ∙ ap suc (open_walk rest events) in
    omega (arith, one)

pub tokens-append : (events others : List Event) → tokens_of (events ++ others) ≡ tokens_of events ++ tokens_of others
tokens-append [] others = refl
tokens-append (passes it ∷ events) others = ap (λ v. token.Leaf it ∷ v) (tokens-append events others)
tokens-append (opens s ∷ events) others = ap (λ v. token.Subtree s ∷ v) (tokens-append events others)
tokens-append (closes s ∷ events) others = tokens-append events others

-- The tokens of a walk are the flat list.
pub tokens_walk : (f : Forest) → tokens_of (walk f) ≡ flat f
tokens_walk end = refl
tokens_walk (leaf it rest) = ap (λ v. token.Leaf it ∷ v) (tokens_walk rest)
tokens_walk (node d children rest) =
    ap (λ v. header d (size children) ∷ v)
    (tokens-append (walk children) (closes (subtree_of d (size children)) ∷ walk rest) ∙ ap₂ ◌++◌ (tokens_walk children) (tokens_walk rest))

-- At the end, one event further is the same place.
pub stays : (w : Walked) → events_ahead w ≡ [] → w ≡ one_on w
stays w e = let far : w.place ≡ w.place + one_if_any (events_ahead w) = omega arith ∙ ap (λ v. w.place + one_if_any v) (sym e) in λ i. record { origin = w.origin; place = far i }

pub over_end : (f : Forest) → is_end f ≡ is_over (walk f)
over_end end = refl
over_end (leaf it rest) = refl
over_end (node d c rest) = refl

pub not_over : (events : List Event) (event : Event) (others : List Event) → false ≡ is_over (events ++ (event ∷ others))
not_over [] event others = refl
not_over (first ∷ events) event others = refl

pub opens_at : (events : List Event) (s : Subtree) → Some (token.Subtree s) ≡ token_at events → is_at_open events ≡ true
opens_at [] s e = cc
opens_at (passes it ∷ events) s e = cc
opens_at (opens s2 ∷ events) s e = refl
opens_at (closes s2 ∷ events) s e = cc

pub no_first : (l : List Event) → ((it : Leaf) → token_at l ≡ Some (token.Leaf it) → ⊥) → None ≡ two_leaves_at l
no_first [] n = refl
no_first (passes it ∷ l) n = absurd (n it refl)
no_first (opens s ∷ l) n = refl
no_first (closes s ∷ l) n = refl

pub no_second : (it : Leaf) (l : List Event) → ((other : Leaf) → token_at l ≡ Some (token.Leaf other) → ⊥) → None ≡ two_leaves_at (passes it ∷ l)
no_second it [] n = refl
no_second it (passes other ∷ l) n = absurd (n other refl)
no_second it (opens s ∷ l) n = refl
no_second it (closes s ∷ l) n = refl

pub two : (it other : Leaf) (l : List Event) → token_at l ≡ Some (token.Leaf other) → Some (it ∷ other ∷ []) ≡ two_leaves_at (passes it ∷ l)
two it other [] e = cc
two it other (passes third ∷ l) e = let same : third ≡ other = cc in ap (λ v. Some (it ∷ v ∷ [])) (sym same)
two it other (opens s ∷ l) e = cc
two it other (closes s ∷ l) e = cc

pub none_at_close : (l : List Event) → is_at_close l ≡ true → (it : Leaf) → token_at l ≡ Some (token.Leaf it) → ⊥
none_at_close [] e it t = cc
none_at_close (passes other ∷ l) e it t = cc
none_at_close (opens s ∷ l) e it t = cc
none_at_close (closes s ∷ l) e it t = cc

-- The tokens of the events ahead are the rest of the flat list.
pub flat_left_is : (w : Walked) → tokens_of (events_ahead w) ≡ flat_left w
flat_left_is w =
    let all : flat w.origin ≡ tokens_of (take w.place (walk w.origin)) ++ tokens_of (events_ahead w) =
    sym (tokens_walk w.origin) ∙ ap tokens_of (sym (take-append-drop w.place (walk w.origin))) ∙ tokens-append (take w.place (walk w.origin)) (events_ahead w) in
    sym (ap (drop (length (tokens_of (take w.place (walk w.origin))))) all ∙ drop-append_seam (tokens_of (take w.place (walk w.origin))) (tokens_of (events_ahead w)))

-- The rest of the flat list is whole.
pub flat_left_whole : (w : Walked) → IsWhole (flat_left w)
flat_left_whole w = whole_drop (length (tokens_of (take w.place (walk w.origin)))) w.origin

-- One event further, the others are ahead.
pub event_passed : (w : Walked) (event : Event) (events : List Event) → events_ahead w ≡ event ∷ events → events_ahead (one_on w) ≡ events
event_passed w event events e =
    ap (λ v. drop (w.place + one_if_any v) (walk w.origin)) e ∙ sym (drop-drop 1 w.place (walk w.origin)) ∙ ap (drop 1) e

-- One event fewer is then ahead.
pub one_fewer : (w : Walked) → is_over (events_ahead w) ≡ false → suc (length (events_ahead (one_on w))) ≡ length (events_ahead w)
one_fewer w e = by (events_ahead w) refl e
  where
    by : (l : List Event) → events_ahead w ≡ l → is_over l ≡ false → suc (length (events_ahead (one_on w))) ≡ length (events_ahead w)
    by [] same more = cc
    by (event ∷ events) same more = omega (arith, ap length (event_passed w event events same), ap length same)

-- If an event is ahead and no token, a node ends.
pub ends_here : (events : List Event) → token_at events ≡ None → is_over events ≡ false → is_at_close events ≡ true
ends_here [] n more = cc
ends_here (passes it ∷ events) n more = cc
ends_here (opens s ∷ events) n more = cc
ends_here (closes s ∷ events) n more = refl

-- If a token is next, no node ends.
pub no_end_at_token : (events : List Event) (t : TokenTree) → token_at events ≡ Some t → is_at_close events ≡ false
no_end_at_token [] t e = refl
no_end_at_token (passes it ∷ events) t e = refl
no_end_at_token (opens s ∷ events) t e = refl
no_end_at_token (closes s ∷ events) t e = cc

-- If no node is open, no node ends.
pub no_end_outside : (events : List Event) → open_nodes events ≡ 0 → is_at_close events ≡ false
no_end_outside [] e = refl
no_end_outside (passes it ∷ events) e = refl
no_end_outside (opens s ∷ events) e = refl
no_end_outside (closes s ∷ events) e = absurd (omega (arith, e))
