-- The innermost subtree is closed.
use Rattle.std.proofs.Common.{◌≡◌, ℕ, suc, ◌-◌, ◌<◌, List, [], ◌∷◌, ◌++◌, length, set, get_or, ap, ap₂, sym, ◌∙◌, arith, length-append, length-set, append-nil}
use Rattle.std.proofs.Math.Seq.{set-append_seam, get_or-append_seam}
use Rattle.tt_base.specs.Building.{Stack, above, append, lowest, tokens_held}
use Rattle.tt_base.specs.Forest.{end, flat, header, node, size}
use Rattle.tt_base.specs.Token.{delimiter}
use Rattle.tt_base.specs.Unflat.{length-flat}
use Rattle.tt_base.specs.declared.span.Span.{Span}
use Rattle.tt_base.specs.declared.token_tree.TokenTree.{TokenTree}
use Rattle.tt.proofs.FlatGrowing.{places-append, written-append}
use Rattle.tt.specs.FlatFields.{AreFieldsOf, open_header, places, written}
use Rattle.tt_tables.specs.SmallHeld.{closed_token}
use Rattle.tt.specs.FlatHeld.{Held, IsOpen, closed}
use Rattle.tt.specs.OneFlatHeld.{last_alike, length-written}

-- a list with a place at its end is not empty
none_last : (left : List ℕ) (place : ℕ) → left ++ place ∷ [] ≡ [] → ⊥
none_last left place e = omega (arith, ap length e, length-append left (place ∷ []))

-- the header at the last place is closed
pub closed_fields : (tokens now : List TokenTree) (headers left : List ℕ) (held : Held) (close_span : Span) (place n : ℕ) (d : TokenTree)
    → AreFieldsOf tokens headers held → headers ≡ left ++ place ∷ [] → n ≡ length tokens - place - 1 → now ≡ set tokens place (closed_token close_span n (get_or tokens place d))
    → AreFieldsOf now left (closed close_span held)
closed_fields tokens now headers left held close_span place n d is popped counted patched = by_stack held.stack is.list is.open_places
  where
    by_stack : (stack : Stack) → tokens ≡ written held.top stack → headers ≡ places stack → AreFieldsOf now left (closed close_span (record { top = held.top; stack = stack }))
    by_stack (lowest trees) list open_places = absurd (none_last left place (sym popped ∙ open_places))
    by_stack (above outer kind open_span trees) list open_places =
        let (same_left, same_place) = last_alike left (places outer) place (suc (tokens_held outer)) (sym popped ∙ open_places) in
        let here : place ≡ length (written held.top outer) = same_place ∙ sym (length-written held.top outer) in
        let sized : n ≡ size trees = omega (arith, counted, here, ap length list, length-append (written held.top outer) (open_header kind open_span ∷ flat trees), length-flat trees) in
        let found : get_or tokens place d ≡ open_header kind open_span =
        ap₂ (λ l i. get_or l i d) list here ∙ get_or-append_seam (written held.top outer) (open_header kind open_span) (flat trees) d in
        let new_header : closed_token close_span n (get_or tokens place d) ≡ header (delimiter kind open_span close_span) (size trees) = ap₂ (closed_token close_span) sized found in
        let all : now ≡ written held.top (append (node (delimiter kind open_span close_span) trees end) outer) =
        patched ∙ ap (set tokens place) new_header
        ∙ ap₂ (λ l i. set l i (header (delimiter kind open_span close_span) (size trees))) list here
        ∙ set-append_seam (written held.top outer) (open_header kind open_span) (flat trees) (header (delimiter kind open_span close_span) (size trees))
        ∙ ap (λ l. written held.top outer ++ header (delimiter kind open_span close_span) (size trees) ∷ l) (sym (append-nil (flat trees)))
        ∙ sym (written-append held.top outer (node (delimiter kind open_span close_span) trees end)) in record {
          list = all;
          few = omega (arith, is.few, ap length patched, length-set tokens place (closed_token close_span n (get_or tokens place d)));
          open_places = same_left ∙ sym (places-append outer (node (delimiter kind open_span close_span) trees end));
        }

-- the place of the innermost open header is in the list
pub place_within : (tokens : List TokenTree) (headers left : List ℕ) (held : Held) (place : ℕ) → AreFieldsOf tokens headers held → headers ≡ left ++ place ∷ [] → place < length tokens
place_within tokens headers left held place is popped = by_stack held.stack (sym popped ∙ is.open_places) (ap length is.list ∙ length-written held.top held.stack)
  where
    by_stack : (stack : Stack) → left ++ place ∷ [] ≡ places stack → length tokens ≡ suc (tokens_held stack) → place < length tokens
    by_stack (lowest trees) none counted = absurd (none_last left place none)
    by_stack (above outer kind open_span trees) some counted =
        let (same_left, same_place) = last_alike left (places outer) place (suc (tokens_held outer)) some in omega (arith, same_place, counted)

-- if a subtree is open, there is a header
pub some_header : (tokens : List TokenTree) (headers : List ℕ) (held : Held) → AreFieldsOf tokens headers held → IsOpen held → headers ≡ [] → ⊥
some_header tokens headers held is open_one none = by_stack held.stack open_one (sym none ∙ is.open_places)
  where
    by_stack : (stack : Stack) → IsOpen (record { top = held.top; stack = stack }) → [] ≡ places stack → ⊥
    by_stack (lowest trees) impossible e = impossible
    by_stack (above outer kind open_span trees) some e = none_last (places outer) (suc (tokens_held outer)) (sym e)
