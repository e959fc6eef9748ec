-- What a flat builder holds after its list grows at the end.
use Rattle.std.proofs.Common.{◌≡◌, ℕ, suc, ◌+◌, ◌<◌, ◌≤◌, List, [], ◌∷◌, ◌++◌, length, Result, Ok, Err, OnOk, OnErr, refl, ap, ap₂, sym, ◌∙◌, subst, arith, append_assoc, length-append}
use Rattle.tt_base.specs.Building.{Stack, above, append, lowest, tokens_held}
use Rattle.tt_base.specs.Forest.{Forest, end, flat, header, leaf}
use Rattle.tt_base.specs.Unflat.{flat-join}
use Rattle.tt_base.specs.declared.delimiter.Delimiter.{Delimiter}
use Rattle.tt_base.specs.declared.delimiter.DelimiterKind.{DelimiterKind}
use Rattle.tt_base.specs.declared.leaf.Leaf.{Leaf}
use Rattle.tt_base.specs.declared.span.Span.{Span}
use Rattle.tt_base.specs.declared.token_tree.TokenTree.{TokenTree}
use Rattle.tt.specs.FlatFields.{AreFieldsOf, HasHeld, open_header, places, written}
use Rattle.tt.specs.FlatHeld.{Held, none_held, opened, pushed}
use Rattle.tt.specs.OneFlatHeld.{length-written}

-- the list of levels after trees are appended
pub written-append : (top : Delimiter) (stack : Stack) (more : Forest) → written top (append more stack) ≡ written top stack ++ flat more
written-append top (lowest trees) more = ap (λ l. header top 0 ∷ l) (flat-join trees more)
written-append top (above outer kind open_span trees) more =
    ap (λ l. written top outer ++ open_header kind open_span ∷ l) (flat-join trees more)
    ∙ sym (append_assoc (written top outer) (open_header kind open_span ∷ flat trees) (flat more))

-- the same subtrees are open
pub places-append : (stack : Stack) (more : Forest) → places (append more stack) ≡ places stack
places-append (lowest trees) more = refl
places-append (above outer kind open_span trees) more = refl

-- a leaf is appended
pub pushed_fields : (tokens now : List TokenTree) (headers : List ℕ) (held : Held) (it : Leaf) → AreFieldsOf tokens headers held → now ≡ tokens ++ flat (leaf it end) → length now ≤ 4294967296
    → AreFieldsOf now headers (pushed it held)
pushed_fields tokens now headers held it is grown few = record {
  list = grown ∙ ap (λ l. l ++ flat (leaf it end)) is.list ∙ sym (written-append held.top held.stack (leaf it end));
  few = few;
  open_places = is.open_places ∙ sym (places-append held.stack (leaf it end));
}

-- the same fields, in vectors with other room
pub same_fields : (tokens now : List TokenTree) (headers places_now : List ℕ) (held : Held) → AreFieldsOf tokens headers held → now ≡ tokens → places_now ≡ headers → AreFieldsOf now places_now held
same_fields tokens now headers places_now held is list places_same =
    subst (λ h. AreFieldsOf now h held) (sym places_same) (subst (λ l. AreFieldsOf l headers held) (sym list) is)

-- a leaf is appended, or nothing changes
pub grown_fields : {T E : Type 0} (r : Result T E) (tokens now : List TokenTree) (headers : List ℕ) (held : Held) (it : Leaf) → AreFieldsOf tokens headers held → length tokens ≤ 4294967295
    → OnOk r (now ≡ tokens ++ flat (leaf it end)) → OnErr r (now ≡ tokens) → HasHeld now headers
grown_fields (Ok _) tokens now headers held it is room grown same =
    (pushed it held, pushed_fields tokens now headers held it is grown (omega (arith, room, ap length grown, length-append tokens (flat (leaf it end)))))
grown_fields (Err _) tokens now headers held it is room grown same = (held, same_fields tokens now headers headers held is same refl)

-- a subtree is opened
pub opened_fields : (tokens now : List TokenTree) (headers places_now : List ℕ) (held : Held) (kind : DelimiterKind) (open_span : Span) (place : ℕ)
    → AreFieldsOf tokens headers held → now ≡ tokens ++ open_header kind open_span ∷ [] → length now ≤ 4294967296 → place ≡ length tokens → places_now ≡ headers ++ place ∷ []
    → AreFieldsOf now places_now (opened kind open_span held)
opened_fields tokens now headers places_now held kind open_span place is grown few here added =
    let count : length tokens ≡ suc (tokens_held held.stack) = ap length is.list ∙ length-written held.top held.stack in record {
      list = grown ∙ ap (λ l. l ++ open_header kind open_span ∷ []) is.list;
      few = few;
      open_places = added ∙ ap₂ (λ l n. l ++ n ∷ []) is.open_places (here ∙ count);
    }

-- only the top is held
pub new_fields : (top : Delimiter) (tokens : List TokenTree) (headers : List ℕ) → tokens ≡ header top 0 ∷ [] → headers ≡ [] → AreFieldsOf tokens headers (none_held top)
new_fields top tokens headers list none = record { list = list; few = omega (arith, ap length list); open_places = none }

-- a full list holds as many tokens as a tree may have
pub full : (tokens : List TokenTree) (headers : List ℕ) (held : Held) → AreFieldsOf tokens headers held → 4294967295 < length tokens → 4294967295 < tokens_held held.stack + 1
full tokens headers held is many = omega (arith, ap length is.list, length-written held.top held.stack, many)
