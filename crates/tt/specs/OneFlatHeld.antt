-- The fields of a flat builder represent at most one thing.
use Rattle.std.specs.Prelude.{◌≡◌, ℕ, suc, List, [], ◌∷◌, ◌++◌, length, refl}
use Rattle.std.specs.Coded.{Coded-set, coded_list, coded_ℕ, le_prop}
use mathlib.Core.HLevel.{Σ_prop_path}
use Rattle.std.proofs.Common.{ap, ap₂, sym, ◌∙◌, subst, arith, length-append}
use Rattle.tt_base.specs.Building.{Stack, above, lowest, tokens_held}
use Rattle.tt_base.specs.Forest.{flat, header}
use Rattle.tt_base.specs.Unflat.{flat-injective, length-flat}
use Rattle.tt_base.specs.contracts.token_tree.TokenTree.{the_row as token_row}
use Rattle.tt_base.specs.declared.delimiter.Delimiter.{Delimiter}
use Rattle.tt_base.specs.declared.delimiter.DelimiterKind.{DelimiterKind}
use Rattle.tt_base.specs.declared.span.Span.{Span}
use Rattle.tt_base.specs.declared.token_tree.TokenTree.{TokenTree}
use Rattle.tt_base.specs.declared.token_tree.TokenTree.TheVariants as token
use Rattle.tt.specs.FlatFields.{AreFieldsOf, HasHeld, open_header, places, written}
use Rattle.tt.specs.FlatHeld.{Held}

-- The list has one token more than the builder holds, the top.
pub length-written : (top : Delimiter) (stack : Stack) → length (written top stack) ≡ suc (tokens_held stack)
length-written top (lowest trees) = ap suc (length-flat trees)
length-written top (above outer kind open_span trees) =
    omega (arith, length-append (written top outer) (open_header kind open_span ∷ flat trees), length-written top outer, length-flat trees)

-- Equal lists are equal part by part if their first parts have the same length.
cut_alike : {A : Type 0} (xs ys s t : List A) → length xs ≡ length ys → xs ++ s ≡ ys ++ t → (xs ≡ ys) × (s ≡ t)
cut_alike [] [] s t n e = (refl, e)
cut_alike [] (y ∷ ys) s t n e = absurd (omega (arith, n))
cut_alike (x ∷ xs) [] s t n e = absurd (omega (arith, n))
cut_alike (x ∷ xs) (y ∷ ys) s t n e =
    let (same, others) = cut_alike xs ys s t (omega (arith, n)) cc in
    let first : x ≡ y = cc in
    (ap₂ ◌∷◌ first same, others)

-- Lists with one more item at the end are equal item by item.
pub last_alike : (xs ys : List ℕ) (x y : ℕ) → xs ++ x ∷ [] ≡ ys ++ y ∷ [] → (xs ≡ ys) × (x ≡ y)
last_alike xs ys x y e =
    let n : length xs ≡ length ys = omega (arith, ap length e, length-append xs (x ∷ []), length-append ys (y ∷ [])) in
    let (same, rest) = cut_alike xs ys (x ∷ []) (y ∷ []) n e in
    (same, cc)

-- the delimiter of a header, or d
delimiter_of : Delimiter → TokenTree → Delimiter
delimiter_of d (token.Leaf it) = d
delimiter_of d (token.Subtree s) = s.delimiter

-- the first token, or t
first_of_list : TokenTree → List TokenTree → TokenTree
first_of_list t [] = t
first_of_list t (x ∷ xs) = x

-- Equal open headers have the same kind and the same open span.
open_alike : (k l : DelimiterKind) (s t : Span) → open_header k s ≡ open_header l t → (k ≡ l) × (s ≡ t)
unfolding delimiter_of
open_alike k l s t e = (
  ap (λ x. (delimiter_of (record { open_span = s; close = s; kind = k }) x).kind) e,
  ap (λ x. (delimiter_of (record { open_span = s; close = s; kind = k }) x).open_span) e,
)

-- Equal lists with equal places have the same top and the same levels.
pub written_alike : (top other : Delimiter) (a b : Stack) → written top a ≡ written other b → places a ≡ places b → (top ≡ other) × (a ≡ b)
unfolding delimiter_of
written_alike top other (lowest f) (lowest g) e p =
    let first : header top 0 ≡ header other 0 = cc in
    (ap (delimiter_of top) first, ap lowest (flat-injective f g cc))
written_alike top other (lowest f) (above b k s g) e p =
    absurd (omega (arith, ap length p, length-append (places b) (suc (tokens_held b) ∷ [])))
written_alike top other (above a k s f) (lowest g) e p =
    absurd (omega (arith, ap length p, length-append (places a) (suc (tokens_held a) ∷ [])))
written_alike top other (above a k s f) (above b l t g) e p =
    let (outer, count) = last_alike (places a) (places b) (suc (tokens_held a)) (suc (tokens_held b)) p in
    let n : length (written top a) ≡ length (written other b) = length-written top a ∙ count ∙ sym (length-written other b) in
    let (before, after) = cut_alike (written top a) (written other b) (open_header k s ∷ flat f) (open_header l t ∷ flat g) n e in
    let (tops, stack) = written_alike top other a b before outer in
    let first : open_header k s ≡ open_header l t = cc in
    let (kinds, spans) = open_alike k l s t first in
    let trees : f ≡ g = flat-injective f g cc in
    (tops, λ i. above (stack i) (kinds i) (spans i) (trees i))

-- The fields represent only one thing.
pub held_alike : (tokens : List TokenTree) (headers : List ℕ) (a b : Held) → AreFieldsOf tokens headers a → AreFieldsOf tokens headers b → a ≡ b
held_alike tokens headers a b x y =
    let (top, stack) = written_alike a.top b.top a.stack b.stack (sym x.list ∙ y.list) (sym x.open_places ∙ y.open_places) in
    λ i. record { top = top i; stack = stack i }

token_list_set : (xs ys : List TokenTree) → IsProp (xs ≡ ys)
token_list_set = Coded-set (coded_list token_row.coded)

place_list_set : (xs ys : List ℕ) → IsProp (xs ≡ ys)
place_list_set = Coded-set (coded_list coded_ℕ)

are_fields-prop : (tokens : List TokenTree) (headers : List ℕ) (held : Held) → IsProp (AreFieldsOf tokens headers held)
are_fields-prop tokens headers held =
    λ x y i. record {
      list = token_list_set tokens (written held.top held.stack) x.list y.list i;
      few = le_prop x.few y.few i;
      open_places = place_list_set headers (places held.stack) x.open_places y.open_places i;
    }

-- Such fields are a proposition, as a ghost field must be.
pub HasHeld-prop : (tokens : List TokenTree) (headers : List ℕ) → IsProp (HasHeld tokens headers)
HasHeld-prop tokens headers a b = Σ_prop_path (λ held. are_fields-prop tokens headers held) (held_alike tokens headers a.0 b.0 a.1 b.1)

-- What the fields represent is what they are shown to represent.
pub held_is : (tokens : List TokenTree) (headers : List ℕ) (has : HasHeld tokens headers) (held : Held) → AreFieldsOf tokens headers held → has.0 ≡ held
held_is tokens headers has held is = held_alike tokens headers has.0 held has.1 is

-- The fields represent what the model shows.
pub seen : (tokens : List TokenTree) (headers : List ℕ) (has : HasHeld tokens headers) (held : Held) → has.0 ≡ held → AreFieldsOf tokens headers held
seen tokens headers has held e = subst (λ x. AreFieldsOf tokens headers x) e has.1
