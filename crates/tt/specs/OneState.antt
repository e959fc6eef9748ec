-- The fields of a builder represent at most one state.
use Rattle.std.specs.Prelude.{◌≡◌, ℕ, zero, suc, ◌+◌, ◌<◌, ◌≤◌, List, [], ◌∷◌, ◌++◌, length, take, drop, Option, Some, None, refl}
use Rattle.std.specs.List.{AllByRecursion-prop}
use Rattle.std.specs.Coded.{Coded-set, coded_list, coded_ℕ, le_prop, ×_prop}
use mathlib.Core.HLevel.{Σ_prop_path}
use Rattle.std.proofs.Common.{ap, ap₂, sym, ◌∙◌, subst, arith, length-append}
use Rattle.tt_base.specs.declared.delimiter.Delimiter.{Delimiter}
use Rattle.tt_base.specs.declared.delimiter.DelimiterKind.{DelimiterKind}
use Rattle.tt_base.specs.declared.span.Span.{Span}
use Rattle.tt_base.specs.declared.token_tree.TokenTree.{TokenTree}
use Rattle.tt_base.specs.declared.token_tree.TokenTree.TheVariants as token
use Rattle.tt_base.specs.contracts.token_tree.TokenTree.{the_row as token_row}
use Rattle.tt_base.specs.Forest.{Forest, end, leaf, node, header, flat}
use Rattle.tt_base.specs.Unflat.{flat-injective, length-flat}
use Rattle.tt.specs.declared.builder.standing.Standing.{Standing}
use Rattle.tt_base.specs.Building.{Stack, lowest, above, innermost, tokens_held, Point, BuilderState}
use Rattle.tt.specs.BuilderFields.{written, places, open_header, tokens_before, innermost_start, IsNodeAt, IsMark, IsBehindPoints, IsNoted, AreNoted, IsEarlier, AreInOrder, IsStateOf, HasState}

-- The list has one token more than the builder holds, the top.
pub length-written : (top : Delimiter) (stack : Stack) → length (written top stack) ≡ suc (tokens_held stack)
length-written top (lowest trees) = ap suc (length-flat trees)
length-written top (above outer kind open_span trees) =
    omega (arith, length-append (written top outer) (open_header kind open_span ∷ flat trees), length-written top outer, length-flat trees)

-- Equal lists are equal part by part if their first parts have the same length.
cut_alike : {A : Type 0} (xs ys s t : List A) → length xs ≡ length ys → xs ++ s ≡ ys ++ t → (xs ≡ ys) × (s ≡ t)
cut_alike [] [] s t n e = (refl, e)
cut_alike [] (y ∷ ys) s t n e = absurd (omega (arith, n))
cut_alike (x ∷ xs) [] s t n e = absurd (omega (arith, n))
cut_alike (x ∷ xs) (y ∷ ys) s t n e =
    let (same, others) = cut_alike xs ys s t (omega (arith, n)) cc in
    let first : x ≡ y = cc in
    (ap₂ ◌∷◌ first same, others)

-- Lists with one more item at the end are equal item by item.
pub last_alike : (xs ys : List ℕ) (x y : ℕ) → xs ++ x ∷ [] ≡ ys ++ y ∷ [] → (xs ≡ ys) × (x ≡ y)
last_alike xs ys x y e =
    let n : length xs ≡ length ys = omega (arith, ap length e, length-append xs (x ∷ []), length-append ys (y ∷ [])) in
    let (same, rest) = cut_alike xs ys (x ∷ []) (y ∷ []) n e in
    (same, cc)

-- the delimiter of a header, or d
delimiter_of : Delimiter → TokenTree → Delimiter
delimiter_of d (token.Leaf it) = d
delimiter_of d (token.Subtree s) = s.delimiter

-- the first token, or t
first_of_list : TokenTree → List TokenTree → TokenTree
first_of_list t [] = t
first_of_list t (x ∷ xs) = x

-- Equal open headers have the same kind and the same open span.
open_alike : (k l : DelimiterKind) (s t : Span) → open_header k s ≡ open_header l t → (k ≡ l) × (s ≡ t)
unfolding delimiter_of
open_alike k l s t e = (
  ap (λ x. (delimiter_of (record { open_span = s; close = s; kind = k }) x).kind) e,
  ap (λ x. (delimiter_of (record { open_span = s; close = s; kind = k }) x).open_span) e,
)

-- Equal lists with equal places have the same top and the same levels.
pub written_alike : (top other : Delimiter) (a b : Stack) → written top a ≡ written other b → places a ≡ places b → (top ≡ other) × (a ≡ b)
unfolding delimiter_of
written_alike top other (lowest f) (lowest g) e p =
    let first : header top 0 ≡ header other 0 = cc in
    (ap (delimiter_of top) first, ap lowest (flat-injective f g cc))
written_alike top other (lowest f) (above b k s g) e p =
    absurd (omega (arith, ap length p, length-append (places b) (suc (tokens_held b) ∷ [])))
written_alike top other (above a k s f) (lowest g) e p =
    absurd (omega (arith, ap length p, length-append (places a) (suc (tokens_held a) ∷ [])))
written_alike top other (above a k s f) (above b l t g) e p =
    let (outer, count) = last_alike (places a) (places b) (suc (tokens_held a)) (suc (tokens_held b)) p in
    let n : length (written top a) ≡ length (written other b) = length-written top a ∙ count ∙ sym (length-written other b) in
    let (before, after) = cut_alike (written top a) (written other b) (open_header k s ∷ flat f) (open_header l t ∷ flat g) n e in
    let (tops, stack) = written_alike top other a b before outer in
    let first : open_header k s ≡ open_header l t = cc in
    let (kinds, spans) = open_alike k l s t first in
    let trees : f ≡ g = flat-injective f g cc in
    (tops, λ i. above (stack i) (kinds i) (spans i) (trees i))

-- Nodes with the same number of tokens before them are the same node.
before_alike : (trees : Forest) (j k : ℕ) → IsNodeAt j trees → IsNodeAt k trees → tokens_before j trees ≡ tokens_before k trees → j ≡ k
before_alike end j k x y e = absurd x
before_alike (leaf it rest) zero k x y e = absurd x
before_alike (leaf it rest) (suc j) zero x y e = absurd y
before_alike (leaf it rest) (suc j) (suc k) x y e = ap suc (before_alike rest j k x y (omega (arith, e)))
before_alike (node d children rest) zero zero x y e = refl
before_alike (node d children rest) zero (suc k) x y e = absurd (omega (arith, e))
before_alike (node d children rest) (suc j) zero x y e = absurd (omega (arith, e))
before_alike (node d children rest) (suc j) (suc k) x y e = ap suc (before_alike rest j k x y (omega (arith, e)))

-- A place represents only one mark.
marks_alike : (stack : Stack) (place a b : Option ℕ) → IsMark stack place a → IsMark stack place b → a ≡ b
marks_alike stack None None None x y = refl
marks_alike stack None None (Some k) x y = absurd y
marks_alike stack None (Some k) b x y = absurd x
marks_alike stack (Some place) None b x y = absurd x
marks_alike stack (Some place) (Some j) None x y = absurd y
marks_alike stack (Some place) (Some j) (Some k) x y =
    ap Some (before_alike (innermost stack) j k x.1 y.1 (omega (arith, x.0, y.0)))

-- Two lengths represent only one point.
point_alike : (top : Delimiter) (tokens : List TokenTree) (headers : List ℕ) (kept : Standing) (a b : Point)
    → IsNoted top tokens headers kept a → IsNoted top tokens headers kept b → a ≡ b
point_alike top tokens headers kept a b x y =
    let stack : a.stack ≡ b.stack = (written_alike top top a.stack b.stack (sym x.held ∙ y.held) (sym x.opened ∙ y.opened)).1 in
    let number : a.number ≡ b.number = sym x.numbered ∙ y.numbered in
    λ i. record { number = number i; stack = stack i }

-- Lists of them represent only one list of points.
points_alike : (top : Delimiter) (tokens : List TokenTree) (headers : List ℕ) (kept : List Standing) (a b : List Point)
    → AreNoted top tokens headers kept a → AreNoted top tokens headers kept b → a ≡ b
points_alike top tokens headers [] [] [] x y = refl
points_alike top tokens headers [] [] (q ∷ b) x y = absurd y
points_alike top tokens headers [] (p ∷ a) b x y = absurd x
points_alike top tokens headers (k ∷ kept) [] b x y = absurd x
points_alike top tokens headers (k ∷ kept) (p ∷ a) [] x y = absurd y
points_alike top tokens headers (k ∷ kept) (p ∷ a) (q ∷ b) x y =
    ap₂ ◌∷◌ (point_alike top tokens headers k p q x.0 y.0) (points_alike top tokens headers kept a b x.1 y.1)

-- The fields represent only one state.
pub states_alike : (tokens : List TokenTree) (headers : List ℕ) (mark : Option ℕ) (points : List Standing) (taken : ℕ) (a b : BuilderState)
    → IsStateOf tokens headers mark points taken a → IsStateOf tokens headers mark points taken b → a ≡ b
states_alike tokens headers mark points taken a b x y =
    let (top, stack) = written_alike a.top b.top a.stack b.stack (sym x.list ∙ y.list) (sym x.open_places ∙ y.open_places) in
    let there : IsMark b.stack mark a.mark = subst (λ l. IsMark l mark a.mark) stack x.marked in
    let marks : a.mark ≡ b.mark = marks_alike b.stack mark a.mark b.mark there y.marked in
    let kept : AreNoted b.top tokens headers points a.points = subst (λ t. AreNoted t tokens headers points a.points) top x.noted in
    let all : a.points ≡ b.points = points_alike b.top tokens headers points a.points b.points kept y.noted in
    let counts : a.taken ≡ b.taken = sym x.count ∙ y.count in
    λ i. record { top = top i; stack = stack i; mark = marks i; points = all i; taken = counts i }

token_list_set : (xs ys : List TokenTree) → IsProp (xs ≡ ys)
token_list_set = Coded-set (coded_list token_row.coded)

place_list_set : (xs ys : List ℕ) → IsProp (xs ≡ ys)
place_list_set = Coded-set (coded_list coded_ℕ)

node_at-prop : (k : ℕ) (trees : Forest) → IsProp (IsNodeAt k trees)
node_at-prop k end = λ x y. absurd x
node_at-prop zero (leaf it rest) = λ x y. absurd x
node_at-prop zero (node d children rest) = λ x y. refl
node_at-prop (suc k) (leaf it rest) = node_at-prop k rest
node_at-prop (suc k) (node d children rest) = node_at-prop k rest

mark-prop : (stack : Stack) (place k : Option ℕ) → IsProp (IsMark stack place k)
mark-prop stack None None = λ x y. refl
mark-prop stack None (Some k) = λ x y. absurd x
mark-prop stack (Some place) None = λ x y. absurd x
mark-prop stack (Some place) (Some k) =
    ×_prop (Coded-set coded_ℕ place (innermost_start stack + tokens_before k (innermost stack))) (node_at-prop k (innermost stack))

clear-prop : (place : Option ℕ) (points : List Standing) → IsProp (IsBehindPoints place points)
clear-prop None points = λ x y. refl
clear-prop (Some place) points = AllByRecursion-prop _ (λ p. le_prop) points

noted-prop : (top : Delimiter) (tokens : List TokenTree) (headers : List ℕ) (kept : Standing) (p : Point) → IsProp (IsNoted top tokens headers kept p)
noted-prop top tokens headers kept p =
    λ x y i. record {
      numbered = Coded-set coded_ℕ kept.number p.number x.numbered y.numbered i;
      held = token_list_set (take kept.tokens tokens) (written top p.stack) x.held y.held i;
      reaches = le_prop x.reaches y.reaches i;
      opened = place_list_set (take kept.depth headers) (places p.stack) x.opened y.opened i;
      counts = le_prop x.counts y.counts i;
      behind = AllByRecursion-prop (λ place. kept.tokens ≤ place) (λ place. le_prop) (drop kept.depth headers) x.behind y.behind i;
    }

are_noted-prop : (top : Delimiter) (tokens : List TokenTree) (headers : List ℕ) (kept : List Standing) (points : List Point)
    → IsProp (AreNoted top tokens headers kept points)
are_noted-prop top tokens headers [] [] = λ x y. refl
are_noted-prop top tokens headers [] (p ∷ points) = λ x y. absurd x
are_noted-prop top tokens headers (k ∷ kept) [] = λ x y. absurd x
are_noted-prop top tokens headers (k ∷ kept) (p ∷ points) =
    ×_prop (noted-prop top tokens headers k p) (are_noted-prop top tokens headers kept points)

earlier-prop : (a b : Standing) → IsProp (IsEarlier a b)
earlier-prop a b =
    λ x y i. record { number = le_prop x.number y.number i; tokens = le_prop x.tokens y.tokens i; depth = le_prop x.depth y.depth i }

in_order-prop : (kept : List Standing) → IsProp (AreInOrder kept)
in_order-prop [] = λ x y. refl
in_order-prop (k ∷ kept) = ×_prop (AllByRecursion-prop (IsEarlier k) (λ b. earlier-prop k b) kept) (in_order-prop kept)

is_state-prop : (tokens : List TokenTree) (headers : List ℕ) (mark : Option ℕ) (points : List Standing) (taken : ℕ) (s : BuilderState)
    → IsProp (IsStateOf tokens headers mark points taken s)
is_state-prop tokens headers mark points taken s =
    λ x y i. record {
      list = token_list_set tokens (written s.top s.stack) x.list y.list i;
      few = le_prop x.few y.few i;
      open_places = place_list_set headers (places s.stack) x.open_places y.open_places i;
      marked = mark-prop s.stack mark s.mark x.marked y.marked i;
      clear = clear-prop mark points x.clear y.clear i;
      noted = are_noted-prop s.top tokens headers points s.points x.noted y.noted i;
      order = in_order-prop points x.order y.order i;
      numbers = AllByRecursion-prop (λ p. p.number < taken) (λ p. le_prop) points x.numbers y.numbers i;
      count = Coded-set coded_ℕ taken s.taken x.count y.count i;
    }

-- Such fields are a proposition, as a ghost field must be.
pub HasState-prop : (tokens : List TokenTree) (headers : List ℕ) (mark : Option ℕ) (points : List Standing) (taken : ℕ)
    → IsProp (HasState tokens headers mark points taken)
HasState-prop tokens headers mark points taken a b =
    Σ_prop_path (λ s. is_state-prop tokens headers mark points taken s)
    (states_alike tokens headers mark points taken a.0 b.0 a.1 b.1)

-- The state that the fields represent is the one that they are shown to represent.
pub state_is : (tokens : List TokenTree) (headers : List ℕ) (mark : Option ℕ) (points : List Standing) (taken : ℕ)
    (has : HasState tokens headers mark points taken) (s : BuilderState) → IsStateOf tokens headers mark points taken s → has.0 ≡ s
state_is tokens headers mark points taken has s is = states_alike tokens headers mark points taken has.0 s has.1 is

-- The fields represent the state that the model shows.
pub seen : (tokens : List TokenTree) (headers : List ℕ) (mark : Option ℕ) (points : List Standing) (taken : ℕ)
    (has : HasState tokens headers mark points taken) (s : BuilderState) → has.0 ≡ s → IsStateOf tokens headers mark points taken s
seen tokens headers mark points taken has s e = subst (λ x. IsStateOf tokens headers mark points taken x) e has.1
