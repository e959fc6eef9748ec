-- The restore points and the mark after the list grows at its end.
use Rattle.std.proofs.Common.{◌≡◌, ℕ, zero, suc, ◌+◌, ◌<◌, ◌≤◌, List, [], ◌∷◌, ◌++◌, length, take, drop, Option, Some, None, refl, ap, ap₂, sym, ◌∙◌, subst, arith, length-append, append_assoc}
use Rattle.std.proofs.lemmas.List.{take-append-le, drop-append-le, take_all}
use Rattle.std.specs.List.{AllByRecursion}
use Rattle.tt_base.specs.declared.delimiter.Delimiter.{Delimiter}
use Rattle.tt_base.specs.declared.delimiter.DelimiterKind.{DelimiterKind}
use Rattle.tt_base.specs.declared.span.Span.{Span}
use Rattle.tt_base.specs.declared.token_tree.TokenTree.{TokenTree}
use Rattle.tt_base.specs.Forest.{Forest, end, leaf, node, size, header, flat, join}
use Rattle.tt_base.specs.Unflat.{flat-join}
use Rattle.tt.specs.declared.builder.standing.Standing.{Standing}
use Rattle.tt_base.specs.Building.{Stack, lowest, above, append, tokens_held, Point, BuilderState, opened, extended, empty_builder, HasRoom}
use Rattle.tt.specs.BuilderFields.{written, places, open_header, tokens_before, IsNodeAt, IsMark, AreNoted, IsStateOf}
use Rattle.tt.specs.OneState.{length-written}

-- One more item for which it holds too.
pub all_and_one : {A : Type 0} (P : A → Type 0) (xs : List A) (x : A) → AllByRecursion P xs → P x → AllByRecursion P (xs ++ x ∷ [])
all_and_one P [] x all one = (one, tt)
all_and_one P (y ∷ xs) x all one = (all.0, all_and_one P xs x all.1 one)

-- A weaker claim.
pub all_weaker : {A : Type 0} (P Q : A → Type 0) (xs : List A) → ((x : A) → P x → Q x) → AllByRecursion P xs → AllByRecursion Q xs
all_weaker P Q [] weaker all = tt
all_weaker P Q (x ∷ xs) weaker all = (weaker x all.0, all_weaker P Q xs weaker all.1)

-- The points stay valid in a longer list.
pub more_tokens : (top : Delimiter) (tokens more : List TokenTree) (headers : List ℕ) (kept : List Standing) (points : List Point)
    → AreNoted top tokens headers kept points → AreNoted top (tokens ++ more) headers kept points
more_tokens top tokens more headers [] [] are = tt
more_tokens top tokens more headers [] (p ∷ points) are = absurd are
more_tokens top tokens more headers (k ∷ kept) [] are = absurd are
more_tokens top tokens more headers (k ∷ kept) (p ∷ points) are = (
  record {
    numbered = are.0.numbered;
    held = take-append-le k.tokens tokens more are.0.reaches ∙ are.0.held;
    reaches = omega (arith, are.0.reaches, length-append tokens more);
    opened = are.0.opened;
    counts = are.0.counts;
    behind = are.0.behind;
  },
  more_tokens top tokens more headers kept points are.1,
)

-- One more header, after all tokens.
pub more_headers : (top : Delimiter) (tokens : List TokenTree) (headers : List ℕ) (kept : List Standing) (points : List Point)
    → AreNoted top tokens headers kept points → AreNoted top tokens (headers ++ length tokens ∷ []) kept points
more_headers top tokens headers [] [] are = tt
more_headers top tokens headers [] (p ∷ points) are = absurd are
more_headers top tokens headers (k ∷ kept) [] are = absurd are
more_headers top tokens headers (k ∷ kept) (p ∷ points) are = (
  record {
    numbered = are.0.numbered;
    held = are.0.held;
    reaches = are.0.reaches;
    opened = take-append-le k.depth headers (length tokens ∷ []) are.0.counts ∙ are.0.opened;
    counts = omega (arith, are.0.counts, length-append headers (length tokens ∷ []));
    behind =
        subst (AllByRecursion (λ place. k.tokens ≤ place)) (sym (drop-append-le k.depth headers (length tokens ∷ []) are.0.counts))
        (all_and_one (λ place. k.tokens ≤ place) (drop k.depth headers) (length tokens) are.0.behind are.0.reaches);
  },
  more_headers top tokens headers kept points are.1,
)

-- The list of levels after trees are appended.
pub written-append : (top : Delimiter) (stack : Stack) (more : Forest) → written top (append more stack) ≡ written top stack ++ flat more
written-append top (lowest trees) more = ap (λ l. header top 0 ∷ l) (flat-join trees more)
written-append top (above outer kind open_span trees) more =
    ap (λ l. written top outer ++ open_header kind open_span ∷ l) (flat-join trees more)
    ∙ sym (append_assoc (written top outer) (open_header kind open_span ∷ flat trees) (flat more))

-- The same subtrees are open.
pub places-append : (stack : Stack) (more : Forest) → places (append more stack) ≡ places stack
places-append (lowest trees) more = refl
places-append (above outer kind open_span trees) more = refl

-- A node keeps its number, and the tokens before it.
pub node_stays : (k : ℕ) (trees more : Forest) → IsNodeAt k trees → (tokens_before k (join trees more) ≡ tokens_before k trees) × IsNodeAt k (join trees more)
node_stays k end more is = absurd is
node_stays zero (leaf it rest) more is = absurd is
node_stays zero (node d children rest) more is = (refl, tt)
node_stays (suc k) (leaf it rest) more is = let stays = node_stays k rest more is in (ap suc stays.0, stays.1)
node_stays (suc k) (node d children rest) more is =
    let stays = node_stays k rest more is in
    (ap (λ n. suc (size children + n)) stays.0, stays.1)

-- The mark stays.
pub mark_stays : (stack : Stack) (more : Forest) (place k : Option ℕ) → IsMark stack place k → IsMark (append more stack) place k
mark_stays stack more None None is = tt
mark_stays stack more None (Some k) is = absurd is
mark_stays stack more (Some place) None is = absurd is
mark_stays (lowest trees) more (Some place) (Some k) is =
    let stays = node_stays k trees more is.1 in
    (is.0 ∙ ap (λ n. 1 + n) (sym stays.0), stays.1)
mark_stays (above outer kind open_span trees) more (Some place) (Some k) is =
    let stays = node_stays k trees more is.1 in
    (is.0 ∙ ap (λ n. suc (suc (tokens_held outer)) + n) (sym stays.0), stays.1)

-- Trees are appended.
pub extended_state : (tokens now : List TokenTree) (headers : List ℕ) (mark : Option ℕ) (points : List Standing) (taken : ℕ) (s : BuilderState) (more : Forest)
    → IsStateOf tokens headers mark points taken s → now ≡ tokens ++ flat more → length now ≤ 4294967296
    → IsStateOf now headers mark points taken (extended more s)
extended_state tokens now headers mark points taken s more is grown few =
    record {
      list = grown ∙ ap (λ l. l ++ flat more) is.list ∙ sym (written-append s.top s.stack more);
      few = few;
      open_places = is.open_places ∙ sym (places-append s.stack more);
      marked = mark_stays s.stack more mark s.mark is.marked;
      clear = is.clear;
      noted = subst (λ l. AreNoted s.top l headers points s.points) (sym grown) (more_tokens s.top tokens (flat more) headers points s.points is.noted);
      order = is.order;
      numbers = is.numbers;
      count = is.count;
    }

-- A subtree is opened.
pub opened_state : (tokens now : List TokenTree) (headers places_now : List ℕ) (mark : Option ℕ) (points : List Standing) (taken : ℕ) (s : BuilderState)
    (kind : DelimiterKind) (open_span : Span) (place : ℕ)
    → IsStateOf tokens headers mark points taken s → now ≡ tokens ++ open_header kind open_span ∷ [] → length now ≤ 4294967296
    → place ≡ length tokens → places_now ≡ headers ++ place ∷ []
    → IsStateOf now places_now None points taken (opened kind open_span s)
opened_state tokens now headers places_now mark points taken s kind open_span place is grown few here opened =
    let count : length tokens ≡ suc (tokens_held s.stack) = ap length is.list ∙ length-written s.top s.stack in
    let added : places_now ≡ headers ++ length tokens ∷ [] = opened ∙ ap (λ n. headers ++ n ∷ []) here in
    record {
      list = grown ∙ ap (λ l. l ++ open_header kind open_span ∷ []) is.list;
      few = few;
      open_places = added ∙ ap₂ (λ l n. l ++ n ∷ []) is.open_places count;
      marked = tt;
      clear = tt;
      noted =
          subst (λ l. AreNoted s.top l places_now points s.points) (sym grown)
          (subst (λ h. AreNoted s.top (tokens ++ open_header kind open_span ∷ []) h points s.points) (sym added)
          (more_tokens s.top tokens (open_header kind open_span ∷ []) (headers ++ length tokens ∷ []) points s.points
          (more_headers s.top tokens headers points s.points is.noted)));
      order = is.order;
      numbers = is.numbers;
      count = is.count;
    }

-- The same fields, in vectors with other room.
pub same_state : (tokens now : List TokenTree) (headers places_now : List ℕ) (mark : Option ℕ) (points : List Standing) (taken : ℕ) (s : BuilderState)
    → IsStateOf tokens headers mark points taken s → now ≡ tokens → places_now ≡ headers → IsStateOf now places_now mark points taken s
same_state tokens now headers places_now mark points taken s is list opened =
    subst (λ h. IsStateOf now h mark points taken s) (sym opened) (subst (λ l. IsStateOf l headers mark points taken s) (sym list) is)

-- Only the top is held.
pub new_state : (top : Delimiter) (tokens : List TokenTree) (headers : List ℕ) (points : List Standing)
    → tokens ≡ header top 0 ∷ [] → headers ≡ [] → points ≡ [] → IsStateOf tokens headers None points 0 (empty_builder top)
new_state top tokens headers points list none no_points =
    subst (λ p. IsStateOf tokens headers None p 0 (empty_builder top)) (sym no_points)
    (record {
      list = list;
      few = omega (arith, ap length list);
      open_places = none;
      marked = tt;
      clear = tt;
      noted = tt;
      order = tt;
      numbers = tt;
      count = refl;
    })

-- A full list holds as many tokens as a header can count.
pub full : (tokens : List TokenTree) (headers : List ℕ) (mark : Option ℕ) (points : List Standing) (taken : ℕ) (s : BuilderState)
    → IsStateOf tokens headers mark points taken s → 4294967295 < length tokens → 4294967295 < tokens_held s.stack + 1
full tokens headers mark points taken s is many = omega (arith, ap length is.list, length-written s.top s.stack, many)

-- The same fields, in other vectors.
pub same_fields : (tokens now : List TokenTree) (headers places_now : List ℕ) (mark : Option ℕ) (points points_now : List Standing) (taken : ℕ) (s : BuilderState)
    → IsStateOf tokens headers mark points taken s → now ≡ tokens → places_now ≡ headers → points_now ≡ points → IsStateOf now places_now mark points_now taken s
same_fields tokens now headers places_now mark points points_now taken s is list opened kept =
    subst (λ p. IsStateOf now places_now mark p taken s) (sym kept) (same_state tokens now headers places_now mark points taken s is list opened)

-- A list that is cut to its old length is the old list.
pub cut_back : {A : Type 0} (old now cut more : List A) (n : ℕ) → now ≡ old ++ more → n ≡ length old → cut ≡ take n now → cut ≡ old
cut_back old now cut more n grown count is =
    is ∙ ap (take n) grown ∙ take-append-le n old more (omega (arith, count)) ∙ take_all n old (omega (arith, count))

-- If the list has room, the builder has.
pub room : (tokens : List TokenTree) (headers : List ℕ) (mark : Option ℕ) (points : List Standing) (taken : ℕ) (s : BuilderState) (more : ℕ)
    → IsStateOf tokens headers mark points taken s → length tokens + more ≤ 4294967296 → HasRoom more s
room tokens headers mark points taken s more is few = omega (arith, ap length is.list, length-written s.top s.stack, few)
