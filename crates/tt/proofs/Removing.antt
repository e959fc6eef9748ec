-- An invisible header is removed from the list.
use Rattle.std.proofs.Common.{◌≡◌, ℕ, zero, suc, ◌+◌, ◌<◌, ◌≤◌, List, [], ◌∷◌, ◌++◌, length, take, drop, get_or, true, false, cond, Option, Some, None, refl, ap, ap₂, sym, ◌∙◌, subst, arith, length-append, append_assoc}
use Rattle.std.proofs.lemmas.List.{get_or-append-add}
use Rattle.std.proofs.lemmas.List.Edits.{length-remove}
use Rattle.std.proofs.Math.Seq.{take-append-add, drop-append-add}
use Rattle.std.specs.List.{AllByRecursion, remove}
use Rattle.tt_base.specs.declared.delimiter.Delimiter.{Delimiter}
use Rattle.tt_base.specs.declared.token_tree.TokenTree.{TokenTree}
use Rattle.tt_base.specs.declared.token_tree.TokenTree.TheVariants as token
use Rattle.tt_base.specs.Forest.{Forest, end, leaf, node, size, header, flat, join}
use Rattle.tt_base.specs.Unflat.{flat-join, length-flat}
use Rattle.tt.specs.declared.builder.standing.Standing.{Standing}
use Rattle.tt_base.specs.Building.{Stack, lowest, above, innermost, unwrap, unwrap_innermost, Point, BuilderState, removed}
use Rattle.tt.specs.BuilderFields.{written, places, open_header, tokens_before, innermost_start, IsNodeAt, IsMark, AreNoted, IsStateOf, invisible_token}
use Rattle.tt.specs.OneState.{length-written}

-- A list without an item that comes after others.
remove_behind : {A : Type 0} (xs ys : List A) (n : ℕ) → remove (xs ++ ys) (length xs + n) ≡ xs ++ remove ys n
remove_behind xs ys n =
    let next : suc (length xs + n) ≡ length xs + suc n = omega arith in
    ap₂ ◌++◌ (take-append-add xs ys n) (ap (λ i. drop i (xs ++ ys)) next ∙ drop-append-add xs ys (suc n))
    ∙ append_assoc xs (take n ys) (drop (suc n) ys)

-- The first items, if they end before the removed one.
take_before : {A : Type 0} (xs : List A) (n i : ℕ) → n ≤ i → i < length xs → take n (remove xs i) ≡ take n xs
take_before xs zero i le within = refl
take_before [] (suc n) i le within = absurd (omega (arith, within))
take_before (x ∷ xs) (suc n) zero le within = absurd (omega (arith, le))
take_before (x ∷ xs) (suc n) (suc i) le within = ap (λ l. x ∷ l) (take_before xs n i (omega (arith, le)) (omega (arith, within)))

-- The token after the first k trees, in the rest after a node.
token_behind : (children rest : Forest) (h : TokenTree) (m : ℕ) (d : TokenTree) → get_or (h ∷ (flat children ++ flat rest)) (suc (size children + m)) d ≡ get_or (flat rest) m d
token_behind children rest h m d =
    ap (λ n. get_or (flat children ++ flat rest) (n + m) d) (sym (length-flat children)) ∙ get_or-append-add (flat children) (flat rest) m d

-- A marked node has a token.
pub mark_within : (k : ℕ) (trees : Forest) → IsNodeAt k trees → tokens_before k trees < size trees
mark_within k end is = absurd is
mark_within zero (leaf it rest) is = absurd is
mark_within zero (node e children rest) is = omega arith
mark_within (suc k) (leaf it rest) is = omega (arith, mark_within k rest is)
mark_within (suc k) (node e children rest) is = omega (arith, mark_within k rest is)

-- Without an invisible header, its children take the place of its node.
pub header_out : (k : ℕ) (trees : Forest) (d : TokenTree) → IsNodeAt k trees → invisible_token (get_or (flat trees) (tokens_before k trees) d) ≡ true
    → remove (flat trees) (tokens_before k trees) ≡ flat (unwrap k trees)
header_out k end d is e = absurd is
header_out zero (leaf it rest) d is e = absurd is
header_out zero (node x children rest) d is e =
    sym (ap (λ b. flat (cond b (join children rest) (node x children rest))) e ∙ flat-join children rest)
header_out (suc k) (leaf it rest) d is e = ap (λ l. token.Leaf it ∷ l) (header_out k rest d is e)
header_out (suc k) (node x children rest) d is e =
    let there : invisible_token (get_or (flat rest) (tokens_before k rest) d) ≡ true =
    ap invisible_token (sym (token_behind children rest (header x (size children)) (tokens_before k rest) d)) ∙ e in
    ap (λ l. header x (size children) ∷ l)
    (ap (λ n. remove (flat children ++ flat rest) (n + tokens_before k rest)) (sym (length-flat children))
    ∙ remove_behind (flat children) (flat rest) (tokens_before k rest) ∙ ap (λ l. flat children ++ l) (header_out k rest d is there))

-- If the header is not invisible, the trees stay.
pub header_stays : (k : ℕ) (trees : Forest) (d : TokenTree) → IsNodeAt k trees → invisible_token (get_or (flat trees) (tokens_before k trees) d) ≡ false → unwrap k trees ≡ trees
header_stays k end d is e = absurd is
header_stays zero (leaf it rest) d is e = absurd is
header_stays zero (node x children rest) d is e = ap (λ b. cond b (join children rest) (node x children rest)) e
header_stays (suc k) (leaf it rest) d is e = ap (leaf it) (header_stays k rest d is e)
header_stays (suc k) (node x children rest) d is e =
    let there : invisible_token (get_or (flat rest) (tokens_before k rest) d) ≡ false =
    ap invisible_token (sym (token_behind children rest (header x (size children)) (tokens_before k rest) d)) ∙ e in
    ap (node x children) (header_stays k rest d is there)

-- the list before the trees of the innermost level
front_of : Delimiter → Stack → List TokenTree
front_of top (lowest trees) = header top 0 ∷ []
front_of top (above outer kind open_span trees) = written top outer ++ open_header kind open_span ∷ []

-- The list is this, and then those trees.
front_written : (top : Delimiter) (stack : Stack) → written top stack ≡ front_of top stack ++ flat (innermost stack)
unfolding front_of
front_written top (lowest trees) = refl
front_written top (above outer kind open_span trees) = sym (append_assoc (written top outer) (open_header kind open_span ∷ []) (flat trees))

-- The trees begin after it.
front_length : (top : Delimiter) (stack : Stack) → length (front_of top stack) ≡ innermost_start stack
unfolding front_of
front_length top (lowest trees) = refl
front_length top (above outer kind open_span trees) =
    omega (arith, length-append (written top outer) (open_header kind open_span ∷ []), length-written top outer)

-- The list of levels whose innermost one is unwrapped.
unwrap_written : (top : Delimiter) (stack : Stack) (k : ℕ) → written top (unwrap_innermost k stack) ≡ front_of top stack ++ flat (unwrap k (innermost stack))
unfolding front_of
unwrap_written top (lowest trees) k = refl
unwrap_written top (above outer kind open_span trees) k = sym (append_assoc (written top outer) (open_header kind open_span ∷ []) (flat (unwrap k trees)))

-- The same subtrees are open.
unwrap_places : (stack : Stack) (k : ℕ) → places (unwrap_innermost k stack) ≡ places stack
unwrap_places (lowest trees) k = refl
unwrap_places (above outer kind open_span trees) k = refl

-- Nothing is unwrapped.
pub unwrap_none : (stack : Stack) (k : ℕ) → unwrap k (innermost stack) ≡ innermost stack → unwrap_innermost k stack ≡ stack
unwrap_none (lowest trees) k e = ap lowest e
unwrap_none (above outer kind open_span trees) k e = ap (above outer kind open_span) e

-- the number of the marked tree, and its place
pub record Marked (tokens : List TokenTree) (place : ℕ) (s : BuilderState) : Type 0 where
  pub number : ℕ
  pub mark : s.mark ≡ Some number
  pub here : place ≡ innermost_start s.stack + tokens_before number (innermost s.stack)
  pub is_node : IsNodeAt number (innermost s.stack)

-- A marked place is that of a node.
pub marked : (tokens : List TokenTree) (headers : List ℕ) (points : List Standing) (taken : ℕ) (s : BuilderState) (place : ℕ)
    → IsStateOf tokens headers (Some place) points taken s → Marked tokens place s
marked tokens headers points taken s place is = by_mark s.mark refl is.marked
  where
    by_mark : (m : Option ℕ) → s.mark ≡ m → IsMark s.stack (Some place) m → Marked tokens place s
    by_mark None e no_mark = absurd no_mark
    by_mark (Some k) e is_mark = record { number = k; mark = e; here = is_mark.0; is_node = is_mark.1 }

-- It is in the list.
pub marked_within : (tokens : List TokenTree) (headers : List ℕ) (points : List Standing) (taken : ℕ) (s : BuilderState) (place : ℕ)
    → IsStateOf tokens headers (Some place) points taken s → place < length tokens
marked_within tokens headers points taken s place is =
    let m = marked tokens headers points taken s place is in
    omega (
      arith,
      m.here,
      mark_within m.number (innermost s.stack) m.is_node,
      ap length is.list,
      ap length (front_written s.top s.stack),
      length-append (front_of s.top s.stack) (flat (innermost s.stack)),
      front_length s.top s.stack,
      length-flat (innermost s.stack),
    )

-- the token at the marked place
pub marked_token : (tokens : List TokenTree) (headers : List ℕ) (points : List Standing) (taken : ℕ) (s : BuilderState) (place : ℕ) (d : TokenTree) (is : IsStateOf tokens headers (Some place) points taken s)
    → get_or tokens place d ≡ get_or (flat (innermost s.stack)) (tokens_before (marked tokens headers points taken s place is).number (innermost s.stack)) d
marked_token tokens headers points taken s place d is =
    let m = marked tokens headers points taken s place is in
    ap₂ (λ l i. get_or l i d) (is.list ∙ front_written s.top s.stack) (m.here ∙ ap (λ n. n + tokens_before m.number (innermost s.stack)) (sym (front_length s.top s.stack)))
    ∙ get_or-append-add (front_of s.top s.stack) (flat (innermost s.stack)) (tokens_before m.number (innermost s.stack)) d

-- The points stay valid without a token after them.
fewer_tokens : (top : Delimiter) (tokens : List TokenTree) (headers : List ℕ) (place : ℕ) (kept : List Standing) (points : List Point) → place < length tokens
    → AllByRecursion (λ k. k.tokens ≤ place) kept → AreNoted top tokens headers kept points → AreNoted top (remove tokens place) headers kept points
fewer_tokens top tokens headers place [] [] within clear are = tt
fewer_tokens top tokens headers place [] (p ∷ points) within clear are = absurd are
fewer_tokens top tokens headers place (k ∷ kept) [] within clear are = absurd are
fewer_tokens top tokens headers place (k ∷ kept) (p ∷ points) within clear are = (
  record {
    numbered = are.0.numbered;
    held = take_before tokens k.tokens place clear.0 within ∙ are.0.held;
    reaches = omega (arith, clear.0, within, length-remove tokens place within);
    opened = are.0.opened;
    counts = are.0.counts;
    behind = are.0.behind;
  },
  fewer_tokens top tokens headers place kept points within clear.1 are.1,
)

-- The marked subtree is invisible, and its header is removed.
pub removed_state : (tokens now : List TokenTree) (headers : List ℕ) (points : List Standing) (taken : ℕ) (s : BuilderState) (place : ℕ) (d : TokenTree)
    → IsStateOf tokens headers (Some place) points taken s → now ≡ remove tokens place → invisible_token (get_or tokens place d) ≡ true
    → IsStateOf now headers None points taken (removed s)
removed_state tokens now headers points taken s place d is out invisible =
    let m = marked tokens headers points taken s place is in
    let within = marked_within tokens headers points taken s place is in
    let there : invisible_token (get_or (flat (innermost s.stack)) (tokens_before m.number (innermost s.stack)) d) ≡ true =
    ap invisible_token (sym (marked_token tokens headers points taken s place d is)) ∙ invisible in
    let list : now ≡ written s.top (unwrap_innermost m.number s.stack) =
    out ∙ ap₂ remove (is.list ∙ front_written s.top s.stack) (m.here ∙ ap (λ n. n + tokens_before m.number (innermost s.stack)) (sym (front_length s.top s.stack)))
    ∙ remove_behind (front_of s.top s.stack) (flat (innermost s.stack)) (tokens_before m.number (innermost s.stack))
    ∙ ap (λ l. front_of s.top s.stack ++ l) (header_out m.number (innermost s.stack) d m.is_node there)
    ∙ sym (unwrap_written s.top s.stack m.number) in
    rw m.mark
    (record {
      list = list;
      few = omega (arith, is.few, ap length out, length-remove tokens place within);
      open_places = is.open_places ∙ sym (unwrap_places s.stack m.number);
      marked = tt;
      clear = tt;
      noted = subst (λ l. AreNoted s.top l headers points s.points) (sym out) (fewer_tokens s.top tokens headers place points s.points within is.clear is.noted);
      order = is.order;
      numbers = is.numbers;
      count = is.count;
    })

-- The marked subtree is not invisible, and only the mark is cleared.
pub mark_gone : (tokens : List TokenTree) (headers : List ℕ) (points : List Standing) (taken : ℕ) (s : BuilderState) (place : ℕ) (d : TokenTree)
    → IsStateOf tokens headers (Some place) points taken s → invisible_token (get_or tokens place d) ≡ false
    → IsStateOf tokens headers None points taken (removed s)
mark_gone tokens headers points taken s place d is visible =
    let m = marked tokens headers points taken s place is in
    let there : invisible_token (get_or (flat (innermost s.stack)) (tokens_before m.number (innermost s.stack)) d) ≡ false =
    ap invisible_token (sym (marked_token tokens headers points taken s place d is)) ∙ visible in
    let same : unwrap_innermost m.number s.stack ≡ s.stack = unwrap_none s.stack m.number (header_stays m.number (innermost s.stack) d m.is_node there) in
    rw m.mark
    (record {
      list = is.list ∙ ap (written s.top) (sym same);
      few = is.few;
      open_places = is.open_places ∙ sym (unwrap_places s.stack m.number);
      marked = tt;
      clear = tt;
      noted = is.noted;
      order = is.order;
      numbers = is.numbers;
      count = is.count;
    })
