-- Lists as whole lists of given lengths: the tokens to come for each open subtree, innermost first.
use Rattle.std.proofs.Common.{◌≡◌, ◌↔◌, ℕ, zero, suc, ◌+◌, ◌-◌, ◌<◌, ◌≤◌, ◌^◌, List, get_or, add-one, Bool, IsTrue, [], ◌∷◌, ◌++◌, length, drop, reverse, ap, sym, ◌∙◌, subst, refl, arith, append_assoc, append-nil, true, false}
use Rattle.std.specs.List.{All}
use Rattle.std.proofs.lemmas.List.{drop_all, reverse-append, reverse-reverse}
use Rattle.std.proofs.lemmas.List.Elements.{All-head}
use Rattle.std.proofs.lemmas.List.Sorted.{All-permutation, IsPermutation-reverse}
use Rattle.std.proofs.Math.Seq.{drop-cons}
use Rattle.tt_base.specs.declared.delimiter.Subtree.{Subtree}
use Rattle.tt_base.specs.declared.leaf.Leaf.{Leaf}
use Rattle.tt_base.specs.declared.token_tree.TokenTree.{TokenTree}
use Rattle.tt_base.specs.declared.token_tree.TokenTree.TheVariants as token
use Rattle.tt_base.specs.Forest.{Forest, end, leaf, node, size, header, flat, IsWhole, IsOneSubtree}
use Rattle.tt_base.specs.Unflat.{length-flat}
use Rattle.tt_base.specs.Levels.{GoesBack, Opens, TakesToken}
use Rattle.tt_base.specs.Forest.{AreLevels}

-- One level as long as the list is a whole list.
pub one_level : (tokens : List TokenTree) → AreLevels tokens (length tokens ∷ []) ↔ IsWhole tokens
one_level tokens = (
  λ (trees, rest, cut, sized, none). (trees, cut ∙ ap (λ r. flat trees ++ r) none ∙ append-nil (flat trees)),
  λ (trees, e). (trees, [], e ∙ sym (append-nil (flat trees)), sym (ap length e ∙ length-flat trees), refl),
)

no_tokens : (trees : Forest) → size trees ≡ 0 → flat trees ≡ []
no_tokens end none = refl
no_tokens (leaf l rest) none = absurd (omega arith)
no_tokens (node d children rest) none = absurd (omega arith)

-- A level without tokens to come is done.
pub done_level : (tokens : List TokenTree) (ns : List ℕ) → AreLevels tokens (0 ∷ ns) ↔ AreLevels tokens ns
done_level tokens ns = (
  λ (trees, rest, cut, none, more). subst (λ l. AreLevels l ns) (sym (cut ∙ ap (λ l. l ++ rest) (no_tokens trees none))) more,
  λ more. (end, tokens, refl, refl, more),
)

-- The same for a level around another.
pub done_outer : (tokens : List TokenTree) (n : ℕ) (ns : List ℕ) → AreLevels tokens (n ∷ 0 ∷ ns) ↔ AreLevels tokens (n ∷ ns)
done_outer tokens n ns = (
  λ (trees, rest, cut, sized, more). (trees, rest, cut, sized, (done_level rest ns).0 more),
  λ (trees, rest, cut, sized, more). (trees, rest, cut, sized, (done_level rest ns).1 more),
)

-- A leaf is one token of the innermost level.
pub leaf_level : (l : Leaf) (tokens : List TokenTree) (n : ℕ) (ns : List ℕ) → AreLevels (token.Leaf l ∷ tokens) (suc n ∷ ns) ↔ AreLevels tokens (n ∷ ns)
leaf_level l tokens n ns = (λ (trees, rest, cut, sized, more). without trees rest cut sized more, λ (trees, rest, cut, sized, more). (leaf l trees, rest, ap (λ t. token.Leaf l ∷ t) cut, ap suc sized, more))
  where
    without : (trees : Forest) (rest : List TokenTree) → token.Leaf l ∷ tokens ≡ flat trees ++ rest → size trees ≡ suc n → AreLevels rest ns → AreLevels tokens (n ∷ ns)
    without end rest cut sized more = absurd (omega arith)
    without (leaf k trees) rest cut sized more = (trees, rest, ap (drop 1) cut, omega arith, more)
    without (node d children trees) rest cut sized more = cc

-- A header opens a level in the innermost one.
pub node_level : (s : Subtree) (tokens : List TokenTree) (n : ℕ) (ns : List ℕ) → s.len ≤ n
    → AreLevels (token.Subtree s ∷ tokens) (suc n ∷ ns) ↔ AreLevels tokens (s.len ∷ (n - s.len) ∷ ns)
node_level s tokens n ns fits = (λ (trees, rest, cut, sized, more). without trees rest cut sized more, within)
  where
    without : (trees : Forest) (rest : List TokenTree) → token.Subtree s ∷ tokens ≡ flat trees ++ rest → size trees ≡ suc n → AreLevels rest ns
        → AreLevels tokens (s.len ∷ (n - s.len) ∷ ns)
    without end rest cut sized more = absurd (omega arith)
    without (leaf k trees) rest cut sized more = cc
    without (node d children trees) rest cut sized more =
        let counted : s.len ≡ size children = cc in (
          children,
          flat trees ++ rest,
          ap (drop 1) cut ∙ append_assoc (flat children) (flat trees) rest,
          sym counted,
          (trees, rest, refl, omega (arith, counted, sized), more),
        )

    within : AreLevels tokens (s.len ∷ (n - s.len) ∷ ns) → AreLevels (token.Subtree s ∷ tokens) (suc n ∷ ns)
    within (children, behind, cut, sized, inner) =
        let (trees, rest, cut', sized', more) = inner in (
          node s.delimiter children trees,
          rest,
          ap (λ len. token.Subtree (record { delimiter = s.delimiter; len = len }) ∷ tokens) (sym sized)
              ∙ ap (λ l. token.Subtree (record { delimiter = s.delimiter; len = size children }) ∷ l)
              (cut ∙ ap (λ l. flat children ++ l) cut' ∙ sym (append_assoc (flat children) (flat trees) rest)),
          omega (arith, sized, sized', fits),
          more,
        )

-- A header does not reach past its level.
pub too_long : (s : Subtree) (tokens : List TokenTree) (n : ℕ) (ns : List ℕ) → n < s.len → AreLevels (token.Subtree s ∷ tokens) (suc n ∷ ns) → ⊥
too_long s tokens n ns long (trees, rest, cut, sized, more) = past trees rest cut sized
  where
    past : (trees : Forest) (rest : List TokenTree) → token.Subtree s ∷ tokens ≡ flat trees ++ rest → size trees ≡ suc n → ⊥
    past end rest cut sized = omega arith
    past (leaf k trees) rest cut sized = cc
    past (node d children trees) rest cut sized = let counted : s.len ≡ size children = cc in omega (arith, counted, sized, long)

-- Without tokens, all levels are done.
pub no_level : (n : ℕ) (ns : List ℕ) → All (λ k. 0 < k) ns → AreLevels [] (n ∷ ns) ↔ ((n ≡ 0) × (ns ≡ []))
no_level n ns some = (λ (trees, rest, cut, sized, more). none trees rest cut sized more, λ (zeroed, done). (end, [], refl, sym zeroed, subst (AreLevels []) (sym done) refl))
  where
    nothing : (ms : List ℕ) → All (λ k. 0 < k) ms → AreLevels [] ms → ms ≡ []
    nothing [] some more = refl
    nothing (m ∷ ms) some (trees, rest, cut, sized, more) = absurd (no_room m ms trees rest (All-head (λ k. 0 < k) m ms some) cut sized)
      where
        no_room : (m : ℕ) (ms : List ℕ) (trees : Forest) (rest : List TokenTree) → 0 < m → [] ≡ flat trees ++ rest → size trees ≡ m → ⊥
        no_room m ms end rest positive cut sized = omega arith
        no_room m ms (leaf l trees) rest positive cut sized = cc
        no_room m ms (node d children trees) rest positive cut sized = cc

    none : (trees : Forest) (rest : List TokenTree) → [] ≡ flat trees ++ rest → size trees ≡ n → AreLevels rest ns → (n ≡ 0) × (ns ≡ [])
    none end rest cut sized more = (sym sized, nothing ns some (subst (λ l. AreLevels l ns) (sym cut) more))
    none (leaf l trees) rest cut sized more = cc
    none (node d children trees) rest cut sized more = cc

-- ---- what the calls do

-- No token can follow if no level is open.
pub stuck : (n : ℕ) (outer ns : List ℕ) → n ≤ 0 → outer ≡ [] → GoesBack (n ∷ reverse outer) ns false
stuck n outer ns nothing none token tokens levels =
    let zeroed : n ≡ 0 = omega arith in
    let old : AreLevels (token ∷ tokens) (0 ∷ []) = subst (λ ms. AreLevels (token ∷ tokens) (0 ∷ reverse ms)) none (subst (λ m. AreLevels (token ∷ tokens) (m ∷ reverse outer)) zeroed levels) in
    cc ((done_level (token ∷ tokens) []).0 old)

-- The level around one that is done comes next.
pub went_back : (n after : ℕ) (outer kept : List ℕ) → n ≤ 0 → outer ≡ kept ++ after ∷ [] → GoesBack (n ∷ reverse outer) (after ∷ reverse kept) true
went_back n after outer kept nothing popped tokens =
    let zeroed : n ≡ 0 = omega arith in
    let reversed : reverse outer ≡ after ∷ reverse kept = ap reverse popped ∙ reverse-append kept (after ∷ []) in
    rw (zeroed, reversed) (done_level tokens (after ∷ reverse kept))

-- A level without tokens to come is dropped.
pub opened_last : (n below : ℕ) (ns : List ℕ) → n - 1 - below ≡ 0 → Opens (n ∷ ns) below (below ∷ ns)
opened_last n below ns nothing tokens = rw nothing (done_outer tokens below ns)

-- The rest of a level comes after the one that is opened in it.
pub opened : (n below after : ℕ) (outer kept : List ℕ) → after ≡ n - 1 - below → kept ≡ outer ++ after ∷ [] → Opens (n ∷ reverse outer) below (below ∷ reverse kept)
opened n below after outer kept counted pushed tokens =
    let reversed : reverse kept ≡ after ∷ reverse outer = ap reverse pushed ∙ reverse-append outer (after ∷ []) in
    rw (reversed, counted) (λ levels. levels, λ levels. levels)

-- A leaf fits if a token is to come.
pub takes_leaf : (old ns : List ℕ) (n : ℕ) (l : Leaf) → GoesBack old (n ∷ ns) true → 0 < n → TakesToken old (token.Leaf l) ((n - 1) ∷ ns) true
takes_leaf old ns zero l back room tokens = absurd (omega arith)
takes_leaf old ns (suc n) l back room tokens =
    let same : suc n - 1 ≡ n = omega arith in
    let step = leaf_level l tokens n ns in
    let went = back (token.Leaf l ∷ tokens) in
    rw same (λ levels. step.0 (went.0 levels), λ levels. went.1 (step.1 levels))

-- A header fits if all tokens below it are to come.
pub takes_node : (old ns new : List ℕ) (n : ℕ) (s : Subtree) → GoesBack old (n ∷ ns) true → s.len < n → Opens (n ∷ ns) s.len new → TakesToken old (token.Subtree s) new true
takes_node old ns new zero s back room opens tokens = absurd (omega arith)
takes_node old ns new (suc n) s back room opens tokens =
    let same : suc n - 1 ≡ n = omega arith in
    let fits : s.len ≤ n = omega arith in
    let step = node_level s tokens n ns fits in
    let went = back (token.Subtree s ∷ tokens) in
    let behind = rw same at (opens tokens) in
    (λ levels. behind.0 (step.0 (went.0 levels)), λ levels. went.1 (step.1 (behind.1 levels)))

-- A header does not fit if it has more tokens below it.
pub takes_no_node : (old ns new : List ℕ) (n : ℕ) (s : Subtree) → GoesBack old (n ∷ ns) true → 0 < n → n ≤ s.len → TakesToken old (token.Subtree s) new false
takes_no_node old ns new zero s back room long tokens levels = omega arith
takes_no_node old ns new (suc n) s back room long tokens levels = too_long s tokens n ns (omega arith) ((back (token.Subtree s ∷ tokens)).0 levels)

All-reverse : (P : ℕ → Type 0) (xs : List ℕ) → All P xs → All P (reverse xs)
All-reverse P xs all = All-permutation P xs (reverse xs) (IsPermutation-reverse xs) all

-- No token is to come exactly if the innermost level is done and no level is around it.
pub none_left : (n : ℕ) (outer : List ℕ) → All (λ k. 0 < k) outer → AreLevels [] (n ∷ reverse outer) ↔ ((n ≡ 0) × (outer ≡ []))
none_left n outer some =
    let bare = no_level n (reverse outer) (All-reverse (λ k. 0 < k) outer some) in (
      λ levels. ((bare.0 levels).0, sym (reverse-reverse outer) ∙ ap reverse (bare.0 levels).1),
      λ (zeroed, none). bare.1 (zeroed, ap reverse none),
    )

-- ---- a walk over a list

next_token : (tokens : List TokenTree) (i : ℕ) (d : TokenTree) → i < length tokens → drop i tokens ≡ get_or tokens i d ∷ drop (i + 1) tokens
next_token tokens i d within = rw (add-one, drop-cons tokens i d)

-- After a token that fits, the tokens after it decide.
pub walk_on : (tokens : List TokenTree) (i : ℕ) (t : TokenTree) (old new : List ℕ) → i < length tokens → t ≡ get_or tokens i t
    → IsWhole tokens ↔ AreLevels (drop i tokens) old → TakesToken old t new true → IsWhole tokens ↔ AreLevels (drop (i + 1) tokens) new
walk_on tokens i t old new within is whole takes =
    let cut : drop i tokens ≡ t ∷ drop (i + 1) tokens = next_token tokens i t within ∙ ap (λ x. x ∷ drop (i + 1) tokens) (sym is) in
    let before = rw cut at whole in
    let step = takes (drop (i + 1) tokens) in
    (λ w. step.0 (before.0 w), λ levels. before.1 (step.1 levels))

-- A token that does not fit decides.
pub walk_stops : (tokens : List TokenTree) (i : ℕ) (t : TokenTree) (old new : List ℕ) → i < length tokens → t ≡ get_or tokens i t
    → IsWhole tokens ↔ AreLevels (drop i tokens) old → TakesToken old t new false → IsWhole tokens → ⊥
walk_stops tokens i t old new within is whole takes w =
    let cut : drop i tokens ≡ t ∷ drop (i + 1) tokens = next_token tokens i t within ∙ ap (λ x. x ∷ drop (i + 1) tokens) (sym is) in
    takes (drop (i + 1) tokens) ((rw cut at whole).0 w)

-- At the end the levels decide.
pub walk_ends : (tokens : List TokenTree) (i : ℕ) (levels : List ℕ) (done : Bool) → length tokens ≤ i
    → IsWhole tokens ↔ AreLevels (drop i tokens) levels → IsTrue done ↔ AreLevels [] levels → IsTrue done ↔ IsWhole tokens
walk_ends tokens i levels done ended whole none =
    let rest : drop i tokens ≡ [] = drop_all i tokens ended in
    let before = rw rest at whole in
    (λ yes. before.1 (none.0 yes), λ w. none.1 (before.0 w))

-- A header and tokens are one subtree exactly if the header counts these tokens, and they are whole.
pub one_subtree_iff : (s : Subtree) (below : List TokenTree) → s.len < 2 ^ 32 → IsOneSubtree (token.Subtree s ∷ below) ↔ ((s.len ≡ length below) × IsWhole below)
one_subtree_iff s below fits = (
  λ (root, e, few).
      let counted : s.len ≡ size root.children = cc in
      let tail : below ≡ flat root.children = ap (drop 1) e in
      (counted ∙ sym (ap length tail ∙ length-flat root.children), (root.children, tail)),
  λ (counted, (trees, e)).
      let sized : s.len ≡ size trees = counted ∙ ap length e ∙ length-flat trees in
      (record { delimiter = s.delimiter; children = trees }, ap (λ len. token.Subtree (record { delimiter = s.delimiter; len = len }) ∷ below) sized ∙ ap (λ l. header s.delimiter (size trees) ∷ l) e, omega (arith, sized)),
)
