-- How an action changes the state of a rewriting.
use Rattle.std.proofs.Common.{◌≡◌, ℕ, suc, ◌+◌, ◌<◌, ◌≤◌, inl, inr, List, [], ◌∷◌, ◌++◌, length, sum_by, Some, refl, ap, ap₂, sym, ◌∙◌, subst, arith, length-append, append_assoc}
use Rattle.std.proofs.lemmas.List.Sums.{sum_by_push}
use Rattle.tt_base.specs.declared.delimiter.Delimiter.{Delimiter}
use Rattle.tt_base.specs.declared.token_tree.TokenTree.{TokenTree}
use Rattle.tt_base.specs.declared.token_tree.TokenTree.TheVariants as token
use Rattle.tt_base.specs.Forest.{Forest, Root, end, leaf, node, only, size, header, flat, join}
use Rattle.tt_base.specs.Unflat.{join-end, flat-join, length-flat}
use Rattle.tt_base.specs.Moves.{first_token, after_tree}
use Rattle.tt_base.specs.OneRoot.{one_root}
use Rattle.tt_base.specs.Rewriting.{Action, keep, replace, rewrite, shown}
use Rattle.tt_base.specs.Siblings.{children_of}
use Rattle.tt_base.proofs.Joins.{size-join, join-assoc}
use Rattle.tt.specs.Work.{Work, lowest, above, given, rest_of, with_rest, taken, kept, done, finish_with, finish, to_show, written, places_of, rests_of, to_come, IsTaken, IsOfOne, IsTooLarge, ComesTooLarge, ComesToSame}

-- ---- written trees

-- Trees that are written now come before later ones.
pub given_first : (work : Work) (trees more : Forest) (actions : List Action) → finish_with (given trees work) more actions ≡ finish_with work (join trees more) actions
given_first (lowest out rest) trees more actions =
    join-assoc out trees (join more (rewrite rest actions).0) ∙ ap (join out) (sym (join-assoc trees more (rewrite rest actions).0))
given_first (above outer d n out rest) trees more actions =
    ap (λ inside. finish_with outer (node d inside end) (rewrite rest actions).1)
    (join-assoc out trees (join more (rewrite rest actions).0) ∙ ap (join out) (sym (join-assoc trees more (rewrite rest actions).0)))

-- An action for the next token leads to the same result.
pub acted_result : (action : Action) (work : Work) (it : TokenTree) (actions : List Action) → first_token (rest_of work) ≡ Some it
    → finish work (action ∷ actions) ≡ finish (done action it (children_of (rest_of work)) (taken work)) actions
acted_result action (lowest out end) it actions e = cc e
acted_result action (above outer d n out end) it actions e = cc e
acted_result keep (lowest out (leaf l rest)) it actions e =
    let same : token.Leaf l ≡ it = cc e in
    sym (join-assoc out (leaf l end) (rewrite rest actions).0) ∙ ap (λ t. finish (kept t end (lowest out rest)) actions) same
acted_result keep (lowest out (node x children rest)) it actions e =
    let same : header x (size children) ≡ it = cc e in
    ap (λ t. finish (kept t children (lowest out rest)) actions) same
acted_result keep (above outer d n out (leaf l rest)) it actions e =
    let same : token.Leaf l ≡ it = cc e in
    ap (λ inside. finish_with outer (node d inside end) (rewrite rest actions).1) (sym (join-assoc out (leaf l end) (rewrite rest actions).0))
    ∙ ap (λ t. finish (kept t end (above outer d n out rest)) actions) same
acted_result keep (above outer d n out (node x children rest)) it actions e =
    let same : header x (size children) ≡ it = cc e in
    ap (λ t. finish (kept t children (above outer d n out rest)) actions) same
acted_result (replace trees) (lowest out (leaf l rest)) it actions e = sym (join-assoc out trees (rewrite rest actions).0)
acted_result (replace trees) (lowest out (node x children rest)) it actions e = sym (join-assoc out trees (rewrite rest actions).0)
acted_result (replace trees) (above outer d n out (leaf l rest)) it actions e =
    ap (λ inside. finish_with outer (node d inside end) (rewrite rest actions).1) (sym (join-assoc out trees (rewrite rest actions).0))
acted_result (replace trees) (above outer d n out (node x children rest)) it actions e =
    ap (λ inside. finish_with outer (node d inside end) (rewrite rest actions).1) (sym (join-assoc out trees (rewrite rest actions).0))

-- The callback sees the token, and then the others.
pub acted_tokens : (action : Action) (work : Work) (it : TokenTree) (actions : List Action) → first_token (rest_of work) ≡ Some it
    → to_show work (action ∷ actions) ≡ it ∷ to_show (done action it (children_of (rest_of work)) (taken work)) actions
acted_tokens action (lowest out end) it actions e = cc e
acted_tokens action (above outer d n out end) it actions e = cc e
acted_tokens keep (lowest out (leaf l rest)) it actions e =
    let same : token.Leaf l ≡ it = cc e in
    ap (λ t. t ∷ to_show (kept t end (lowest out rest)) actions) same
acted_tokens keep (lowest out (node x children rest)) it actions e =
    let same : header x (size children) ≡ it = cc e in
    ap (λ t. t ∷ to_show (kept t children (lowest out rest)) actions) same
acted_tokens keep (above outer d n out (leaf l rest)) it actions e =
    let same : token.Leaf l ≡ it = cc e in
    ap (λ t. t ∷ to_show (kept t end (above outer d n out rest)) actions) same
acted_tokens keep (above outer d n out (node x children rest)) it actions e =
    let same : header x (size children) ≡ it = cc e in
    ap (λ l. header x (size children) ∷ l) (append_assoc (shown children actions) (shown rest (rewrite children actions).1) (to_show outer (rewrite rest (rewrite children actions).1).1))
    ∙ ap (λ t. t ∷ to_show (kept t children (above outer d n out rest)) actions) same
acted_tokens (replace trees) (lowest out (leaf l rest)) it actions e = let same : token.Leaf l ≡ it = cc e in ap (λ t. t ∷ shown rest actions) same
acted_tokens (replace trees) (lowest out (node x children rest)) it actions e = let same : header x (size children) ≡ it = cc e in ap (λ t. t ∷ shown rest actions) same
acted_tokens (replace trees) (above outer d n out (leaf l rest)) it actions e =
    let same : token.Leaf l ≡ it = cc e in
    ap (λ t. t ∷ (shown rest actions ++ to_show outer (rewrite rest actions).1)) same
acted_tokens (replace trees) (above outer d n out (node x children rest)) it actions e =
    let same : header x (size children) ≡ it = cc e in
    ap (λ t. t ∷ (shown rest actions ++ to_show outer (rewrite rest actions).1)) same

-- ---- trees to read

sum-snoc : (trees : List Forest) (last : Forest) → sum_by size (trees ++ last ∷ []) ≡ sum_by size trees + size last
sum-snoc trees last = sum_by_push size trees last

pub rests_given : (work : Work) (more : Forest) → (rests_of (given more work) ≡ rests_of work) × (rest_of (given more work) ≡ rest_of work)
rests_given (lowest out rest) more = (refl, refl)
rests_given (above outer d n out rest) more = (refl, refl)

pub rests_with : (work : Work) (left : Forest) → (rests_of (with_rest left work) ≡ rests_of work) × (rest_of (with_rest left work) ≡ left)
rests_with (lowest out rest) left = (refl, refl)
rests_with (above outer d n out rest) left = (refl, refl)

come_given : (work : Work) (more : Forest) → to_come (given more work) ≡ to_come work
come_given work more = ap₂ (λ r l. size r + sum_by size l) (rests_given work more).1 (rests_given work more).0

come_taken : (work : Work) → to_come (taken work) ≡ size (after_tree (rest_of work)) + sum_by size (rests_of work)
come_taken work = ap₂ (λ r l. size r + sum_by size l) (rests_with work (after_tree (rest_of work))).1 (rests_with work (after_tree (rest_of work))).0

-- After an action, fewer tokens are left to read.
pub less_to_come : (action : Action) (work : Work) (it : TokenTree) → first_token (rest_of work) ≡ Some it
    → to_come (done action it (children_of (rest_of work)) (taken work)) < to_come work
less_to_come action work it e = by_rest (rest_of work) refl action e
  where
    by_rest : (rest : Forest) → rest_of work ≡ rest → (action : Action) → first_token (rest_of work) ≡ Some it
        → to_come (done action it (children_of (rest_of work)) (taken work)) < to_come work
    by_rest end is action first = cc (is, first)
    by_rest (leaf l rest) is keep first =
        let same : token.Leaf l ≡ it = cc (is, first) in
        subst (λ t. to_come (kept t (children_of (rest_of work)) (taken work)) < to_come work) same
        (omega (arith, come_given (taken work) (leaf l end), come_taken work, ap (λ f. size (after_tree f)) is, ap size is))
    by_rest (node x children rest) is keep first =
        let same : header x (size children) ≡ it = cc (is, first) in
        subst (λ t. to_come (kept t (children_of (rest_of work)) (taken work)) < to_come work) same
        (omega (arith, sum-snoc (rests_of (taken work)) (rest_of (taken work)), come_taken work, ap (λ f. size (after_tree f)) is, ap (λ f. size (children_of f)) is, ap size is))
    by_rest (leaf l rest) is (replace trees) first =
        omega (arith, come_given (taken work) trees, come_taken work, ap (λ f. size (after_tree f)) is, ap size is)
    by_rest (node x children rest) is (replace trees) first =
        omega (arith, come_given (taken work) trees, come_taken work, ap (λ f. size (after_tree f)) is, ap size is)

-- ---- closed nodes

-- A node without trees to read becomes one of the written trees.
pub closed_same : (outer : Work) (d : Delimiter) (n : ℕ) (out : Forest) → ComesToSame (above outer d n out end) (given (node d out end) outer)
closed_same outer d n out =
    record {
      result = λ actions.
          ap (λ inside. finish_with outer (node d inside end) actions) (join-end out) ∙ sym (given_first outer (node d out end) end actions);
      tokens = λ actions. sym (given_shows outer actions);
      left = omega (arith, sum-snoc (rests_of outer) (rest_of outer), come_given outer (node d out end));
    }
  where
    given_shows : (work : Work) (actions : List Action) → to_show (given (node d out end) work) actions ≡ to_show work actions
    given_shows (lowest came rest) actions = refl
    given_shows (above more x m came rest) actions = refl

-- Work with the same result as work with the same result.
pub same_then : (a b c : Work) → ComesToSame a b → ComesToSame b c → ComesToSame a c
same_then a b c x y =
    record {
      result = λ actions. x.result actions ∙ y.result actions;
      tokens = λ actions. x.tokens actions ∙ y.tokens actions;
      left = x.left ∙ y.left;
    }

-- The written trees, and those that are written now, are in the result.
stays_held : (work : Work) (more : Forest) (actions : List Action) → length (written work) + size more ≤ size (finish_with work more actions)
stays_held (lowest out rest) more actions =
    omega (arith, length-flat out, size-join out (join more (rewrite rest actions).0), size-join more (rewrite rest actions).0)
stays_held (above outer d n out rest) more actions =
    let inside = rewrite rest actions in
    omega (
      arith,
      stays_held outer (node d (join out (join more inside.0)) end) inside.1,
      length-append (written outer) (header d n ∷ flat out),
      length-flat out,
      size-join out (join more inside.0),
      size-join more inside.0,
    )

-- the trees are one node
record IsOneNode (trees : Forest) : Type 0 where
  root : Root
  is : trees ≡ only root

-- One node is written for one that is entered.
one_comes : (outer : Work) (d : Delimiter) (n : ℕ) (out rest more : Forest) (actions : List Action) → IsTaken outer → IsOneNode (finish_with (above outer d n out rest) more actions)
one_comes (lowest came left) d n out rest more actions (none, ended) =
    let inside = rewrite rest actions in
    let it = node d (join out (join more inside.0)) end in
    record {
      root = record { delimiter = d; children = join out (join more inside.0) };
      is = ap₂ (λ f g. join f (join it (rewrite g inside.1).0)) none ended;
    }
one_comes (above outer x m came left) d n out rest more actions one =
    let inside = rewrite rest actions in
    one_comes outer x m came left (node d (join out (join more inside.0)) end) inside.1 one

-- If a node without trees to read has too many tokens below it, the result is too large.
pub comes_too_large : (outer : Work) (d : Delimiter) (n : ℕ) (came : Forest) → IsTaken outer → 4294967295 < size came → ComesTooLarge (above outer d n came end)
comes_too_large outer d n came one many actions =
    let it = one_comes outer d n came end end actions one in (
      it.root,
      ap one_root it.is,
      omega (
        arith,
        ap size it.is,
        stays_held (given (node d came end) outer) end actions,
        ap size ((closed_same outer d n came).result actions),
        held outer,
        many,
      ),
    )
  where
    held : (outer : Work) → suc (size came) ≤ length (written (given (node d came end) outer))
    held (lowest out rest) =
        omega (arith, ap length (flat-join out (node d came end)), length-append (flat out) (flat (node d came end)), length-append (flat came) [], length-flat came)
    held (above more x m out rest) =
        omega (
          arith,
          length-append (written more) (header x m ∷ flat (join out (node d came end))),
          ap length (flat-join out (node d came end)),
          length-append (flat out) (flat (node d came end)),
          length-append (flat came) [],
          length-flat came,
        )

-- If the result is too large, so is the same result of other work.
pub large_same : (a b : Work) → ComesToSame a b → ComesTooLarge a → ComesTooLarge b
large_same a b same large actions = subst IsTooLarge (same.result actions) (large actions)

-- ---- the fields

pub written_given : (work : Work) (trees : Forest) → written (given trees work) ≡ written work ++ flat trees
written_given (lowest out rest) trees = flat-join out trees
written_given (above outer d n out rest) trees =
    ap (λ l. written outer ++ header d n ∷ l) (flat-join out trees) ∙ sym (append_assoc (written outer) (header d n ∷ flat out) (flat trees))

pub places_given : (work : Work) (trees : Forest) → places_of (given trees work) ≡ places_of work
places_given (lowest out rest) trees = refl
places_given (above outer d n out rest) trees = refl

pub written_rest : (work : Work) (left : Forest) → (written (with_rest left work) ≡ written work) × (places_of (with_rest left work) ≡ places_of work)
written_rest (lowest out rest) left = (refl, refl)
written_rest (above outer d n out rest) left = (refl, refl)

pub taken_of_one : (work : Work) → IsTaken work → IsOfOne work
taken_of_one (lowest out rest) one = inl one.1
taken_of_one (above outer d n out rest) one = one

pub one_given : (work : Work) (trees : Forest) → IsTaken work → IsOfOne (given trees work)
one_given (lowest out rest) trees one = inl one.1
one_given (above outer d n out rest) trees one = one

-- ---- results that are too large

-- More written trees make the result larger by their tokens.
size_with : (work : Work) (more : Forest) (actions : List Action) → size (finish_with work more actions) ≡ size (finish_with work end actions) + size more
size_with (lowest out rest) more actions =
    omega (
      arith,
      size-join out (join more (rewrite rest actions).0),
      size-join more (rewrite rest actions).0,
      size-join out (rewrite rest actions).0,
    )
size_with (above outer d n out rest) more actions =
    let inside = rewrite rest actions in
    omega (
      arith,
      size_with outer (node d (join out (join more inside.0)) end) inside.1,
      size_with outer (node d (join out (join end inside.0)) end) inside.1,
      size-join out (join more inside.0),
      size-join more inside.0,
      size-join out inside.0,
    )

-- A result that is too large is too large with more trees.
grows : (work : Work) (more : Forest) (actions : List Action) → IsTaken work → IsTooLarge (finish_with work end actions) → IsTooLarge (finish_with work more actions)
grows (lowest out rest) more actions (none, ended) (root, is, many) =
    let nothing : finish_with (lowest out rest) end actions ≡ end = ap₂ (λ f g. join f (rewrite g actions).0) none ended in
    cc (is, ap one_root nothing)
grows (above outer d n out rest) more actions one (root, is, many) =
    let before = one_comes outer d n out rest end actions one in
    let it = one_comes outer d n out rest more actions one in
    let root_is : root ≡ before.root = cc (is, ap one_root before.is) in (
      it.root,
      ap one_root it.is,
      omega (arith, size_with (above outer d n out rest) more actions, ap size it.is, ap size before.is, ap (λ r. size r.children) root_is, many),
    )

pub large_given : (work : Work) (trees : Forest) → IsTaken work → ComesTooLarge work → ComesTooLarge (given trees work)
large_given work trees one large actions =
    subst IsTooLarge (sym (given_first work trees end actions)) (grows work (join trees end) actions one (large actions))

pub large_above : (work : Work) (d : Delimiter) (n : ℕ) (below : Forest) → IsTaken work → ComesTooLarge work → ComesTooLarge (above work d n end below)
large_above work d n below one large actions =
    let inside = rewrite below actions in
    grows work (node d inside.0 end) inside.1 one (large inside.1)

pub large_taken : (work : Work) (it : TokenTree) → first_token (rest_of work) ≡ Some it → ComesTooLarge work → ComesTooLarge (taken work)
large_taken work it first large actions =
    subst IsTooLarge (acted_result (replace end) work it actions first ∙ given_first (taken work) end end actions) (large (replace end ∷ actions))

-- ---- actions

pub one_taken : (work : Work) (it : TokenTree) → first_token (rest_of work) ≡ Some it → IsOfOne work → IsTaken (taken work)
one_taken (lowest out rest) it first (inl none) = cc (first, ap first_token none)
one_taken (lowest out rest) it first (inr both) = both
one_taken (above outer d n out rest) it first one = one
