-- A callback that answers from a list of actions: its answers rewrite trees as the list does.
use Rattle.std.proofs.Common.{◌≡◌, ◌⊎◌, inl, inr, List, [], ◌∷◌, ◌++◌, Some, map, drop, append-nil, append_assoc, refl, ap, ap₂, sym, ◌∙◌, subst}
use Rattle.tt.specs.Asked.{AsksAll}
use Rattle.tt.specs.Forest.{Forest, Root, end, leaf, node, join, only}
use Rattle.tt.specs.OneRoot.{one_root}
use Rattle.tt.specs.Rewrites.{action_of, Rewrites, IsResultFault, IsRewriteFault}
use Rattle.tt.specs.Rewriting.{Action as TreeAction, keep, replace, rewrite, shown}
use Rattle.tt.specs.declared.transform.TransformTtAction.{TransformTtAction}
use Rattle.tt_base.specs.declared.delimiter.Delimiter.{Delimiter}
use Rattle.tt_base.specs.declared.fault.TtFault.{TtFault}
use Rattle.tt_base.specs.declared.fault.TtFault.TheVariants.{Memory}
use Rattle.tt_base.specs.declared.leaf.Leaf.{Leaf}
use Rattle.tt_base.specs.declared.token_tree.TokenTree.{TokenTree}
use Rattle.app_language.specs.declared.command.action.Action.{Action}
use Rattle.app_console.specs.Editing.{action_in, next_action, rewritten_by}
use Rattle.app_console.specs.State.{State}

-- the first action; without one, the token is kept
abbrev pub first_action : List TreeAction → TreeAction
first_action [] = keep
first_action (it ∷ more) = it

-- Without actions left, all tokens are kept.
keeps_all : (trees : Forest) → rewrite trees [] ≡ (trees, [])
keeps_all end = refl
keeps_all (leaf it rest) = refl
keeps_all (node d children rest) = refl

-- A list is its first action and the others; behind the list all tokens are kept.
leaf_first : (it : Leaf) (rest : Forest) (actions : List TreeAction) → rewrite (leaf it rest) actions ≡ rewrite (leaf it rest) (first_action actions ∷ drop 1 actions)
leaf_first it rest [] = ap (λ after. (leaf it after.0, after.1)) (sym (keeps_all rest))
leaf_first it rest (first ∷ actions) = refl

node_first : (d : Delimiter) (children rest : Forest) (actions : List TreeAction)
    → rewrite (node d children rest) actions ≡ rewrite (node d children rest) (first_action actions ∷ drop 1 actions)
node_first d children rest [] =
    ap (λ after. (node d children after.0, after.1)) (sym (keeps_all rest))
    ∙ ap (λ inside. (node d inside.0 (rewrite rest inside.1).0, (rewrite rest inside.1).1)) (sym (keeps_all children))
node_first d children rest (first ∷ actions) = refl

-- One action decides about a leaf; the other actions decide about the trees behind it.
leaf_behind : (it : Leaf) (rest : Forest) (action : TreeAction) (actions : List TreeAction) → (rewrite (leaf it rest) (action ∷ actions)).1 ≡ (rewrite rest actions).1
leaf_behind it rest keep actions = refl
leaf_behind it rest (replace trees) actions = refl

leaf_same : (it : Leaf) (rest : Forest) (action : TreeAction) (actions others : List TreeAction) → (rewrite rest actions).0 ≡ (rewrite rest others).0
    → (rewrite (leaf it rest) (action ∷ actions)).0 ≡ (rewrite (leaf it rest) (action ∷ others)).0
leaf_same it rest keep actions others same = ap (leaf it) same
leaf_same it rest (replace trees) actions others same = ap (join trees) same

-- in each state it answers the next of these actions, and the others are left
module _ {F A : Type 0} (call : F → TokenTree → A → F → Type 0) (does : A → TreeAction) (left : F → List TreeAction)
    (by : (p : F) (x : TokenTree) (y : A) (q : F) → call p x y q → (does y ≡ first_action (left p)) × (left q ≡ drop 1 (left p))) where
  -- the trees were rewritten as by what is left in this state, and the callback goes on with the other tokens
  record Follows (p : F) (trees : Forest) (actions : List TreeAction) (tokens : List TokenTree) (q : F) : Type 0 where
    mid : F
    others : List A
    same : (rewrite trees actions).0 ≡ (rewrite trees (left p)).0
    behind : left mid ≡ (rewrite trees (left p)).1
    rest : (rewrite trees actions).1 ≡ map does others
    asked : AsksAll call mid tokens others q

  abbrev Following : Forest → Type 0
  Following trees = (p : F) (tokens : List TokenTree) (answers : List A) (q : F) → AsksAll call p (shown trees (map does answers) ++ tokens) answers q
      → Follows p trees (map does answers) tokens q

  follows_leaf : (it : Leaf) (rest : Forest) → Following rest → Following (leaf it rest)
  follows_leaf it rest go p tokens [] q asked = absurd asked
  follows_leaf it rest go p tokens (y ∷ answers) q (between, called, asked) =
      let reported = by p _ y between called in
      let after = go between tokens answers q asked in
      let step : rewrite (leaf it rest) (does y ∷ left between) ≡ rewrite (leaf it rest) (left p) =
      ap₂ (λ a l. rewrite (leaf it rest) (a ∷ l)) reported.0 reported.1 ∙ sym (leaf_first it rest (left p)) in
      record {
        mid = after.mid;
        others = after.others;
        same = leaf_same it rest (does y) (map does answers) (left between) after.same ∙ ap (λ r. r.0) step;
        behind = after.behind ∙ sym (leaf_behind it rest (does y) (left between)) ∙ ap (λ r. r.1) step;
        rest = leaf_behind it rest (does y) (map does answers) ∙ after.rest;
        asked = after.asked;
      }

  follows_node : (d : Delimiter) (children rest : Forest) → Following children → Following rest → (action : TreeAction) (p : F) (tokens : List TokenTree) (y : A) (answers : List A) (q : F)
      → does y ≡ action → AsksAll call p (shown (node d children rest) (action ∷ map does answers) ++ tokens) (y ∷ answers) q
      → Follows p (node d children rest) (action ∷ map does answers) tokens q
  follows_node d children rest inner outer keep p tokens y answers q is (between, called, asked) =
      let reported = by p _ y between called in
      let actions = map does answers in
      let step : rewrite (node d children rest) (keep ∷ left between) ≡ rewrite (node d children rest) (left p) =
      ap₂ (λ a l. rewrite (node d children rest) (a ∷ l)) (sym is ∙ reported.0) reported.1 ∙ sym (node_first d children rest (left p)) in
      let inside = inner between (shown rest (rewrite children actions).1 ++ tokens) answers q
      (subst (λ all. AsksAll call between all answers q) (append_assoc (shown children actions) (shown rest (rewrite children actions).1) tokens) asked) in
      let after = outer inside.mid tokens inside.others q (subst (λ l. AsksAll call inside.mid (shown rest l ++ tokens) inside.others q) inside.rest inside.asked) in
      let behind_same : (rewrite rest (rewrite children actions).1).0 ≡ (rewrite rest (rewrite children (left between)).1).0 =
      ap (λ l. (rewrite rest l).0) inside.rest ∙ after.same ∙ ap (λ l. (rewrite rest l).0) inside.behind in
      record {
        mid = after.mid;
        others = after.others;
        same = ap₂ (node d) inside.same behind_same ∙ ap (λ r. r.0) step;
        behind = after.behind ∙ ap (λ l. (rewrite rest l).1) inside.behind ∙ ap (λ r. r.1) step;
        rest = ap (λ l. (rewrite rest l).1) inside.rest ∙ after.rest;
        asked = after.asked;
      }
  follows_node d children rest inner outer (replace trees) p tokens y answers q is (between, called, asked) =
      let reported = by p _ y between called in
      let step : rewrite (node d children rest) (replace trees ∷ left between) ≡ rewrite (node d children rest) (left p) =
      ap₂ (λ a l. rewrite (node d children rest) (a ∷ l)) (sym is ∙ reported.0) reported.1 ∙ sym (node_first d children rest (left p)) in
      let after = outer between tokens answers q asked in
      record {
        mid = after.mid;
        others = after.others;
        same = ap (join trees) after.same ∙ ap (λ r. r.0) step;
        behind = after.behind ∙ ap (λ r. r.1) step;
        rest = after.rest;
        asked = after.asked;
      }

  follows : (trees : Forest) → Following trees
  follows end p tokens answers q asked = record { mid = p; others = answers; same = refl; behind = refl; rest = refl; asked = asked }
  follows (leaf it rest) p tokens answers q asked = follows_leaf it rest (follows rest) p tokens answers q asked
  follows (node d children rest) p tokens [] q asked = absurd asked
  follows (node d children rest) p tokens (y ∷ answers) q asked =
      follows_node d children rest (follows children) (follows rest) (does y) p tokens y answers q refl asked

  -- So all trees are rewritten as by the list.
  pub rewritten_same : (trees : Forest) (p : F) (answers : List A) (q : F) → AsksAll call p (shown trees (map does answers)) answers q
      → (rewrite trees (map does answers)).0 ≡ (rewrite trees (left p)).0
  rewritten_same trees p answers q asked =
      (follows trees p [] answers q (subst (λ all. AsksAll call p all answers q) (sym (append-nil (shown trees (map does answers)))) asked)).same

-- The resulting tree is the one that the list makes.
pub rewritten_is : {F : Type 0} (call : F → TokenTree → TransformTtAction → F → Type 0) (left : F → List TreeAction)
    → ((p : F) (x : TokenTree) (y : TransformTtAction) (q : F) → call p x y q → (action_of y ≡ first_action (left p)) × (left q ≡ drop 1 (left p)))
    → (first : F) (root tree : Root) → Rewrites call first (only root) (only tree) → one_root (rewrite (only root) (left first)).0 ≡ Some tree
rewritten_is call left by first root tree reported =
    ap one_root (sym (reported.gives ∙ rewritten_same call action_of left by (only root) first reported.answers reported.last reported.asked))

-- And the fault, if there is none, is one of what the list makes.
pub rewritten_refused : {F : Type 0} (call : F → TokenTree → TransformTtAction → F → Type 0) (left : F → List TreeAction)
    → ((p : F) (x : TokenTree) (y : TransformTtAction) (q : F) → call p x y q → (action_of y ≡ first_action (left p)) × (left q ≡ drop 1 (left p)))
    → (first : F) (root : Root) (fault : TtFault) → IsRewriteFault call first root fault
    → (fault ≡ Memory) ⊎ IsResultFault (rewrite (only root) (left first)).0 fault
rewritten_refused call left by first root fault (inl memory) = inl memory
rewritten_refused call left by first root fault (inr (result, reported, why)) =
    inr (subst (λ trees. IsResultFault trees fault) (reported.gives ∙ rewritten_same call action_of left by (only root) first reported.answers reported.last reported.asked) why)

next_first : (state : State) (actions : List Action) → next_action state actions ≡ first_action (map (action_in state) actions)
next_first state [] = refl
next_first state (it ∷ more) = refl

drop_mapped : (state : State) (actions : List Action) → map (action_in state) (drop 1 actions) ≡ drop 1 (map (action_in state) actions)
drop_mapped state [] = refl
drop_mapped state (it ∷ more) = refl

-- The same if the callback holds a state of the machine and the actions that are left.
module _ {F : Type 0} (call : F → TokenTree → TransformTtAction → F → Type 0) (state : F → State) (left : F → List Action)
    (by : (p : F) (x : TokenTree) (y : TransformTtAction) (q : F) → call p x y q → (action_of y ≡ next_action (state p) (left p)) × (left q ≡ drop 1 (left p)) × (state q ≡ state p)) where
  abbrev listed : F → List TreeAction
  listed p = map (action_in (state p)) (left p)

  by_list : (p : F) (x : TokenTree) (y : TransformTtAction) (q : F) → call p x y q → (action_of y ≡ first_action (listed p)) × (listed q ≡ drop 1 (listed p))
  by_list p x y q called =
      let reported = by p x y q called in
      (reported.0 ∙ next_first (state p) (left p), ap₂ (λ s l. map (action_in s) l) reported.2 reported.1 ∙ drop_mapped (state p) (left p))

  pub actions_are : (first : F) (root tree : Root) → Rewrites call first (only root) (only tree) → one_root (rewritten_by (state first) (left first) root) ≡ Some tree
  actions_are first root tree reported = rewritten_is call listed by_list first root tree reported

  pub actions_refused : (first : F) (root : Root) (fault : TtFault) → IsRewriteFault call first root fault
      → (fault ≡ Memory) ⊎ IsResultFault (rewritten_by (state first) (left first) root) fault
  actions_refused first root fault why = rewritten_refused call listed by_list first root fault why
