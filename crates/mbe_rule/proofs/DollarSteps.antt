-- What one more tree does to a walk from `$` to `$`.
use Rattle.std.proofs.Common.{◌≡◌, ◌+◌, ℕ, Bool, true, false, List, [], ◌∷◌, ◌++◌, None, Some, if◌then◌else◌, refl, ap, sym, ◌∙◌, append_assoc}
use Rattle.tt.specs.Forest.{Forest, end, leaf, node, size}
use Rattle.tt.specs.Iters.{rest_of, IsFirstElement}
use Rattle.tt.specs.Moves.{after_tree}
use Rattle.tt.specs.Types.Leaf.{Leaf}
use Rattle.tt.specs.Types.Subtree.{Subtree}
use Rattle.tt.specs.Types.TtElement.TheVariants as element
use Rattle.tt.specs.Types.TtIter.{TtIter}
use Rattle.mbe_rule.specs.DollarsLeft.{behind_in}
use Rattle.mbe_rule.specs.Variables.{is_dollar, behind_dollars}

-- how many tokens are left
abbrev pub tokens_in : List TtIter → ℕ
tokens_in [] = 0
tokens_in (level ∷ outer) = size (rest_of level) + tokens_in outer

-- At the end of a level the outer ones come next.
pub behind_ended : (level : TtIter) (outer : List TtIter) → IsFirstElement (rest_of level) None → behind_in (level ∷ outer) ≡ behind_in outer
behind_ended level outer none = by (rest_of level) none
  where
    by : (trees : Forest) → IsFirstElement trees None → behind_dollars trees ++ behind_in outer ≡ behind_in outer
    by end p = refl
    by (leaf it rest) p = absurd p
    by (node delimiter children rest) p = absurd p

-- A leaf is passed; a `$` is found.
pub behind_leaf : (level next : TtIter) (outer : List TtIter) (found : Leaf)
    → IsFirstElement (rest_of level) (Some (element.Leaf found)) → rest_of next ≡ after_tree (rest_of level)
    → behind_in (level ∷ outer) ≡ (if is_dollar found then rest_of next ∷ behind_in (next ∷ outer) else behind_in (next ∷ outer))
behind_leaf level next outer found first rest =
    by (rest_of level) first
    ∙ ap (λ trees. if is_dollar found then trees ∷ (behind_dollars trees ++ behind_in outer) else (behind_dollars trees ++ behind_in outer)) (sym rest)
  where
    split : (b : Bool) (others : Forest)
        → (if b then others ∷ behind_dollars others else behind_dollars others) ++ behind_in outer
        ≡ (if b then others ∷ (behind_dollars others ++ behind_in outer) else (behind_dollars others ++ behind_in outer))
    split true others = refl
    split false others = refl

    by : (trees : Forest) → IsFirstElement trees (Some (element.Leaf found))
        → behind_dollars trees ++ behind_in outer
        ≡ (if is_dollar found then after_tree trees ∷ (behind_dollars (after_tree trees) ++ behind_in outer) else (behind_dollars (after_tree trees) ++ behind_in outer))
    by end p = absurd p
    by (leaf it others) p =
        split (is_dollar it) others
        ∙ ap (λ l. if is_dollar l then others ∷ (behind_dollars others ++ behind_in outer) else (behind_dollars others ++ behind_in outer)) (sym p)
    by (node delimiter children others) p = absurd p

-- A subtree is entered.
pub behind_subtree : (level next below : TtIter) (outer : List TtIter) (subtree : Subtree)
    → IsFirstElement (rest_of level) (Some (element.Subtree subtree below)) → rest_of next ≡ after_tree (rest_of level)
    → behind_in (level ∷ outer) ≡ behind_in (below ∷ next ∷ outer)
behind_subtree level next below outer subtree first rest =
    by (rest_of level) first ∙ ap (λ trees. behind_dollars (rest_of below) ++ (behind_dollars trees ++ behind_in outer)) (sym rest)
  where
    by : (trees : Forest) → IsFirstElement trees (Some (element.Subtree subtree below))
        → behind_dollars trees ++ behind_in outer ≡ behind_dollars (rest_of below) ++ (behind_dollars (after_tree trees) ++ behind_in outer)
    by end p = absurd p
    by (leaf it others) p = absurd p
    by (node delimiter children others) p =
        append_assoc (behind_dollars children) (behind_dollars others) (behind_in outer)
        ∙ ap (λ held. behind_dollars held ++ (behind_dollars others ++ behind_in outer)) (sym p.2)
