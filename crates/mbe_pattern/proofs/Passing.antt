-- Passes trees one by one, and takes leaves one by one.
use Rattle.std.proofs.Common.{◌≡◌, ◌+◌, ◌-◌, ◌<◌, ◌≤◌, ℕ, zero, suc, List, [], ◌∷◌, ◌++◌, Some, None, refl, ap, sym, ◌∙◌, arith, append_assoc, append-nil}
use Rattle.tt.specs.Expectations.{first_leaf_as, as_leaf}
use Rattle.tt.specs.Forest.{Forest, end, leaf, node, join, size}
use Rattle.tt.specs.Gluing.{after_trees}
use Rattle.tt.specs.Moves.{after_tree}
use Rattle.tt.specs.Types.Leaf.{Leaf}
use Rattle.tt_base.proofs.Joins.{join-cancel}
use Rattle.mbe_pattern.specs.Units.{front_leaves, front_trees}

-- One more tree is passed.
pub pass_next : (count i : ℕ) (trees : Forest) → i < count → after_trees (count - i) trees ≡ after_trees (count - (i + 1)) (after_tree trees)
pass_next count i trees lt =
    let more : count - i ≡ suc (count - (i + 1)) = omega (arith, lt) in
    ap (λ n. after_trees n trees) more

-- All are passed.
pub pass_all : (count i : ℕ) (trees : Forest) → count ≤ i → after_trees (count - i) trees ≡ trees
pass_all count i trees le =
    let none : count - i ≡ 0 = omega (arith, le) in
    ap (λ n. after_trees n trees) none

-- After the end is the end.
pub after_end : (n : ℕ) → after_trees n end ≡ end
after_end zero = refl
after_end (suc n) = after_end n

-- What is left has no more tokens than before.
pub after_less : (n : ℕ) (trees : Forest) → size (after_trees n trees) ≤ size trees
after_less zero trees = omega arith
after_less (suc n) end = after_less n end
after_less (suc n) (leaf it rest) = omega (arith, after_less n rest)
after_less (suc n) (node delimiter children rest) = omega (arith, after_less n rest)

-- A first leaf is the first of those at the front.
front_first : (n : ℕ) (trees : Forest) (it : Leaf) → Some it ≡ first_leaf_as as_leaf trees → front_leaves (suc n) trees ≡ it ∷ front_leaves n (after_tree trees)
front_first n end it is = absurd (cc is)
front_first n (leaf other rest) it is = let same : it ≡ other = cc is in ap (λ l. l ∷ front_leaves n rest) (sym same)
front_first n (node delimiter children rest) it is = absurd (cc is)

-- If the first tree is no leaf, no leaf is at the front.
front_none : (n : ℕ) (trees : Forest) → None ≡ first_leaf_as as_leaf trees → front_leaves n trees ≡ []
front_none zero trees is = refl
front_none (suc n) end is = refl
front_none (suc n) (leaf other rest) is = absurd (cc is)
front_none (suc n) (node delimiter children rest) is = refl

module _ (count i : ℕ) (trees : Forest) (so_far whole : List Leaf) (before : so_far ++ front_leaves (count - i) trees ≡ whole) where
  pub take_next : (it : Leaf) → i < count → Some it ≡ first_leaf_as as_leaf trees → (so_far ++ it ∷ []) ++ front_leaves (count - (i + 1)) (after_tree trees) ≡ whole
  take_next it lt is =
      let more : count - i ≡ suc (count - (i + 1)) = omega (arith, lt) in
      append_assoc so_far (it ∷ []) (front_leaves (count - (i + 1)) (after_tree trees))
      ∙ ap (λ l. so_far ++ l) (sym (ap (λ n. front_leaves n trees) more ∙ front_first (count - (i + 1)) trees it is))
      ∙ before

  pub take_none : None ≡ first_leaf_as as_leaf trees → so_far ≡ whole
  take_none is = sym (append-nil so_far) ∙ ap (λ l. so_far ++ l) (sym (front_none (count - i) trees is)) ∙ before

  pub take_all : count ≤ i → so_far ≡ whole
  take_all le =
      let none : count - i ≡ 0 = omega (arith, le) in
      sym (append-nil so_far) ∙ ap (λ l. so_far ++ l) (sym (ap (λ n. front_leaves n trees) none)) ∙ before

-- That many trees at the front, and then the others.
pub front_joined : (n : ℕ) (trees : Forest) → trees ≡ join (front_trees n trees) (after_trees n trees)
front_joined zero trees = refl
front_joined (suc n) end = sym (after_end n)
front_joined (suc n) (leaf it rest) = ap (leaf it) (front_joined n rest)
front_joined (suc n) (node delimiter children rest) = ap (node delimiter children) (front_joined n rest)

-- The trees before the rest are determined by the rest.
pub front_is : (n : ℕ) (trees given : Forest) → join given (after_trees n trees) ≡ trees → given ≡ front_trees n trees
front_is n trees given is = join-cancel given (front_trees n trees) (after_trees n trees) (is ∙ front_joined n trees)
