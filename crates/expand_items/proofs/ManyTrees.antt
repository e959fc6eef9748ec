-- The trees after a number of trees.
use Rattle.std.proofs.Common.{◌≡◌, ◌+◌, ℕ, zero, suc, refl, ap, ◌∙◌, arith}
use Rattle.tt.specs.Forest.{Forest}
use Rattle.tt.specs.Gluing.{after_trees}
use Rattle.tt.specs.Moves.{after_tree}

-- The trees after one more are those after the first of the trees that are left.
pub after_more : (n : ℕ) (trees : Forest) → after_trees (suc n) trees ≡ after_tree (after_trees n trees)
after_more zero trees = refl
after_more (suc n) trees = after_more n (after_tree trees)

-- The trees after `n + m` are those after `m` of the trees that are left.
pub after_both : (n m : ℕ) (trees : Forest) → after_trees (n + m) trees ≡ after_trees m (after_trees n trees)
after_both zero m trees = let none : 0 + m ≡ m = omega arith in ap (λ k. after_trees k trees) none
after_both (suc n) m trees = let one_more : suc n + m ≡ suc (n + m) = omega arith in ap (λ k. after_trees k trees) one_more ∙ after_both n m (after_tree trees)
