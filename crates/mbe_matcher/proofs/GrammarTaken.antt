-- What a fragment of Rust's grammar takes is the grammar's one answer, and at least one tree.
use Rattle.std.proofs.Common.{◌≡◌, ◌-◌, ℕ, suc, true, Some, None, refl, arith}
use Rattle.std.specs.Prelude.{Bool, Option, is_some}
use Rattle.tt.specs.Forest.{Forest, end}
use Rattle.mbe_grammar.specs.Fragments.{ReachesDeep, IsBlock}
use Rattle.mbe_grammar.proofs.FragmentAnswers.{has_deep_answer, one_deep_answer, takes_a_tree_deep, takes_no_end_deep, has_block_answer, one_block_answer}
use Rattle.mbe_pattern.specs.declared.pattern.GrammarFragment.{GrammarFragment}
use Rattle.mbe_matcher.specs.Fragments.{or_one}
use Rattle.mbe_matcher.specs.GrammarReach.{grammar_reach, is_block}

-- It is an answer.
pub reach_holds : (which : GrammarFragment) (trees : Forest) → ReachesDeep which trees (grammar_reach which trees)
unfolding grammar_reach
reach_holds which trees = (has_deep_answer which trees).1

-- And each answer is it.
pub reach_alone : (which : GrammarFragment) (trees : Forest) (count : Option ℕ) → ReachesDeep which trees count → count ≡ grammar_reach which trees
reach_alone which trees count h = one_deep_answer which trees count (grammar_reach which trees) h (reach_holds which trees)

-- It is at least one tree.
pub reach_full : (which : GrammarFragment) (trees : Forest) → or_one (grammar_reach which trees) ≡ suc (or_one (grammar_reach which trees) - 1)
reach_full which trees = by (grammar_reach which trees) (reach_holds which trees)
  where
    by : (count : Option ℕ) → ReachesDeep which trees count → or_one count ≡ suc (or_one count - 1)
    by None h = refl
    by (Some n) h = let full = (takes_a_tree_deep which trees n h).1 in omega (arith, full)

-- If there is no tree, nothing is taken.
pub takes_no_tree : (which : GrammarFragment) → is_some (grammar_reach which end) ≡ true → ⊥
takes_no_tree which is = by (grammar_reach which end) (reach_holds which end) is
  where
    by : (count : Option ℕ) → ReachesDeep which end count → is_some count ≡ true → ⊥
    by None h t = cc t
    by (Some n) h t = takes_no_end_deep which n h

-- Whether trees are the contents of a block is the grammar's one answer.
pub block_alone : (trees : Forest) (answer : Bool) → IsBlock trees answer → answer ≡ is_block trees
unfolding is_block
block_alone trees answer h = let it = has_block_answer trees in one_block_answer trees answer it.0 h it.1
