-- A fragment of Rust's grammar has one answer, and takes at least one tree.
use Rattle.std.proofs.Common.{◌≡◌, inl, inr, ◌<◌, ◌+◌, ℕ, zero, suc, Some, None, refl, sym, subst, ap, arith}
use Rattle.std.specs.Prelude.{◌⊎◌, Option, option_map, Bool, true, false}
use Rattle.tt.specs.Forest.{Forest, end, size}
use Rattle.tt.specs.Gluing.{after_trees}
use Rattle.mbe_grammar.specs.declared.rust_marks.TheConstants.{MARKS}
use Rattle.mbe_grammar.specs.Derivations.{whole}
use Rattle.mbe_grammar.specs.Expressions.{name, Answers}
use Rattle.mbe_grammar.specs.Fragments.{name_of, Reaches, ReachesDeep, IsBlock}
use Rattle.mbe_grammar.specs.Good.{IsGood, may_take_nothing}
use Rattle.mbe_grammar.specs.Names.{start, statements}
use Rattle.mbe_grammar.specs.Parses.{Parses}
use Rattle.mbe_grammar.specs.Positions.{Position, first_position, plain, behind}
use Rattle.mbe_grammar.specs.Rust.{stands}
use Rattle.mbe_grammar.specs.Table.{rust_rules}
use Rattle.mbe_grammar.proofs.Behind.{closed_none}
use Rattle.mbe_grammar.proofs.Laid.{rules_of_answers}
use Rattle.mbe_grammar.proofs.OneAnswer.{one_answer_in}
use Rattle.mbe_grammar.proofs.OneDerivation.{apart, judged, has_deep, one_deep}
use Rattle.mbe_grammar.proofs.Plain.{parses_plain}
use Rattle.mbe_grammar.proofs.Reached.{reached, failed}
use Rattle.mbe_grammar.proofs.RustLaid.{are_laid}
use Rattle.mbe_grammar.proofs.Total.{has, sound}
use Rattle.mbe_pattern.specs.declared.pattern.GrammarFragment.{GrammarFragment}
use Rattle.mbe_pattern.specs.declared.pattern.GrammarFragment.TheVariants as fragment

-- The marks of Rust's table are right, by computation.
pub good : IsGood rust_rules
good = record { marks = MARKS; are_right = refl }

-- By the marks, no fragment takes nothing.
takes_some : (which : GrammarFragment) → may_take_nothing MARKS (start (name_of which)) ≡ false
takes_some fragment.Expr = refl
takes_some fragment.Expr2021 = refl
takes_some fragment.Ty = refl
takes_some fragment.Pat = refl
takes_some fragment.PatParam = refl
takes_some fragment.Path = refl
takes_some fragment.Stmt = refl
takes_some fragment.Item = refl
takes_some fragment.Meta = refl

-- the place where an expression ends that takes that many trees
abbrev place_of : Forest → (count : Option ℕ) → Option Position
place_of trees count = option_map (λ n. behind n (first_position trees)) count

-- An answer of the table's expression is an answer of the fragment.
told : (which : GrammarFragment) (trees : Forest) (answer : Option Position) → Parses false rust_rules (start (name_of which)) (first_position trees) answer
    → (count : Option ℕ) × Reaches which trees count
told which trees None h = (None, failed which trees h)
told which trees (Some to) h = (Some to.passed, reached which trees to h)

-- And vice versa.
parsed : (which : GrammarFragment) (trees : Forest) (count : Option ℕ) → Reaches which trees count
    → Parses false rust_rules (start (name_of which)) (first_position trees) (place_of trees count)
unfolding Answers
parsed which trees count h =
    rules_of_answers false rust_rules stands are_laid (name (name_of which)) (start (name_of which)) (first_position trees) (place_of trees count) refl
    (suc h.0, (place_of trees count, h.1, sym (closed_none 0 (place_of trees count))))

-- Each fragment takes some number of trees, or none.
pub has_answer : (which : GrammarFragment) (trees : Forest) → (count : Option ℕ) × Reaches which trees count
unfolding Parses
has_answer which trees =
    let it = has false rust_rules good (start (name_of which)) (first_position trees) in
    told which trees it.1 (it.0, it.2)

-- Places within the same trees are equal if the same number of trees was passed.
same_count : (trees : Forest) (count other : Option ℕ) → place_of trees count ≡ place_of trees other → count ≡ other
same_count trees None None is = refl
same_count trees None (Some m) is = absurd (cc is)
same_count trees (Some n) None is = absurd (cc is)
same_count trees (Some n) (Some m) is =
    let same : behind n (first_position trees) ≡ behind m (first_position trees) = cc is in
    let passed : 0 + n ≡ 0 + m = ap (λ (p : Position). p.passed) same in
    let counts : n ≡ m = omega (arith, passed) in
    ap Some counts

-- It has no other answer.
pub one_answer : (which : GrammarFragment) (trees : Forest) (count other : Option ℕ) → Reaches which trees count → Reaches which trees other → count ≡ other
unfolding Parses
one_answer which trees count other h k =
    let one = parsed which trees count h in
    let two = parsed which trees other k in
    same_count trees count other
    (one_answer_in false rust_rules one.0 two.0 (start (name_of which)) (first_position trees) (place_of trees count) (place_of trees other) one.1 two.1)

-- What it takes leaves less.
less_left : (which : GrammarFragment) (trees : Forest) (n : ℕ) → Reaches which trees (Some n) → size (after_trees n trees) < size trees
unfolding Parses good
less_left which trees n h =
    let it = parsed which trees (Some n) h in
    (sound false rust_rules good it.0 (start (name_of which)) (first_position trees) (behind n (first_position trees)) it.1).1 (takes_some which)

-- So it takes at least one tree.
pub takes_a_tree : (which : GrammarFragment) (trees : Forest) (n : ℕ) → Reaches which trees (Some n) → (less : ℕ) × (n ≡ suc less)
takes_a_tree which trees zero h = let less = less_left which trees zero h in absurd (omega (arith, less))
takes_a_tree which trees (suc n) h = (n, refl)

-- At the end it takes none.
pub takes_no_end : (which : GrammarFragment) (n : ℕ) → Reaches which end (Some n) → ⊥
takes_no_end which n h = let less = less_left which end n h in absurd (omega (arith, less))

-- If it also looks into subtrees, each fragment takes some number of trees, or none.
pub has_deep_answer : (which : GrammarFragment) (trees : Forest) → (count : Option ℕ) × ReachesDeep which trees count
has_deep_answer which trees = has_deep rust_rules good (start (name_of which)) trees

-- It has no other answer.
pub one_deep_answer : (which : GrammarFragment) (trees : Forest) (count other : Option ℕ) → ReachesDeep which trees count → ReachesDeep which trees other → count ≡ other
one_deep_answer which trees count other h k = one_deep rust_rules (start (name_of which)) trees count other h k

-- What it takes then it also takes without a look into subtrees.
pub shallow : (which : GrammarFragment) (trees : Forest) (n : ℕ) → ReachesDeep which trees (Some n) → Reaches which trees (Some n)
shallow which trees n h =
    subst (λ count. Reaches which trees (Some count)) (sym h.2)
    (reached which trees (plain h.0) (parses_plain rust_rules (start (name_of which)) (first_position trees) (Some h.0) h.1))

-- So it takes as many trees as without, or none.
pub deep_is_shallow : (which : GrammarFragment) (trees : Forest) (deep far : Option ℕ) → ReachesDeep which trees deep → Reaches which trees far → (deep ≡ far) ⊎ (deep ≡ None)
deep_is_shallow which trees None far h k = inr refl
deep_is_shallow which trees (Some n) far h k = inl (one_answer which trees (Some n) far (shallow which trees n h) k)

-- It takes at least one tree, and none at the end.
pub takes_a_tree_deep : (which : GrammarFragment) (trees : Forest) (n : ℕ) → ReachesDeep which trees (Some n) → (less : ℕ) × (n ≡ suc less)
takes_a_tree_deep which trees n h = takes_a_tree which trees n (shallow which trees n h)

pub takes_no_end_deep : (which : GrammarFragment) (n : ℕ) → ReachesDeep which end (Some n) → ⊥
takes_no_end_deep which n h = takes_no_end which n (shallow which end n h)

-- Trees are the contents of a block, or they are not.
pub has_block_answer : (trees : Forest) → (answer : Bool) × IsBlock trees answer
has_block_answer trees = elim (judged rust_rules good (whole (start statements) trees)) [
  | inl it ↦ (true, it)
  | inr it ↦ (false, it)
]

-- Never both.
pub one_block_answer : (trees : Forest) (one other : Bool) → IsBlock trees one → IsBlock trees other → one ≡ other
one_block_answer trees true true h k = refl
one_block_answer trees true false h k = absurd (apart rust_rules (whole (start statements) trees) h.0 k.0 h.1 k.1)
one_block_answer trees false true h k = absurd (apart rust_rules (whole (start statements) trees) k.0 h.0 k.1 h.1)
one_block_answer trees false false h k = refl
