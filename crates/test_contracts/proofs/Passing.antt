-- The trees of a list that were passed, and those that are left, are the list.
use Rattle.std.proofs.Common.{◌≡◌, Bool, true, false, codes, refl, ap, if◌then◌else◌}
use Rattle.tt.specs.Expectations.{first_leaf_as, as_punct, is_punct_of}
use Rattle.tt.specs.Forest.{Forest, end, leaf, node, join}
use Rattle.tt.specs.Moves.{after_tree}
use Rattle.tt.specs.Siblings.{first_tree}
use Rattle.test_contracts.specs.Commas.{after_comma}

-- the trees are some, and then these
abbrev pub EndsIn : (trees rest : Forest) → Type 0
EndsIn trees rest = (given : Forest) × (trees ≡ join given rest)

-- The first tree, if it is passed.
first_passed : (trees : Forest) → trees ≡ join (first_tree trees) (after_tree trees)
first_passed end = refl
first_passed (leaf it rest) = refl
first_passed (node delimiter children rest) = refl

one_or_none : (passes : Bool) (trees : Forest) → EndsIn trees (if passes then after_tree trees else trees)
one_or_none true trees = (first_tree trees, first_passed trees)
one_or_none false trees = (end, refl)

comma_passed : (trees : Forest) → EndsIn trees (after_comma trees)
comma_passed trees = one_or_none (is_punct_of (codes ",") (first_leaf_as as_punct trees)) trees

-- A tree, and a comma if it follows.
pub item_passed : (trees : Forest) → EndsIn trees (after_comma (after_tree trees))
item_passed end = (end, refl)
item_passed (leaf it rest) = let (given, is) = comma_passed rest in (leaf it given, ap (λ trees. leaf it trees) is)
item_passed (node delimiter children rest) = let (given, is) = comma_passed rest in (node delimiter children given, ap (λ trees. node delimiter children trees) is)
