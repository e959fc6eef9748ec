-- Lists of trees, one after the other.
use Rattle.std.proofs.Common.{◌≡◌, Some, ◌+◌, ◌∷◌, ◌++◌, refl, ap, ap₂, sym, ◌∙◌, arith}
use Rattle.tt_base.specs.Forest.{Forest, Root, end, leaf, node, size, join, only}
use Rattle.tt_base.specs.Moves.{after_tree}
use Rattle.tt_base.specs.Siblings.{tip, branch, list_of, first_tree}
use Rattle.tt_base.specs.OneRoot.{one_root, stripped}
use Rattle.tt_base.specs.Unflat.{front, behind, front-join, behind-join}

-- The number of tokens of both.
pub size-join : (f g : Forest) → size (join f g) ≡ size f + size g
size-join end g = omega arith
size-join (leaf it rest) g = omega (arith, size-join rest g)
size-join (node d children rest) g = omega (arith, size-join rest g)

pub join-assoc : (f g h : Forest) → join (join f g) h ≡ join f (join g h)
join-assoc end g h = refl
join-assoc (leaf it rest) g h = ap (leaf it) (join-assoc rest g h)
join-assoc (node d children rest) g h = ap (node d children) (join-assoc rest g h)

-- The first list is determined by its size.
pub join-unique : (f g x y : Forest) → size f ≡ size g → join f x ≡ join g y → (f ≡ g) × (x ≡ y)
join-unique f g x y s e = (
  sym (front-join f x) ∙ ap₂ front s e ∙ front-join g y,
  sym (behind-join f x) ∙ ap₂ behind s e ∙ behind-join g y,
)

-- The list before the same rest is the same.
pub join-cancel : (f g x : Forest) → join f x ≡ join g x → f ≡ g
join-cancel f g x e = (join-unique f g x x (omega (arith, size-join f x, size-join g x, ap size e)) e).0

-- The trees of two lists.
pub list_of-join : (f g : Forest) → list_of (join f g) ≡ list_of f ++ list_of g
list_of-join end g = refl
list_of-join (leaf it rest) g = ap (λ v. tip it ∷ v) (list_of-join rest g)
list_of-join (node d children rest) g = ap (λ v. branch d children ∷ v) (list_of-join rest g)

-- The first tree, and then the others.
pub tree_by_tree : (f : Forest) → f ≡ join (first_tree f) (after_tree f)
tree_by_tree end = refl
tree_by_tree (leaf it rest) = refl
tree_by_tree (node delimiter children rest) = refl

-- the root of the first tree, or the other if there is none
root_at : (other : Root) → Forest → Root
root_at other end = other
root_at other (leaf it rest) = other
root_at other (node delimiter children rest) = record { delimiter = delimiter; children = children }

-- One node has one root.
pub only-injective : (a b : Root) → only a ≡ only b → a ≡ b
unfolding root_at
only-injective a b e = ap (root_at a) e

-- The root of one subtree is stripped as the list of it is.
pub stripped_of_one : (trees : Forest) (root : Root) → one_root trees ≡ Some root → stripped (only root) ≡ stripped trees
stripped_of_one end root e = cc
stripped_of_one (leaf it rest) root e = cc
stripped_of_one (node delimiter children end) root e =
    let same : record { delimiter = delimiter; children = children } ≡ root = cc in
    ap (λ r. stripped (only r)) (sym same)
stripped_of_one (node delimiter children (leaf it rest)) root e = cc
stripped_of_one (node delimiter children (node other inner rest)) root e = cc
