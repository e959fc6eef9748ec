-- Reads a flat list back into trees, from its end. The trees are unique, so forests and roots have codes, which models need.
use Rattle.std.specs.Prelude.{ℕ, zero, suc, ◌-◌, List, [], ◌∷◌, ◌≡◌, ◌+◌, ◌++◌, length, ◌↔◌, refl, ◌≤◌, drop}
use Rattle.tt_base.specs.declared.token_tree.TokenTree.{TokenTree}
use Rattle.tt_base.specs.Forest.{Forest, end, leaf, node, size, header, flat, join, IsWhole, Root, flat_root, IsOneSubtree}
use Rattle.std.proofs.Common.{ap, ap₂, sym, ◌∙◌, append_assoc, append-nil, length-append}
use Rattle.std.proofs.Math.Nat.{add-sub_cancel_left}
use Rattle.std.specs.Coded.{Coded, Coded-set, code_by, coded×, coded_list, le_prop}
use mathlib.Core.HLevel.{is_prop→PathP}
use Rattle.tt_base.specs.contracts.delimiter.Delimiter.{the_row as delimiter_row}
use Rattle.tt_base.specs.contracts.token_tree.TokenTree.{the_row as token_row}
use Rattle.tt_base.specs.declared.delimiter.Delimiter.{Delimiter}
use Rattle.tt_base.specs.declared.token_tree.TokenTree.TheVariants as token

-- the first trees with n tokens together
abbrev pub front : ℕ → Forest → Forest
front zero trees = end
front (suc n) end = end
front (suc n) (leaf l rest) = leaf l (front n rest)
front (suc n) (node delimiter children rest) = node delimiter children (front (n - size children) rest)

-- the trees after those
abbrev pub behind : ℕ → Forest → Forest
behind zero trees = trees
behind (suc n) end = end
behind (suc n) (leaf l rest) = behind n rest
behind (suc n) (node delimiter children rest) = behind (n - size children) rest

-- the trees of a flat list; of a list that is not whole, trees with another flat list
abbrev pub unflat : List TokenTree → Forest
unflat [] = end
unflat (token.Leaf l ∷ tokens) = leaf l (unflat tokens)
unflat (token.Subtree s ∷ tokens) = node s.delimiter (front s.len (unflat tokens)) (behind s.len (unflat tokens))

-- The first trees of two lists joined are the first list.
pub front-join : (f g : Forest) → front (size f) (join f g) ≡ f
front-join end g = refl
front-join (leaf l rest) g = ap (leaf l) (front-join rest g)
front-join (node d children rest) g =
    ap (node d children)
    (ap (λ n. front n (join rest g)) (add-sub_cancel_left (size children) (size rest)) ∙ front-join rest g)

-- The trees after them are the second list.
pub behind-join : (f g : Forest) → behind (size f) (join f g) ≡ g
behind-join end g = refl
behind-join (leaf l rest) g = behind-join rest g
behind-join (node d children rest) g =
    ap (λ n. behind n (join rest g)) (add-sub_cancel_left (size children) (size rest)) ∙ behind-join rest g

-- A list of trees joined with none is itself.
pub join-end : (f : Forest) → join f end ≡ f
join-end end = refl
join-end (leaf l rest) = ap (leaf l) (join-end rest)
join-end (node d children rest) = ap (node d children) (join-end rest)

-- The flat list of two lists of trees is their flat lists, one after the other.
pub flat-join : (f g : Forest) → flat (join f g) ≡ flat f ++ flat g
flat-join end g = refl
flat-join (leaf l rest) g = ap (λ tokens. token.Leaf l ∷ tokens) (flat-join rest g)
flat-join (node d children rest) g =
    ap (λ tokens. header d (size children) ∷ tokens)
    (ap (λ tokens. flat children ++ tokens) (flat-join rest g)
    ∙ sym (append_assoc (flat children) (flat rest) (flat g)))

-- A flat list has a token for each leaf and node.
pub length-flat : (f : Forest) → length (flat f) ≡ size f
length-flat end = refl
length-flat (leaf l rest) = ap suc (length-flat rest)
length-flat (node d children rest) =
    ap suc (length-append (flat children) (flat rest) ∙ ap₂ ◌+◌ (length-flat children) (length-flat rest))

-- The trees of a flat list are read back before the tokens after it.
pub unflat-append : (f : Forest) (tokens : List TokenTree) → unflat (flat f ++ tokens) ≡ join f (unflat tokens)
unflat-append end tokens = refl
unflat-append (leaf l rest) tokens = ap (leaf l) (unflat-append rest tokens)
unflat-append (node d children rest) tokens =
    ap (λ trees. node d (front (size children) trees) (behind (size children) trees))
    (ap unflat (append_assoc (flat children) (flat rest) tokens)
    ∙ unflat-append children (flat rest ++ tokens)
    ∙ ap (join children) (unflat-append rest tokens))
    ∙ ap₂ (node d) (front-join children _) (behind-join children _)

-- A flat list is read back as its trees.
pub unflat-flat : (f : Forest) → unflat (flat f) ≡ f
unflat-flat f = ap unflat (sym (append-nil (flat f))) ∙ unflat-append f [] ∙ join-end f

-- Trees with the same flat list are equal.
pub flat-injective : (f g : Forest) → flat f ≡ flat g → f ≡ g
flat-injective f g e = sym (unflat-flat f) ∙ ap unflat e ∙ unflat-flat g

-- A list is whole exactly if the trees read back have that flat list.
pub whole_iff : (tokens : List TokenTree) → IsWhole tokens ↔ (flat (unflat tokens) ≡ tokens)
whole_iff tokens = (
  λ (trees, e). ap (λ l. flat (unflat l)) e ∙ ap flat (unflat-flat trees) ∙ sym e,
  λ e. (unflat tokens, sym e),
)

-- the code of a forest: its flat list
abbrev pub forest_code : Coded Forest
forest_code = code_by (List TokenTree) (coded_list token_row.coded) flat unflat unflat-flat

-- the code of a root: its delimiter and its children
abbrev pub root_code : Coded Root
root_code =
    code_by (Delimiter × Forest) (coded× delimiter_row.coded forest_code) (λ r. (r.delimiter, r.children)) (λ p. record { delimiter = p.0; children = p.1 }) (λ _. refl)

-- the delimiter of the first token, or d
delimiter_at : Delimiter → List TokenTree → Delimiter
delimiter_at d [] = d
delimiter_at d (token.Leaf l ∷ tokens) = d
delimiter_at d (token.Subtree s ∷ tokens) = s.delimiter

-- Roots with the same flat list are equal.
pub flat_root-injective : (a b : Root) → flat_root a ≡ flat_root b → a ≡ b
unfolding delimiter_at
flat_root-injective a b e =
    λ i. record { delimiter = ap (delimiter_at a.delimiter) e i; children = flat-injective a.children b.children (ap (drop 1) e) i }

-- A list has only one root, so this is a proposition, as a ghost field must be.
pub IsOneSubtree-prop : (tokens : List TokenTree) → IsProp (IsOneSubtree tokens)
IsOneSubtree-prop tokens x y =
    let roots : x.0 ≡ y.0 = flat_root-injective x.0 y.0 (sym x.1 ∙ y.1) in
    λ i. (
      roots i,
      is_prop→PathP (λ j. tokens ≡ flat_root (roots j)) (λ j. Coded-set (coded_list token_row.coded) tokens (flat_root (roots j))) x.1 y.1 i,
      is_prop→PathP (λ j. size (roots j).children ≤ 4294967295) (λ j. le_prop) x.2 y.2 i,
    )
