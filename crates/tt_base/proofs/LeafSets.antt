-- A leaf that is set is at its place of the flat list, and the other tokens stay.
use Rattle.std.proofs.Common.{◌≡◌, ℕ, zero, suc, ◌+◌, ◌-◌, ◌<◌, ◌≤◌, ◌⊎◌, inl, inr, ◌∷◌, ◌++◌, List, length, get_or, set, Bool, true, false, cond, nat_lt, refl, ap, ap₂, sym, ◌∙◌, subst, arith}
use Rattle.std.proofs.lemmas.Bool.Decides.{leb_tells}
use Rattle.std.proofs.lemmas.List.{set-append_left, set-append_right, get_or-append-add}
use Rattle.std.proofs.lemmas.Option.{slice_get_within, get_or_from_slice_get}
use Rattle.std.proofs.Math.ListN.{get_or-append}
use Rattle.tt_base.specs.declared.leaf.Leaf.{Leaf}
use Rattle.tt_base.specs.declared.token_tree.TokenTree.{TokenTree}
use Rattle.tt_base.specs.declared.token_tree.TokenTree.TheVariants as token
use Rattle.tt_base.specs.Edits.{with_leaf, leaf_set, HasLeafAt}
use Rattle.tt_base.specs.Forest.{Forest, end, leaf, node, Root, size, header, flat, flat_root}
use Rattle.tt_base.specs.Unflat.{length-flat}

-- There are as many tokens as before.
pub size-with_leaf : (place : ℕ) (it : Leaf) (trees : Forest) → size (with_leaf place it trees) ≡ size trees
size-with_leaf place it end = refl
size-with_leaf zero it (leaf old rest) = refl
size-with_leaf (suc place) it (leaf old rest) = ap suc (size-with_leaf place it rest)
size-with_leaf zero it (node d children rest) = refl
size-with_leaf (suc place) it (node d children rest) = by_test (nat_lt place (size children)) (size-with_leaf place it children) (size-with_leaf (place - size children) it rest)
  where
    by_test : (test : Bool) → size (with_leaf place it children) ≡ size children → size (with_leaf (place - size children) it rest) ≡ size rest
        → size (cond test (node d (with_leaf place it children) rest) (node d children (with_leaf (place - size children) it rest))) ≡ suc (size children + size rest)
    by_test true inside after = ap (λ n. suc (n + size rest)) inside
    by_test false inside after = ap (λ n. suc (size children + n)) after

-- the token is a leaf
abbrev IsLeaf : TokenTree → Type 0
IsLeaf (token.Leaf it) = Unit {0}
IsLeaf (token.Subtree s) = ⊥

flat-with_leaf : (place : ℕ) (it : Leaf) (trees : Forest) → place < size trees → ((d : TokenTree) → IsLeaf (get_or (flat trees) place d))
    → flat (with_leaf place it trees) ≡ set (flat trees) place (token.Leaf it)
flat-with_leaf place it end within is = absurd (omega (arith, within))
flat-with_leaf zero it (leaf old rest) within is = refl
flat-with_leaf (suc place) it (leaf old rest) within is = ap (λ l. token.Leaf old ∷ l) (flat-with_leaf place it rest (omega (arith, within)) is)
flat-with_leaf zero it (node d children rest) within is = absurd (is (token.Leaf it))
flat-with_leaf (suc place) it (node d children rest) within is =
    by_order (leb_tells (suc place) (size children)) (flat-with_leaf place it children) (flat-with_leaf (place - size children) it rest)
  where
    by_order : ((nat_lt place (size children) ≡ true) × (suc place ≤ size children)) ⊎ ((nat_lt place (size children) ≡ false) × (size children < suc place))
        → (place < size children → ((d : TokenTree) → IsLeaf (get_or (flat children) place d)) → flat (with_leaf place it children) ≡ set (flat children) place (token.Leaf it))
        → (place - size children < size rest → ((d : TokenTree) → IsLeaf (get_or (flat rest) (place - size children) d)) → flat (with_leaf (place - size children) it rest) ≡ set (flat rest) (place - size children) (token.Leaf it))
        → flat (with_leaf (suc place) it (node d children rest)) ≡ set (flat (node d children rest)) (suc place) (token.Leaf it)
    by_order (inl x) inside after =
        let low : place < length (flat children) = omega (arith, x.1, length-flat children) in
        let same = inside (omega (arith, x.1)) (λ e. subst IsLeaf (get_or-append (flat children) (flat rest) e place low) (is e)) in
        ap (λ b. flat (cond b (node d (with_leaf place it children) rest) (node d children (with_leaf (place - size children) it rest)))) x.0
        ∙ ap₂ (λ n l. header d n ∷ (l ++ flat rest)) (size-with_leaf place it children) same
        ∙ ap (λ l. header d (size children) ∷ l) (sym (set-append_left (flat children) (flat rest) place (token.Leaf it) low))
    by_order (inr x) inside after =
        let there : length (flat children) + (place - size children) ≡ place = omega (arith, x.1, length-flat children) in
        let same = after (omega (arith, x.1, within))
        (λ e. subst IsLeaf (ap (λ n. get_or (flat children ++ flat rest) n e) (sym there) ∙ get_or-append-add (flat children) (flat rest) (place - size children) e) (is e)) in
        ap (λ b. flat (cond b (node d (with_leaf place it children) rest) (node d children (with_leaf (place - size children) it rest)))) x.0
        ∙ ap (λ l. header d (size children) ∷ (flat children ++ l)) same
        ∙ ap (λ l. header d (size children) ∷ l) (sym (set-append_right (flat children) (flat rest) (size children) place (token.Leaf it) (length-flat children) (omega (arith, x.1))))

leaf_there : (tokens : List TokenTree) (place : ℕ) → HasLeafAt tokens place → (d : TokenTree) → IsLeaf (get_or tokens place d)
leaf_there tokens place (it, at) d = subst IsLeaf (sym (get_or_from_slice_get tokens place (token.Leaf it) d at)) tt

-- A list with another leaf in the place of a leaf is one subtree, that of the new tree.
pub flat-leaf_set : (place : ℕ) (it : Leaf) (root : Root) → HasLeafAt (flat_root root) place → flat_root (leaf_set place it root) ≡ set (flat_root root) place (token.Leaf it)
flat-leaf_set zero it root has = absurd (leaf_there (flat_root root) 0 has (token.Leaf it))
flat-leaf_set (suc place) it root has =
    ap₂ (λ n l. header root.delimiter n ∷ l) (size-with_leaf place it root.children)
    (flat-with_leaf place it root.children (omega (arith, slice_get_within (flat_root root) (suc place) (token.Leaf has.0) has.1, length-flat root.children))
    (leaf_there (flat root.children) place has))

-- The count of the top stays.
pub size-leaf_set : (place : ℕ) (it : Leaf) (root : Root) → size (leaf_set place it root).children ≡ size root.children
size-leaf_set zero it root = refl
size-leaf_set (suc place) it root = size-with_leaf place it root.children
