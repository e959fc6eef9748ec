-- The place of a token of the flat list: in the first tree, or after it.
use Rattle.std.proofs.Common.{◌≡◌, ℕ, zero, suc, ◌-◌, ◌<◌, ◌≤◌, List, [], ◌∷◌, ◌++◌, length, Some, refl, ap, sym, ◌∙◌, arith}
use Rattle.std.specs.List.{slice_get}
use Rattle.tt_base.specs.declared.token_tree.TokenTree.{TokenTree}
use Rattle.tt_base.specs.Forest.{Forest, end, leaf, node, size, flat}
use Rattle.tt_base.specs.Moves.{first_token, after_tree}
use Rattle.tt_base.specs.Siblings.{children_of}
use Rattle.tt_base.specs.Unflat.{length-flat}

-- A place in the first list.
get_before : (xs ys : List TokenTree) (i : ℕ) → i < length xs → slice_get (xs ++ ys) i ≡ slice_get xs i
get_before [] ys i within = absurd (omega (arith, within))
get_before (x ∷ xs) ys zero within = refl
get_before (x ∷ xs) ys (suc i) within = get_before xs ys i (omega (arith, within))

-- A place after the first list.
get_behind : (xs ys : List TokenTree) (i : ℕ) → length xs ≤ i → slice_get (xs ++ ys) i ≡ slice_get ys (i - length xs)
get_behind [] ys i past = ap (slice_get ys) (omega arith)
get_behind (x ∷ xs) ys zero past = absurd (omega (arith, past))
get_behind (x ∷ xs) ys (suc i) past =
    let same : i - length xs ≡ suc i - suc (length xs) = omega arith in
    get_behind xs ys i (omega (arith, past)) ∙ ap (slice_get ys) same

-- A place among the tokens below the first tree's header.
pub place_inside : (trees : Forest) (t : TokenTree) (place : ℕ) → first_token trees ≡ Some t → (place ≡ 0 → ⊥) → place - 1 < size (children_of trees)
    → slice_get (flat (children_of trees)) (place - 1) ≡ slice_get (flat trees) place
place_inside trees t zero first below within = absurd (below refl)
place_inside end t (suc place) first below within = cc
place_inside (leaf it rest) t (suc place) first below within = absurd (omega (arith, within))
place_inside (node d children rest) t (suc place) first below within =
    let same : suc place - 1 ≡ place = omega arith in
    ap (slice_get (flat children)) same ∙ sym (get_before (flat children) (flat rest) place (omega (arith, within, length-flat children)))

-- A place after the first tree.
pub place_behind : (trees : Forest) (t : TokenTree) (place : ℕ) → first_token trees ≡ Some t → (place ≡ 0 → ⊥) → size (children_of trees) ≤ place - 1
    → slice_get (flat (after_tree trees)) (place - 1 - size (children_of trees)) ≡ slice_get (flat trees) place
place_behind trees t zero first below past = absurd (below refl)
place_behind end t (suc place) first below past = cc
place_behind (leaf it rest) t (suc place) first below past =
    let same : suc place - 1 - 0 ≡ place = omega arith in
    ap (slice_get (flat rest)) same
place_behind (node d children rest) t (suc place) first below past =
    let same : suc place - 1 - size children ≡ place - length (flat children) = omega (arith, length-flat children) in
    ap (slice_get (flat rest)) same ∙ sym (get_behind (flat children) (flat rest) place (omega (arith, past, length-flat children)))
