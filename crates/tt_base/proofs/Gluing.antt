-- Calls for the next operator, one after the other.
use Rattle.std.proofs.Common.{◌≡◌, ◌<◌, ◌≤◌, ◌-◌, ℕ, zero, suc, Bool, true, false, List, [], ◌∷◌, Option, Some, None, length, if◌then◌else◌, refl, ap, sym, ◌∙◌, arith}
use Rattle.std.specs.Prelude.{option_map}
use Rattle.tt_base.specs.declared.leaf.Leaf.TheVariants as leaf_kind
use Rattle.tt_base.specs.declared.punct.Punct.{Punct}
use Rattle.tt_base.specs.Forest.{Forest, end, leaf, node}
use Rattle.tt_base.specs.Gluing.{twos, threes, is_one_of, is_alone, is_joint, first_punct, glued_two, glued_three, glued_behind, glued, after_trees, passed_by, sizes_after, glued_sizes}
use Rattle.tt_base.specs.Moves.{after_tree}
use Rattle.tt_base.specs.Siblings.{is_end, list_of}

either : (b : Bool) (xs ys : List Punct) → 0 < length xs → 0 < length ys → 0 < length (if b then xs else ys)
either true xs ys h k = h
either false xs ys h k = k

two_some : (first second : Punct) → 0 < length (glued_two first second)
two_some first second = either (is_one_of twos (first.char ∷ second.char ∷ [])) (first ∷ second ∷ []) (first ∷ []) (omega arith) (omega arith)

three_some : (first second : Punct) (third : Option Punct) → 0 < length (glued_three first second third)
three_some first second None = two_some first second
three_some first second (Some third) =
    either (is_one_of threes (first.char ∷ second.char ∷ third.char ∷ [])) (first ∷ second ∷ third ∷ []) (glued_two first second) (omega arith) (two_some first second)

behind_some : (first : Punct) (second : Option Punct) (behind : Forest) → 0 < length (glued_behind first second behind)
behind_some first None behind = omega arith
behind_some first (Some second) behind =
    either (is_joint second.spacing) (glued_three first second (first_punct behind)) (glued_two first second) (three_some first second (first_punct behind)) (two_some first second)

-- Each call passes a tree.
pub passes_one : (trees : Forest) → 0 < passed_by (glued trees)
passes_one end = omega arith
passes_one (node delimiter children rest) = omega arith
passes_one (leaf (leaf_kind.Literal it) rest) = omega arith
passes_one (leaf (leaf_kind.Ident it) rest) = omega arith
passes_one (leaf (leaf_kind.Punct it) rest) =
    either (is_alone it.spacing) (it ∷ []) (glued_behind it (first_punct rest) (after_tree rest)) (omega arith) (behind_some it (first_punct rest) (after_tree rest))

after_end : (n : ℕ) → after_trees n end ≡ end
after_end zero = refl
after_end (suc n) = after_end n

-- The sizes after the first n trees.
pub sizes_behind : (n : ℕ) (trees : Forest) → sizes_after n trees ≡ glued_sizes (after_trees n trees)
sizes_behind zero end = refl
sizes_behind zero (leaf it rest) = refl
sizes_behind zero (node delimiter children rest) = refl
sizes_behind (suc n) end = sym (ap glued_sizes (after_end n))
sizes_behind (suc n) (leaf it rest) = sizes_behind n rest
sizes_behind (suc n) (node delimiter children rest) = sizes_behind n rest

-- One call, and then the others.
pub one_call : (trees : Forest) → is_end trees ≡ false
    → glued_sizes trees ≡ option_map length (glued trees) ∷ glued_sizes (after_trees (passed_by (glued trees)) trees)
one_call end more = cc
one_call (node delimiter children rest) more = refl
one_call (leaf it rest) more =
    let n = passed_by (glued (leaf it rest)) in
    let same : suc (n - 1) ≡ n = omega (arith, passes_one (leaf it rest)) in
    ap (λ l. option_map length (glued (leaf it rest)) ∷ l)
    (sizes_behind (n - 1) rest ∙ ap (λ m. glued_sizes (after_trees m (leaf it rest))) same)

no_more : (n : ℕ) (trees : Forest) → length (list_of (after_trees n trees)) ≤ length (list_of trees)
no_more zero trees = omega arith
no_more (suc n) end = no_more n end
no_more (suc n) (leaf it rest) = omega (arith, no_more n rest)
no_more (suc n) (node delimiter children rest) = omega (arith, no_more n rest)

fewer_behind : (n : ℕ) (trees : Forest) → 0 < n → is_end trees ≡ false → length (list_of (after_trees n trees)) < length (list_of trees)
fewer_behind zero trees some more = absurd (omega (arith, some))
fewer_behind (suc n) end some more = cc
fewer_behind (suc n) (leaf it rest) some more = omega (arith, no_more n rest)
fewer_behind (suc n) (node delimiter children rest) some more = omega (arith, no_more n rest)

-- Fewer trees are left after each call.
pub fewer_left : (trees : Forest) → is_end trees ≡ false → length (list_of (after_trees (passed_by (glued trees)) trees)) < length (list_of trees)
fewer_left trees more = fewer_behind (passed_by (glued trees)) trees (passes_one trees) more
