-- How many leaves a token has.
use Rattle.std.proofs.Common.{◌≡◌, ℕ, Bool, true, false, [], ◌∷◌, List, length, Some, refl, cond}
use Rattle.std.specs.Prelude.{◌==◌}
use Rattle.tt.specs.Forest.{Forest, end, leaf, node}
use Rattle.tt.specs.Gluing.{first_punct, is_alone, is_joint, is_one_of, twos, threes, glued_two, glued_three, glued_behind, glued_from}
use Rattle.tt.specs.Types.Leaf.{Leaf}
use Rattle.tt.specs.Types.Leaf.TheVariants as leaf_of
use Rattle.tt.specs.Types.Punct.{Punct}
use Rattle.mbe_pattern.specs.Units.{quote, is_at_ident, unit_from, front_leaves, first_unit}

-- there are that many leaves at the front
abbrev Fits : ℕ → Forest → Type 0
Fits n trees = length (front_leaves n trees) ≡ n

fits_either : (b : Bool) (n m : ℕ) (trees : Forest) → Fits n trees → Fits m trees → Fits (cond b n m) trees
fits_either true n m trees one other = one
fits_either false n m trees one other = other

fits_length : (b : Bool) (xs ys : List Punct) (trees : Forest) → Fits (length xs) trees → Fits (length ys) trees → Fits (length (cond b xs ys)) trees
fits_length true xs ys trees one other = one
fits_length false xs ys trees one other = other

-- Glued puncts are leaves at the front.
glued_fits : (p : Punct) (it : Leaf) (rest : Forest) → Fits (length (glued_from p rest)) (leaf it rest)
glued_fits p it end = fits_length (is_alone p.spacing) (p ∷ []) (p ∷ []) (leaf it end) refl refl
glued_fits p it (leaf (leaf_of.Literal x) rest) = fits_length (is_alone p.spacing) (p ∷ []) (p ∷ []) (leaf it (leaf (leaf_of.Literal x) rest)) refl refl
glued_fits p it (leaf (leaf_of.Ident x) rest) = fits_length (is_alone p.spacing) (p ∷ []) (p ∷ []) (leaf it (leaf (leaf_of.Ident x) rest)) refl refl
glued_fits p it (node delimiter children rest) = fits_length (is_alone p.spacing) (p ∷ []) (p ∷ []) (leaf it (node delimiter children rest)) refl refl
glued_fits p it (leaf (leaf_of.Punct q) rest) =
    fits_length (is_alone p.spacing) (p ∷ []) (glued_behind p (Some q) rest) (leaf it (leaf (leaf_of.Punct q) rest)) refl
    (fits_length (is_joint q.spacing) (glued_three p q (first_punct rest)) (glued_two p q) (leaf it (leaf (leaf_of.Punct q) rest)) (three rest) (two rest))
  where
    two : (rest : Forest) → Fits (length (glued_two p q)) (leaf it (leaf (leaf_of.Punct q) rest))
    two rest = fits_length (is_one_of twos (p.char ∷ q.char ∷ [])) (p ∷ q ∷ []) (p ∷ []) (leaf it (leaf (leaf_of.Punct q) rest)) refl refl

    three : (rest : Forest) → Fits (length (glued_three p q (first_punct rest))) (leaf it (leaf (leaf_of.Punct q) rest))
    three end = two end
    three (leaf (leaf_of.Literal x) rest) = two (leaf (leaf_of.Literal x) rest)
    three (leaf (leaf_of.Ident x) rest) = two (leaf (leaf_of.Ident x) rest)
    three (node delimiter children rest) = two (node delimiter children rest)
    three (leaf (leaf_of.Punct r) rest) =
        fits_length (is_one_of threes (p.char ∷ q.char ∷ r.char ∷ [])) (p ∷ q ∷ r ∷ []) (glued_two p q) (leaf it (leaf (leaf_of.Punct q) (leaf (leaf_of.Punct r) rest))) refl
        (two (leaf (leaf_of.Punct r) rest))

-- So are a `'` and its ident.
lifetime_fits : (it : Leaf) (rest : Forest) → Fits (cond (is_at_ident rest) 2 1) (leaf it rest)
lifetime_fits it end = refl
lifetime_fits it (leaf (leaf_of.Literal x) rest) = refl
lifetime_fits it (leaf (leaf_of.Punct x) rest) = refl
lifetime_fits it (leaf (leaf_of.Ident x) rest) = refl
lifetime_fits it (node delimiter children rest) = refl

-- A token has as many leaves as it is long.
pub unit_length : (it : Leaf) (rest : Forest) → length (first_unit (leaf it rest)) ≡ unit_from it rest
unit_length (leaf_of.Literal it) rest = refl
unit_length (leaf_of.Ident it) rest = refl
unit_length (leaf_of.Punct it) rest =
    fits_either (it.char == quote) (cond (is_at_ident rest) 2 1) (length (glued_from it rest)) (leaf (leaf_of.Punct it) rest)
    (lifetime_fits (leaf_of.Punct it) rest) (glued_fits it (leaf_of.Punct it) rest)
