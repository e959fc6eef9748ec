-- Without places, a pattern does not depend on the place at its end. A pattern without faults has no repetition that may be empty.
use Rattle.std.proofs.Common.{◌≡◌, ◌-◌, ℕ, zero, suc, Bool, true, false, List, [], ◌∷◌, Option, None, Some, refl, ap, ap₂, sym, ◌∙◌}
use Rattle.tt.specs.Forest.{Forest, end, leaf, node, size}
use Rattle.tt.specs.Iters.{rest_of}
use Rattle.tt.specs.Types.Leaf.{Leaf}
use Rattle.mbe_pattern.specs.declared.error.PatternError.{PatternError}
use Rattle.mbe_pattern.specs.declared.first.First.{First}
use Rattle.mbe_pattern.specs.declared.first.First.TheVariants as first
use Rattle.mbe_pattern.specs.Faults.{or_else, names_with, names_behind, name_fault, separator_fault, empty_fault, fault_behind, pattern_fault}
use Rattle.mbe_pattern.specs.Patterns.{Pattern, IsFull, may_be_empty}
use Rattle.mbe_pattern.specs.Patterns as pattern
use Rattle.mbe_pattern.specs.Placed.{Placed, nothing, variable, wrong, token, subtree, repetition, plain, inner_part, placed_behind, placed_until, placed_of, pattern_of}
use Rattle.mbe_pattern.specs.Spelling.{Dollar, is_dollar, dollar_in, tail_length}
use Rattle.mbe_pattern.specs.Spelling as spelling
use Rattle.mbe_pattern.specs.Units.{unit_from, first_unit, front_leaves}
use Rattle.mbe_pattern.specs.Validating.{IsFirst, begun_with}
use Rattle.mbe_pattern.proofs.FirstSteps.{begun}

plain_inner : (it : Placed) → plain (inner_part it) ≡ pattern.inner_part (plain it)
plain_inner nothing = refl
plain_inner (variable at it others) = refl
plain_inner (wrong why it others) = refl
plain_inner (token its others) = refl
plain_inner (subtree kind inner others) = refl
plain_inner (repetition at inner separator op others) = refl

-- the pattern is the same, whatever the place at the end
abbrev AreSame : (until other n : ℕ) → Forest → Type 0
AreSame until other n trees = plain (placed_behind until n trees) ≡ plain (placed_behind other n trees)

begun_same : (until other : ℕ) (it : Leaf) (rest : Forest) (is_sign : Bool) (sign : Dollar) → ((n : ℕ) → AreSame until other n rest)
    → plain (begun until it rest is_sign sign) ≡ plain (begun other it rest is_sign sign)
begun_same until other it rest false sign same = ap (pattern.token (first_unit (leaf it rest))) (same (unit_from it rest - 1))
begun_same until other it rest true (spelling.variable found) same = ap (pattern.variable found) (same 3)
begun_same until other it rest true (spelling.repetition tail) same =
    ap₂ (λ held more. pattern.repetition held tail.separator tail.kind more)
    (plain_inner (placed_behind until zero rest) ∙ ap pattern.inner_part (same zero) ∙ sym (plain_inner (placed_behind other zero rest))) (same (suc (tail_length tail)))
begun_same until other it rest true spelling.token same = ap (pattern.token (it ∷ [])) (same 0)
begun_same until other it rest true spelling.nothing same = ap (pattern.token (it ∷ [])) (same 0)

plain_same : (until other n : ℕ) (trees : Forest) → AreSame until other n trees
plain_same until other zero end = refl
plain_same until other (suc n) end = refl
plain_same until other zero (leaf it rest) = begun_same until other it rest (is_dollar it) (dollar_in rest) (λ n. plain_same until other n rest)
plain_same until other zero (node delimiter children rest) =
    ap₂ (pattern.subtree delimiter.kind) (plain_same (until - size rest) (other - size rest) zero children) (plain_same until other zero rest)
plain_same until other (suc n) (leaf it rest) = plain_same until other n rest
plain_same until other (suc n) (node delimiter children rest) = plain_same until other n rest

-- So it is that of the trees.
pub plain_of : (until : ℕ) (trees : Forest) → plain (placed_until until trees) ≡ pattern_of trees
plain_of until trees = plain_same until (size trees) zero trees

-- the pattern of which this part was read at the front of the trees, and which goes on with the others, without places
abbrev pub plain_with : Forest → First → (others : Pattern) → Pattern
plain_with trees first.End others = pattern.nothing
plain_with trees (first.Variable at it) others = pattern.variable it others
plain_with trees (first.Wrong why it) others = pattern.token (it ∷ []) others
plain_with trees (first.Token count) others = pattern.token (front_leaves count trees) others
plain_with trees (first.Subtree kind inner until) others = pattern.subtree kind (pattern_of (rest_of inner)) others
plain_with trees (first.Repetition at inner until tail) others = pattern.repetition (pattern_of (rest_of inner)) tail.separator.items tail.kind others

begun_plain : (until : ℕ) (trees rest : Forest) (found : First) → plain (begun_with trees found (placed_until until rest)) ≡ plain_with trees found (pattern_of rest)
begun_plain until trees rest first.End = refl
begun_plain until trees rest (first.Variable at it) = ap (pattern.variable it) (plain_of until rest)
begun_plain until trees rest (first.Wrong why it) = ap (pattern.token (it ∷ [])) (plain_of until rest)
begun_plain until trees rest (first.Token count) = ap (pattern.token (front_leaves count trees)) (plain_of until rest)
begun_plain until trees rest (first.Subtree kind inner inside) = ap₂ (pattern.subtree kind) (plain_of inside (rest_of inner)) (plain_of until rest)
begun_plain until trees rest (first.Repetition at inner inside tail) =
    ap₂ (λ held more. pattern.repetition held tail.separator.items tail.kind more) (plain_of inside (rest_of inner)) (plain_of until rest)

-- Without places, the part that was read is that of the pattern.
pub plain_first : (until : ℕ) (trees rest : Forest) (found it : First) → found ≡ it → IsFirst until trees found rest → pattern_of trees ≡ plain_with trees it (pattern_of rest)
plain_first until trees rest found it same is =
    sym (plain_of until trees) ∙ ap plain is ∙ begun_plain until trees rest found ∙ ap (λ f. plain_with trees f (pattern_of rest)) same

-- If `or_else` gives no fault, neither is one.
none_left : (a b : Option PatternError) → or_else a b ≡ None → a ≡ None
none_left None b is = refl
none_left (Some it) b is = absurd (cc is)

none_right : (a b : Option PatternError) → or_else a b ≡ None → b ≡ None
none_right None b is = is
none_right (Some it) b is = absurd (cc is)

not_empty : (at : ℕ) (b : Bool) → empty_fault at b ≡ None → b ≡ false
not_empty at true is = absurd (cc is)
not_empty at false is = refl

sound_full : (names : List (List ℕ)) (it : Placed) → fault_behind names it ≡ None → IsFull (plain it)
sound_full names nothing is = tt
sound_full names (variable at it others) is =
    sound_full (names_with it.name names) others (none_right (name_fault at it.name names) (fault_behind (names_with it.name names) others) is)
sound_full names (wrong why it others) is = absurd (cc is)
sound_full names (token its others) is = sound_full names others is
sound_full names (subtree kind inner others) is = (
  sound_full names inner (none_left (fault_behind names inner) (fault_behind (names_behind names inner) others) is),
  sound_full (names_behind names inner) others (none_right (fault_behind names inner) (fault_behind (names_behind names inner) others) is),
)
sound_full names (repetition at inner separator op others) is =
    let here = fault_behind names inner in
    let more = fault_behind (names_behind names inner) others in
    let empty = empty_fault at (may_be_empty (plain inner)) in
    let behind = none_right (separator_fault at separator op) (or_else empty (or_else here more)) is in
    let both = none_right empty (or_else here more) behind in (
      not_empty at (may_be_empty (plain inner)) (none_left empty (or_else here more) behind),
      sound_full names inner (none_left here more both),
      sound_full (names_behind names inner) others (none_right here more both),
    )

-- If there is no fault, what each repetition holds takes at least one tree.
pub sound_pattern : (trees : Forest) → pattern_fault trees ≡ None → IsFull (pattern_of trees)
sound_pattern trees is = sound_full [] (placed_of trees) is
