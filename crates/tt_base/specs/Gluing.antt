-- Which puncts at the front of a list of trees are one operator.
use Rattle.std.specs.Prelude.{ℕ, ◌-◌, Bool, true, false, suc, zero, List, [], ◌∷◌, length, Option, Some, None, codes, bytes_eq, if◌then◌else◌, option_map}
use Rattle.std.specs.List.{list_any}
use Rattle.tt_base.specs.declared.punct.Punct.{Punct}
use Rattle.tt_base.specs.declared.punct.Spacing.{Spacing}
use Rattle.tt_base.specs.declared.punct.Spacing.TheVariants.{Alone, Joint, JointHidden}
use Rattle.tt_base.specs.Expectations.{first_leaf_as, as_punct}
use Rattle.tt_base.specs.Forest.{Forest, end, leaf, node}
use Rattle.tt_base.specs.Moves.{after_tree}

-- the operators of three characters
abbrev pub threes : List (List ℕ)
threes = codes "..." ∷ codes "..=" ∷ codes "<<=" ∷ codes ">>=" ∷ []

-- the operators of two characters
abbrev pub twos : List (List ℕ)
twos =
    codes "-=" ∷ codes "!=" ∷ codes "*=" ∷ codes "/=" ∷ codes "&=" ∷ codes "%=" ∷ codes "^=" ∷ codes "+=" ∷ codes "<=" ∷ codes "=="
    ∷ codes ">=" ∷ codes "|=" ∷ codes "->" ∷ codes "=>" ∷ codes ">>" ∷ codes "<-" ∷ codes "::" ∷ codes ".." ∷ codes "&&" ∷ codes "<<"
    ∷ codes "||" ∷ []

-- whether the characters are an operator of that table
abbrev pub is_one_of : (table : List (List ℕ)) → List ℕ → Bool
is_one_of table chars = list_any (λ entry. bytes_eq entry chars) table

-- the first tree, if it is a punct
abbrev pub first_punct : Forest → Option Punct
first_punct trees = first_leaf_as as_punct trees

-- whether a punct is alone
abbrev pub is_alone : Spacing → Bool
is_alone Alone = true
is_alone Joint = false
is_alone JointHidden = false

-- whether a punct is joint; joint hidden is not
abbrev pub is_joint : Spacing → Bool
is_joint Alone = false
is_joint Joint = true
is_joint JointHidden = false

-- both, if they are an operator, otherwise the first
abbrev pub glued_two : Punct → Punct → List Punct
glued_two first second = if is_one_of twos (first.char ∷ second.char ∷ []) then first ∷ second ∷ [] else first ∷ []

-- all three, if there is a third and they are an operator, otherwise the same as for two
abbrev pub glued_three : Punct → Punct → Option Punct → List Punct
glued_three first second None = glued_two first second
glued_three first second (Some third) =
    if is_one_of threes (first.char ∷ second.char ∷ third.char ∷ []) then first ∷ second ∷ third ∷ [] else glued_two first second

-- the first, and the punct and trees after it; a third counts only if the second is joint
abbrev pub glued_behind : Punct → Option Punct → (behind : Forest) → List Punct
glued_behind first None behind = first ∷ []
glued_behind first (Some second) behind = if is_joint second.spacing then glued_three first second (first_punct behind) else glued_two first second

-- the punct alone if its spacing is alone, otherwise with the puncts after it that make one operator with it
abbrev pub glued_from : Punct → (behind : Forest) → List Punct
glued_from first behind = if is_alone first.spacing then first ∷ [] else glued_behind first (first_punct behind) (after_tree behind)

-- the puncts of the operator at the front, if the first tree is a punct
abbrev pub glued : Forest → Option (List Punct)
glued trees = option_map (λ first. glued_from first (after_tree trees)) (first_punct trees)

-- the trees after the first `n`
abbrev pub after_trees : ℕ → Forest → Forest
after_trees zero trees = trees
after_trees (suc n) trees = after_trees n (after_tree trees)

-- the number of trees that are passed: those of the operator, or one if the first is no punct
abbrev pub passed_by : Option (List Punct) → ℕ
passed_by None = 1
passed_by (Some puncts) = length puncts

-- the number of puncts of each operator, call after call, if `passed` trees are passed before the first call; none for a tree that is no
-- punct
abbrev pub sizes_after : (passed : ℕ) → Forest → List (Option ℕ)
sizes_after passed end = []
sizes_after zero (leaf it rest) = option_map length (glued (leaf it rest)) ∷ sizes_after (passed_by (glued (leaf it rest)) - 1) rest
sizes_after zero (node delimiter children rest) = None ∷ sizes_after zero rest
sizes_after (suc passed) (leaf it rest) = sizes_after passed rest
sizes_after (suc passed) (node delimiter children rest) = sizes_after passed rest

-- the same from the first tree on
abbrev pub glued_sizes : Forest → List (Option ℕ)
glued_sizes trees = sizes_after 0 trees
