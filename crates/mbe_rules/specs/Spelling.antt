-- What template trees spell.
use Rattle.std.specs.Prelude.{◌-◌, ℕ, zero, suc, Bool, true, false, List, [], ◌∷◌, Option, None, Some, bytes_eq, codes, if◌then◌else◌}
use Rattle.std.specs.List.{position}
use Rattle.tt.specs.Building.{leaf_alone}
use Rattle.tt.specs.Expectations.{first_leaf_as, as_ident_or_underscore}
use Rattle.tt.specs.Forest.{Forest, end, leaf, node, size}
use Rattle.tt.specs.Moves.{after_tree}
use Rattle.tt.specs.Types.Ident.{Ident}
use Rattle.tt.specs.Types.Leaf.{Leaf}
use Rattle.mbe_matcher.specs.Grouping.{Where}
use Rattle.mbe_pattern.specs.Spelling.{Tail, tail_length, repetition_in, is_crate_in, is_dollar}
use Rattle.mbe_pattern.specs.Units.{is_at_punct}
use Rattle.mbe_rules.specs.Templates.{Template, inner_part}
use Rattle.mbe_rules.specs.Templates as template

-- this is the variable of that name
abbrev pub has_name : List ℕ → Where → Bool
has_name text it = bytes_eq text it.variable.name

-- the index of the first variable that an ident names, raw or not; `_` is a name
abbrev pub variable_from : List Where → Option Ident → Option ℕ
variable_from variables None = None
variable_from variables (Some it) = position (has_name it.sym) variables

abbrev pub variable_in : List Where → Forest → Option ℕ
variable_in variables siblings = variable_from variables (first_leaf_as as_ident_or_underscore siblings)

-- what a `$` begins in a template
pub data Mark : Type 0 where
  use_of : (variable : ℕ) → (less_follows : Bool) → Mark
  repetition : Tail → Mark
  second : Leaf → Mark
  nothing : Mark

-- the first tree, if it is a `$`
abbrev pub dollar_of : Forest → Option Leaf
dollar_of end = None
dollar_of (leaf it rest) = if is_dollar it then Some it else None
dollar_of (node delimiter children rest) = None

-- another `$`; otherwise that mark
abbrev pub mark_or : Option Leaf → Mark → Mark
mark_or (Some it) other = second it
mark_or None other = other

-- a repetition; otherwise a use of a variable, unless it is `$crate`; otherwise nothing
abbrev pub mark_from : Option Tail → (crate_there : Bool) → Option ℕ → (less_follows : Bool) → Mark
mark_from (Some tail) crate_there found less_follows = repetition tail
mark_from None true found less_follows = nothing
mark_from None false (Some variable) less_follows = use_of variable less_follows
mark_from None false None less_follows = nothing

-- what a `$` before these siblings begins
abbrev pub mark_in : List Where → Forest → Mark
mark_in variables siblings =
    mark_or (dollar_of siblings)
    (mark_from (repetition_in siblings) (is_crate_in siblings) (variable_in variables siblings) (is_at_punct (codes "<") (after_tree siblings)))

-- how many trees belong to the mark: a name, parentheses and a tail, or another `$`
abbrev pub mark_length : Mark → ℕ
mark_length (use_of variable less_follows) = 1
mark_length (repetition tail) = suc (tail_length tail)
mark_length (second it) = 1
mark_length nothing = 0

-- the leaves; the last does not form one token with what follows
abbrev pub last_alone : List Leaf → List Leaf
last_alone [] = []
last_alone (it ∷ []) = leaf_alone it ∷ []
last_alone (it ∷ next ∷ others) = it ∷ last_alone (next ∷ others)

-- the first tree is a `$`
abbrev pub is_dollar_in : Forest → Bool
is_dollar_in end = false
is_dollar_in (leaf it rest) = is_dollar it
is_dollar_in (node delimiter children rest) = false

-- a leaf before trees; before a `$`, which other trees may replace, it does not form one token with what follows
abbrev pub seamed : Leaf → Forest → Leaf
seamed it rest = if is_dollar_in rest then leaf_alone it else it

-- the part that a `$` at that flat place begins, before what follows; `$$` is a literal `$`, and a `$` that begins nothing is one, too
abbrev pub part_of : (at : ℕ) → Leaf → Mark → (held others : Template) → Template
part_of at it (use_of variable less_follows) held others = template.use_of at variable less_follows others
part_of at it (repetition tail) held others = template.repetition at held (last_alone tail.separator) tail.kind others
part_of at it (second other) held others = template.token other others
part_of at it nothing held others = template.token it others

-- the template that trees spell after the first `passed` of them, which belong to an earlier part; `until`
-- is the flat place after the last tree
abbrev pub template_behind : List Where → (until : ℕ) → (passed : ℕ) → Forest → Template
template_behind variables until passed end = template.nothing
template_behind variables until zero (leaf it rest) =
    if is_dollar it
    then part_of (until - size (leaf it rest)) it (mark_in variables rest) (inner_part (template_behind variables until zero rest))
    (template_behind variables until (mark_length (mark_in variables rest)) rest)
    else template.token (seamed it rest) (template_behind variables until zero rest)
template_behind variables until zero (node delimiter children rest) =
    template.subtree delimiter (template_behind variables (until - size rest) zero children) (template_behind variables until zero rest)
template_behind variables until (suc passed) (leaf it rest) = template_behind variables until passed rest
template_behind variables until (suc passed) (node delimiter children rest) = template_behind variables until passed rest

-- the template that trees spell if they end before that flat place
abbrev pub template_until : List Where → (until : ℕ) → Forest → Template
template_until variables until trees = template_behind variables until zero trees

-- the template that trees spell, with those variables
abbrev pub template_of : List Where → Forest → Template
template_of variables trees = template_until variables (size trees) trees
