-- What is wrong with trees that should spell a template.
use Rattle.std.specs.Prelude.{◌≡◌, ◌-◌, ℕ, zero, suc, Bool, true, false, List, [], ◌∷◌, Option, None, Some, if◌then◌else◌}
use Rattle.tt.specs.Forest.{Forest, end, leaf, node, size}
use Rattle.tt.specs.Gluing.{after_trees}
use Rattle.tt.specs.Siblings.{is_end}
use Rattle.tt.specs.Types.DelimiterKind.{DelimiterKind}
use Rattle.tt.specs.Types.DelimiterKind.TheVariants as delimited
use Rattle.tt.specs.Types.Leaf.{Leaf}
use Rattle.tt.specs.Types.Leaf.TheVariants as leaf_of
use Rattle.mbe_pattern.specs.declared.pattern.RepeatKind.{RepeatKind}
use Rattle.mbe_pattern.specs.Patterns.{may_be_more}
use Rattle.mbe_pattern.specs.Spelling.{Tail, tail_in, tail_length, repetition_in, is_dollar}
use Rattle.mbe_pattern.specs.Units.{unit_size}
use Rattle.mbe_rules.specs.declared.error.TemplateError.{TemplateError}
use Rattle.mbe_rules.specs.declared.error.TemplateError.TheVariants as error
use Rattle.mbe_rules.specs.Spelling.{dollar_of}

-- the first, or otherwise the other
abbrev pub or_else : Option TemplateError → Option TemplateError → Option TemplateError
or_else None other = other
or_else (Some it) other = Some it

-- the flat place before these trees, given the place after the last of them
abbrev pub place : (until : ℕ) → Forest → ℕ
place until trees = until - size trees

-- that place, or the one of these trees, if there are any
abbrev pub place_or : (until at : ℕ) → Forest → ℕ
place_or until at trees = if is_end trees then at else place until trees

-- where an operator is missing behind the parentheses at that place: at the tree behind the token that would separate, at that token if it
-- is the last tree, at the subtree that comes in its place, or at the parentheses if nothing follows them
abbrev pub operator_place : (until at : ℕ) → (behind : Forest) → ℕ
operator_place until at end = at
operator_place until at (leaf it rest) = place_or until (place until (leaf it rest)) (after_trees (unit_size (leaf it rest)) (leaf it rest))
operator_place until at (node delimiter children rest) = place until (node delimiter children rest)

-- a repetition that never has two rounds has a separator at that place
abbrev pub separator_fault : (at : ℕ) → (separator : List Leaf) → RepeatKind → Option TemplateError
separator_fault at [] kind = None
separator_fault at (it ∷ others) kind = if may_be_more kind then None else Some (error.NeedlessSeparator at)

-- what is wrong behind the parentheses at that place, given their tail
abbrev pub tail_fault : (until at : ℕ) → Option Tail → (behind : Forest) → Option TemplateError
tail_fault until at None behind = Some (error.NoOperator (operator_place until at behind))
tail_fault until at (Some tail) behind = separator_fault (place until behind) tail.separator tail.kind

-- what is wrong with a `$` before a subtree at that place
abbrev pub subtree_fault : (until at : ℕ) → DelimiterKind → (behind : Forest) → Option TemplateError
subtree_fault until at delimited.Parenthesis behind = tail_fault until at (tail_in behind) behind
subtree_fault until at delimited.Brace behind = None
subtree_fault until at delimited.Bracket behind = Some (error.BeginsNothing at)
subtree_fault until at delimited.Invisible behind = None
subtree_fault until at delimited.InvisibleOpaque behind = None

-- a `$` may stand before that leaf: a name, or another `$`
abbrev pub may_follow : Leaf → Bool
may_follow (leaf_of.Literal it) = false
may_follow (leaf_of.Punct it) = is_dollar (leaf_of.Punct it)
may_follow (leaf_of.Ident it) = true

-- what is wrong with a `$` before these siblings; a `$` that nothing follows is a token
abbrev pub dollar_fault : (until : ℕ) → Forest → Option TemplateError
dollar_fault until end = None
dollar_fault until (leaf it rest) = if may_follow it then None else Some (error.BeginsNothing (place until (leaf it rest)))
dollar_fault until (node delimiter children rest) = subtree_fault until (place until (node delimiter children rest)) delimiter.kind rest

-- how many siblings of a `$` are no signs of their own: another `$`, or the parentheses and the tail of a repetition
abbrev pub own_length : (second : Option Leaf) → Option Tail → ℕ
own_length (Some it) found = 1
own_length None None = 0
own_length None (Some tail) = suc (tail_length tail)

-- the first fault in reading order, if the first `passed` trees belong to an earlier `$`; `until` is the flat place after the last tree
abbrev pub fault_behind : (until : ℕ) → (passed : ℕ) → Forest → Option TemplateError
fault_behind until passed end = None
fault_behind until zero (leaf it rest) =
    if is_dollar it then or_else (dollar_fault until rest) (fault_behind until (own_length (dollar_of rest) (repetition_in rest)) rest) else fault_behind until zero rest
fault_behind until zero (node delimiter children rest) = or_else (fault_behind (until - size rest) zero children) (fault_behind until zero rest)
fault_behind until (suc passed) (leaf it rest) = fault_behind until passed rest
fault_behind until (suc passed) (node delimiter children rest) = or_else (fault_behind (until - size rest) zero children) (fault_behind until passed rest)

-- the first fault of trees that end before that flat place
abbrev pub fault_until : (until : ℕ) → Forest → Option TemplateError
fault_until until trees = fault_behind until zero trees

-- the first fault of the template that trees spell
abbrev pub spelling_fault : Forest → Option TemplateError
spelling_fault trees = fault_until (size trees) trees

-- the fault that comes first is this one, or memory ran out
abbrev pub IsFault : (first : Option TemplateError) → TemplateError → Type 0
IsFault first error.Memory = Unit {0}
IsFault first other = first ≡ Some other

-- why the trees are no template
abbrev pub IsTemplateError : Forest → TemplateError → Type 0
IsTemplateError trees why = IsFault (spelling_fault trees) why
