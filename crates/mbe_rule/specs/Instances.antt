-- When trees are an instance of a pattern, what is then bound to its names, and what a template becomes.
use Rattle.std.specs.Prelude.{◌≡◌, Bool, true, not, List, [], ◌∷◌, ◌++◌, Option, None, Some, is_some, if◌then◌else◌}
use Rattle.tt.specs.Expectations.{first_leaf_as, as_literal, as_ident_or_underscore, unless_underscore}
use Rattle.tt.specs.Forest.{Forest, Root, end, leaf, node, join}
use Rattle.tt.specs.Moves.{after_tree}
use Rattle.tt.specs.Siblings.{first_tree, children_of, is_end}
use Rattle.tt.specs.Types.DelimiterKind.{DelimiterKind}
use Rattle.tt.specs.Types.Leaf.{Leaf}
use Rattle.tt.specs.Types.Leaf.TheVariants as leaf_of
use Rattle.mbe_pattern.specs.Units.{IsLeafLike, IsNodeOf}
use Rattle.mbe_rule.specs.declared.variable.Name.{Name}
use Rattle.mbe_rule.specs.declared.variable.Fragment.{Fragment}
use Rattle.mbe_rule.specs.declared.variable.Fragment.TheVariants as fragment
use Rattle.mbe_rule.specs.declared.variable.Variable.{Variable}
use Rattle.mbe_rule.specs.Variables.{same_name, variable_at, use_at}

-- a pattern: variables, leaves that are matched literally, and subtrees of a kind
pub data Pattern : Type 0 where
  nothing : Pattern
  variable : Variable → Pattern → Pattern
  token : Leaf → Pattern → Pattern
  subtree : DelimiterKind → Pattern → Pattern → Pattern

-- all but the first part
abbrev pub other_parts : Pattern → Pattern
other_parts nothing = nothing
other_parts (variable it others) = others
other_parts (token it others) = others
other_parts (subtree kind inner others) = others

-- a variable replaces its `$`, its name, its colon and its fragment; any other leaf is a part of its own
abbrev pub begin_part : Leaf → Option Variable → (behind : Pattern) → Pattern
begin_part it None behind = token it behind
begin_part it (Some found) behind = variable found (other_parts (other_parts (other_parts behind)))

-- the pattern that the trees spell
abbrev pub pattern_of : Forest → Pattern
pattern_of end = nothing
pattern_of (leaf it rest) = begin_part it (variable_at it rest) (pattern_of rest)
pattern_of (node delimiter children rest) = subtree delimiter.kind (pattern_of children) (pattern_of rest)

-- the fragment takes the first tree: an ident other than `_`, a literal or a truth value, or any tree
abbrev pub takes : Fragment → Forest → Bool
takes fragment.Ident trees = is_some (unless_underscore (first_leaf_as as_ident_or_underscore trees))
takes fragment.Literal trees = is_some (first_leaf_as as_literal trees)
takes fragment.Tt trees = not (is_end trees)

-- names, each with the tree that is bound to it
abbrev pub Binding : Type 0
Binding = List (Name × Forest)

-- the trees are an instance of the pattern, which binds this to its names, in reading order
abbrev pub IsInstance : Pattern → (input : Forest) → Binding → Type 0
IsInstance nothing input binding = (input ≡ end) × (binding ≡ [])
IsInstance (variable it others) input binding =
    (more : Binding) × (takes it.fragment input ≡ true) × (binding ≡ (it.name, first_tree input) ∷ more) × IsInstance others (after_tree input) more
IsInstance (token it others) input binding = IsLeafLike it input × IsInstance others (after_tree input) binding
IsInstance (subtree kind inner others) input binding =
    (held : Binding) × (more : Binding) × IsNodeOf kind input × (binding ≡ held ++ more)
    × IsInstance inner (children_of input) held × IsInstance others (after_tree input) more

-- the tree that is bound to a name
abbrev pub bound_to : Name → Binding → Forest
bound_to name [] = end
bound_to name (it ∷ others) = if same_name name it.0 then it.1 else bound_to name others

-- a use, with its name, is replaced by the tree that is bound to the name; any other leaf stays
abbrev pub place_leaf : Binding → Leaf → Option Name → (behind : Forest) → Forest
place_leaf binding it None behind = leaf it behind
place_leaf binding it (Some name) behind = join (bound_to name binding) (after_tree behind)

-- the trees of a template, in which each use is replaced
abbrev pub filled : Binding → Forest → Forest
filled binding end = end
filled binding (leaf it rest) = place_leaf binding it (use_at it rest) (filled binding rest)
filled binding (node delimiter children rest) = node delimiter (filled binding children) (filled binding rest)

-- the template under its own delimiter, in which each use is replaced
abbrev pub expansion : (template : Root) → Binding → Root
expansion template binding = record { delimiter = template.delimiter; children = filled binding template.children }
