-- What is wrong with a pattern.
use Rattle.std.specs.Prelude.{◌≡◌, ℕ, Bool, List, [], ◌∷◌, ◌++◌, Option, None, Some, bytes_eq, if◌then◌else◌}
use Rattle.std.specs.List.{list_any}
use Rattle.tt.specs.Forest.{Forest}
use Rattle.tt.specs.Types.Leaf.{Leaf}
use Rattle.mbe_pattern.specs.declared.error.PatternError.{PatternError}
use Rattle.mbe_pattern.specs.declared.error.PatternError.TheVariants as error
use Rattle.mbe_pattern.specs.declared.pattern.RepeatKind.{RepeatKind}
use Rattle.mbe_pattern.specs.Patterns.{may_be_more, may_be_empty}
use Rattle.mbe_pattern.specs.Placed.{Placed, nothing, variable, wrong, token, subtree, repetition, plain, placed_of}

-- the first, or otherwise the other
abbrev pub or_else : Option PatternError → Option PatternError → Option PatternError
or_else None other = other
or_else (Some it) other = Some it

-- a name is among those
abbrev pub is_given : List ℕ → List (List ℕ) → Bool
is_given name names = list_any (bytes_eq name) names

-- the names so far, each once, with the name of one more variable
abbrev pub names_with : List ℕ → List (List ℕ) → List (List ℕ)
names_with name names = if is_given name names then names else names ++ name ∷ []

-- those names, with the names of a pattern's variables
abbrev pub names_behind : List (List ℕ) → Placed → List (List ℕ)
names_behind names nothing = names
names_behind names (variable at it others) = names_behind (names_with it.name names) others
names_behind names (wrong why it others) = names_behind names others
names_behind names (token its others) = names_behind names others
names_behind names (subtree kind inner others) = names_behind (names_behind names inner) others
names_behind names (repetition at inner separator op others) = names_behind (names_behind names inner) others

-- an earlier variable has the name of the variable at that place
abbrev pub name_fault : (at : ℕ) → List ℕ → List (List ℕ) → Option PatternError
name_fault at name names = if is_given name names then Some (error.NameTwice at) else None

-- the repetition at that place has a separator, but never two rounds
abbrev pub separator_fault : (at : ℕ) → List Leaf → RepeatKind → Option PatternError
separator_fault at [] op = None
separator_fault at (it ∷ others) op = if may_be_more op then None else Some (error.NeedlessSeparator at)

-- what the repetition holds may take no tree
abbrev pub empty_fault : (at : ℕ) → (is_empty : Bool) → Option PatternError
empty_fault at is_empty = if is_empty then Some (error.EmptyRepetition at) else None

-- the first fault in reading order, if earlier variables have these names
abbrev pub fault_behind : List (List ℕ) → Placed → Option PatternError
fault_behind names nothing = None
fault_behind names (variable at it others) = or_else (name_fault at it.name names) (fault_behind (names_with it.name names) others)
fault_behind names (wrong why it others) = Some why
fault_behind names (token its others) = fault_behind names others
fault_behind names (subtree kind inner others) = or_else (fault_behind names inner) (fault_behind (names_behind names inner) others)
fault_behind names (repetition at inner separator op others) =
    or_else (separator_fault at separator op)
    (or_else (empty_fault at (may_be_empty (plain inner))) (or_else (fault_behind names inner) (fault_behind (names_behind names inner) others)))

-- the first fault of the pattern that trees spell
abbrev pub pattern_fault : Forest → Option PatternError
pattern_fault trees = fault_behind [] (placed_of trees)

-- why the trees are no pattern: memory ran out, or this is their first fault
abbrev pub IsPatternError : Forest → PatternError → Type 0
IsPatternError trees error.Memory = Unit {0}
IsPatternError trees (error.BeginsNothing at) = pattern_fault trees ≡ Some (error.BeginsNothing at)
IsPatternError trees (error.UnknownFragment at) = pattern_fault trees ≡ Some (error.UnknownFragment at)
IsPatternError trees (error.NameTwice at) = pattern_fault trees ≡ Some (error.NameTwice at)
IsPatternError trees (error.NeedlessSeparator at) = pattern_fault trees ≡ Some (error.NeedlessSeparator at)
IsPatternError trees (error.EmptyRepetition at) = pattern_fault trees ≡ Some (error.EmptyRepetition at)
