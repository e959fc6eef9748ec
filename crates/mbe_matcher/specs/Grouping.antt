-- What marks bind to the variables of a pattern.
use Rattle.std.specs.Prelude.{ℕ, suc, ◌+◌, List, [], ◌∷◌, ◌++◌, map, take, drop, nat_eq, if◌then◌else◌}
use Rattle.tt.specs.Forest.{Forest}
use Rattle.mbe_matcher.specs.Bindings.{Bound, one, none, first, Named, Binding}
use Rattle.mbe_matcher.specs.Marks.{Note, taken, begun, ended, step_count}
use Rattle.mbe_pattern.specs.declared.pattern.Variable.{Variable}
use Rattle.mbe_pattern.specs.Patterns.{Pattern, nothing, variable, token, subtree, repetition}

-- a variable, its number, and the numbers of the repetitions around it, the outermost first
pub record Where : Type 0 where
  pub variable : Variable
  pub number : ℕ
  pub nest : List ℕ

-- the variable in one more repetition, outside the others
abbrev pub held_in : (number : ℕ) → Where → Where
held_in number it = record { variable = it.variable; number = it.number; nest = number ∷ it.nest }

-- the variables of a pattern, in reading order; that many steps follow the pattern
abbrev pub variables_of : Pattern → (behind : ℕ) → List Where
variables_of nothing behind = []
variables_of (variable it others) behind = record { variable = it; number = step_count others + behind; nest = [] } ∷ variables_of others behind
variables_of (token its others) behind = variables_of others behind
variables_of (subtree kind inner others) behind = variables_of inner (suc (step_count others + behind)) ++ variables_of others behind
variables_of (repetition inner separator op others) behind =
    map (held_in (step_count others + behind)) (variables_of inner (suc (step_count others + behind))) ++ variables_of others behind

-- the trees that the variable of that number took, each time
abbrev pub taken_by : (number : ℕ) → List Note → List Forest
taken_by number [] = []
taken_by number (taken other trees ∷ more) = if nat_eq other number then trees ∷ taken_by number more else taken_by number more
taken_by number (begun other ∷ more) = taken_by number more
taken_by number (ended other ∷ more) = taken_by number more

-- how many rounds the repetition of that number had, each time; the first count includes those so far
abbrev pub counts_by : (number : ℕ) → (so_far : ℕ) → List Note → List ℕ
counts_by number so_far [] = []
counts_by number so_far (taken other trees ∷ more) = counts_by number so_far more
counts_by number so_far (begun other ∷ more) = if nat_eq other number then counts_by number (suc so_far) more else counts_by number so_far more
counts_by number so_far (ended other ∷ more) = if nat_eq other number then so_far ∷ counts_by number 0 more else counts_by number so_far more

-- a list of what rounds bind
abbrev pub listed : List Bound → Bound
listed [] = none
listed (it ∷ others) = first it (listed others)

-- the bounds in groups of these sizes
abbrev pub grouped : (counts : List ℕ) → List Bound → List Bound
grouped [] bounds = []
grouped (n ∷ counts) bounds = listed (take n bounds) ∷ grouped counts (drop n bounds)

-- what is bound to the variable of that number in these repetitions, each time
abbrev pub bounds_by : (nest : List ℕ) → (number : ℕ) → List Note → List Bound
bounds_by [] number notes = map one (taken_by number notes)
bounds_by (outer ∷ nest) number notes = grouped (counts_by outer 0 notes) (bounds_by nest number notes)

-- the first, if there is one
abbrev pub first_bound : List Bound → Bound
first_bound [] = none
first_bound (it ∷ others) = it

-- what is bound to a variable in total
abbrev pub named_by : List Note → Where → Named
named_by notes it = record { variable = it.variable; bound = first_bound (bounds_by it.nest it.number notes) }

-- what the notes bind to variables
abbrev pub binding_by : List Where → List Note → Binding
binding_by variables notes = map (named_by notes) variables
