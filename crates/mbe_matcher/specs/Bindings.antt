-- What a reading binds to the names of a pattern.
use Rattle.std.specs.Prelude.{ℕ, Bool, true, false, List, [], ◌∷◌, ◌++◌, map, Option, None, Some, bytes_eq}
use Rattle.tt.specs.Forest.{Forest}
use Rattle.mbe_pattern.specs.declared.pattern.Variable.{Variable}
use Rattle.mbe_pattern.specs.Patterns.{Pattern, nothing, variable, token, subtree, repetition}
use Rattle.mbe_matcher.specs.Readings.{Reading, done, took, held, round, over, trees_taken, inside_of, more_of}

-- what is bound to a variable: trees, or under a repetition a list of what each round binds
pub data Bound : Type 0 where
  one : Forest → Bound
  none : Bound
  first : Bound → (others : Bound) → Bound

-- a variable, and what is bound to it
pub record Named : Type 0 where
  pub variable : Variable
  pub bound : Bound

abbrev pub Binding : Type 0
Binding = List Named

-- a pattern's variables, in reading order
abbrev pub variables_in : Pattern → List Variable
variables_in nothing = []
variables_in (variable it others) = it ∷ variables_in others
variables_in (token its others) = variables_in others
variables_in (subtree kind inner others) = variables_in inner ++ variables_in others
variables_in (repetition inner separator op others) = variables_in inner ++ variables_in others

-- a variable to which no round binds anything
abbrev pub unbound : Variable → Named
unbound it = record { variable = it; bound = none }

-- what a round binds, before what the other rounds bind
abbrev pub joined : Binding → Binding → Binding
joined [] others = []
joined (it ∷ more) [] = []
joined (it ∷ more) (other ∷ others) = record { variable = it.variable; bound = first it.bound other.bound } ∷ joined more others

-- what all rounds bind, if a round with such a reading binds this
abbrev pub of_rounds : (its : List Variable) → (of_round : Reading → Binding) → Reading → Binding
of_rounds its of_round done = []
of_rounds its of_round (took trees more) = []
of_rounds its of_round (held inside more) = []
of_rounds its of_round (round this others) = joined (of_round this) (of_rounds its of_round others)
of_rounds its of_round (over more) = map unbound its

-- the reading of the parts after a repetition
abbrev pub behind_rounds : Reading → Reading
behind_rounds done = done
behind_rounds (took trees more) = done
behind_rounds (held inside more) = done
behind_rounds (round this others) = behind_rounds others
behind_rounds (over more) = more

-- what the reading binds: its trees to a variable, and the list of what the rounds bind to each variable in a repetition
abbrev pub binding_of : Pattern → Reading → Binding
binding_of nothing reading = []
binding_of (variable it others) reading = record { variable = it; bound = one (trees_taken reading) } ∷ binding_of others (more_of reading)
binding_of (token its others) reading = binding_of others reading
binding_of (subtree kind inner others) reading = binding_of inner (inside_of reading) ++ binding_of others (more_of reading)
binding_of (repetition inner separator op others) reading =
    of_rounds (variables_in inner) (binding_of inner) reading ++ binding_of others (behind_rounds reading)

-- what is bound to a name, if anything is; the first variable of that name counts
abbrev pub bound_from : (is_it : Bool) → Bound → Option Bound → Option Bound
bound_from true bound others = Some bound
bound_from false bound others = others

abbrev pub bound_to : List ℕ → Binding → Option Bound
bound_to text [] = None
bound_to text (it ∷ others) = bound_from (bytes_eq text it.variable.name) it.bound (bound_to text others)
