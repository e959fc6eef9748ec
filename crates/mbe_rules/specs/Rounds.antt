-- What is bound in a round, and how flat lists of what variables took show it.
use Rattle.std.specs.Prelude.{◌≡◌, ◌-◌, ℕ, zero, suc, List, [], ◌∷◌, map, length, get_or, slice_get, Option, None, Some}
use Rattle.tt.specs.Forest.{Forest, end}
use Rattle.tt.specs.Views.{trees_of}
use Rattle.mbe_pattern.specs.declared.pattern.Fragment.{Fragment}
use Rattle.mbe_matcher.specs.Bindings.{Bound, one, none, first, Named, Binding}
use Rattle.mbe_matcher.specs.Ends.{sums}
use Rattle.mbe_matcher.specs.Grouping.{grouped, first_bound}
use Rattle.mbe_rules.specs.declared.taken.Round.{Round}
use Rattle.mbe_rules.specs.declared.taken.Seen as rust
use Rattle.mbe_rules.specs.declared.taken.Seen.TheVariants as variant
use Rattle.mbe_rules.specs.declared.taken.Taken.{Taken}
use Rattle.mbe_rules.specs.Transcribing.{first_of, others_of, in_round, round_count}

-- what is bound in the round of that number, from 0
abbrev pub round_at : ℕ → Bound → Bound
round_at zero bound = first_of bound
round_at (suc n) bound = round_at n (others_of bound)

-- what is bound in nested rounds, the outermost first
abbrev pub bound_in : List ℕ → Bound → Bound
bound_in [] bound = bound
bound_in (n ∷ inner) bound = bound_in inner (round_at n bound)

abbrev pub binding_in : List ℕ → Binding → Binding
binding_in numbers binding = map (in_round (bound_in numbers)) binding

-- how many rounds are done of each
abbrev pub dones : List Round → List ℕ
dones rounds = map (λ it. it.done) rounds

-- what is seen of a bound: trees, or how many rounds
pub data Seen : Type 0 where
  trees : Forest → Seen
  rounds : ℕ → Seen

abbrev pub seen_of : Bound → Seen
seen_of (one its) = trees its
seen_of none = rounds 0
seen_of (first it others) = rounds (suc (round_count others))

-- a seen value, in the terms of the contracts
abbrev pub seen_as : rust.Seen → Seen
seen_as (variant.Trees view) = trees (trees_of view)
seen_as (variant.Rounds count) = rounds count

-- the bounds of trees in nested repetitions, the outermost first, given how many rounds each had, each time
abbrev pub nested : List (List ℕ) → List Forest → List Bound
nested [] its = map one its
nested (counts ∷ inner) its = grouped counts (nested inner its)

-- the flat lists represent this bound
pub record IsTaken (bound : Bound) (it : Taken) : Type 0 where
  pub counts : List (List ℕ)
  pub ends : map (λ its. its.items) it.ends.items ≡ map (sums 0) counts
  pub is : bound ≡ first_bound (nested counts (map trees_of it.trees.items))

-- the flat lists represent what is bound to the variable, and the fragment is the variable's
pub record IsTakenBy (named : Named) (it : Taken) : Type 0 where
  pub fragment : named.variable.fragment ≡ it.fragment
  pub bound : IsTaken named.bound it

-- the same for all variables
abbrev pub AreTaken : Binding → List Taken → Type 0
AreTaken [] [] = Unit {0}
AreTaken [] (it ∷ others) = ⊥
AreTaken (named ∷ more) [] = ⊥
AreTaken (named ∷ more) (it ∷ others) = IsTakenBy named it × AreTaken more others

-- the lesser of two numbers: `a`, minus by how much it exceeds `b`
abbrev pub lesser : ℕ → ℕ → ℕ
lesser a b = a - (a - b)

-- the number of the first round of that time, given where the rounds of each time end
abbrev pub first_at : (ends : List ℕ) → (time : ℕ) → ℕ
first_at ends zero = 0
first_at ends (suc before) = get_or ends before 0

-- how many rounds that time has, given how many rounds there are in all
abbrev pub count_at : (ends : List ℕ) → (time all : ℕ) → ℕ
count_at ends time all = lesser (get_or ends time 0) all - first_at ends time

-- how many times a repetition with such ends occurred; all, if there is none
abbrev pub times_in : Option (List ℕ) → (all : ℕ) → ℕ
times_in None all = all
times_in (Some ends) all = length ends

abbrev pub times_at : (depth : ℕ) → Taken → ℕ
times_at depth it = times_in (slice_get (map (λ its. its.items) it.ends.items) depth) (length it.trees.items)

-- the trees of that time, or no round
abbrev pub time_seen : Option Forest → Seen
time_seen None = rounds 0
time_seen (Some its) = trees its

-- what is seen of a variable; no trees if there is none
abbrev pub seen_at : Option Named → Seen
seen_at None = trees end
seen_at (Some it) = seen_of it.bound

-- the fragment of a variable; none, if there is no variable
abbrev pub fragment_of : Option Named → Option Fragment
fragment_of None = None
fragment_of (Some it) = Some it.variable.fragment
