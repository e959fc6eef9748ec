-- What a template becomes under a binding.
use Rattle.std.specs.Prelude.{ℕ, zero, suc, Bool, true, false, List, [], ◌∷◌, ◌++◌, map, Option, None, Some, Result, Ok, Err, nat_eq, slice_get, if◌then◌else◌}
use Rattle.tt.specs.Forest.{Forest, end, leaf, node, join}
use Rattle.tt.specs.Siblings.{leaves}
use Rattle.tt.specs.Types.Delimiter.{Delimiter}
use Rattle.mbe_pattern.specs.declared.pattern.Fragment.{Fragment}
use Rattle.mbe_pattern.specs.declared.pattern.RepeatKind.{RepeatKind}
use Rattle.mbe_pattern.specs.declared.pattern.RepeatKind.TheVariants as repeat
use Rattle.mbe_matcher.specs.Bindings.{Bound, one, none, first, Named, Binding}
use Rattle.mbe_rules.specs.Enclosing.{as_piece}
use Rattle.mbe_rules.specs.Templates.{Template, nothing, use_of, token, subtree, repetition}

-- why a template cannot be filled, at the flat place of a `$`: the variable of a use has rounds there, none of the variables of a repetition
-- has rounds, one of them has more rounds than another, or there is no round but one is required
pub data TranscribeFault : Type 0 where
  still_repeats : (at : ℕ) → TranscribeFault
  nothing_repeats : (at : ℕ) → TranscribeFault
  lengths_differ : (at : ℕ) → TranscribeFault
  no_round : (at : ℕ) → TranscribeFault

-- what was filled up to the first fault, if there is one
pub record Transcribed : Type 0 where
  pub trees : Forest
  pub fault : Option TranscribeFault

-- the variables that the template uses, at any depth
abbrev pub used_in : Template → List ℕ
used_in nothing = []
used_in (use_of at variable less_follows others) = variable ∷ used_in others
used_in (token it others) = used_in others
used_in (subtree delimiter inner others) = used_in inner ++ used_in others
used_in (repetition at inner separator kind others) = used_in inner ++ used_in others

-- the number of rounds
abbrev pub round_count : Bound → ℕ
round_count (one trees) = 0
round_count none = 0
round_count (first it others) = suc (round_count others)

-- the numbers of rounds of those of the variables that have rounds
abbrev pub count_in : Bound → List ℕ
count_in (one trees) = []
count_in none = 0 ∷ []
count_in (first this others) = suc (round_count others) ∷ []

abbrev pub count_of : Option Named → List ℕ
count_of None = []
count_of (Some it) = count_in it.bound

abbrev pub counts_of : Binding → List ℕ → List ℕ
counts_of binding [] = []
counts_of binding (variable ∷ others) = count_of (slice_get binding variable) ++ counts_of binding others

-- all numbers are that number
abbrev pub are_all : ℕ → List ℕ → Bool
are_all n [] = true
are_all n (m ∷ others) = if nat_eq m n then are_all n others else false

-- that many rounds, unless there is none and one is required
abbrev pub enough : (at : ℕ) → RepeatKind → ℕ → Result ℕ TranscribeFault
enough at repeat.ZeroOrMore n = Ok n
enough at repeat.ZeroOrOne n = Ok n
enough at repeat.OneOrMore zero = Err (no_round at)
enough at repeat.OneOrMore (suc n) = Ok (suc n)

-- how often a repetition is filled: as often as all its variables have rounds
abbrev pub rounds_of : (at : ℕ) → RepeatKind → List ℕ → Result ℕ TranscribeFault
rounds_of at kind [] = Err (nothing_repeats at)
rounds_of at kind (n ∷ others) = if are_all n others then enough at kind n else Err (lengths_differ at)

-- what is bound in the first round, and in the others; what is bound outside a repetition is bound in each round
abbrev pub first_of : Bound → Bound
first_of (one trees) = one trees
first_of none = none
first_of (first it others) = it

abbrev pub others_of : Bound → Bound
others_of (one trees) = one trees
others_of none = none
others_of (first it others) = others

abbrev pub in_round : (Bound → Bound) → Named → Named
in_round f it = record { variable = it.variable; bound = f it.bound }

-- trees, and no fault
abbrev pub all_transcribed : Forest → Transcribed
all_transcribed trees = record { trees = trees; fault = None }

-- a fault, and no trees
abbrev pub faulted : TranscribeFault → Transcribed
faulted fault = record { trees = end; fault = Some fault }

-- what a use of a variable of that fragment becomes, which a `<` follows or not: what the variable took, unless it has rounds there
abbrev pub bound_transcribed : (at : ℕ) → (less_follows : Bool) → Fragment → Bound → Transcribed
bound_transcribed at less_follows which (one trees) = all_transcribed (as_piece (Some which) less_follows trees)
bound_transcribed at less_follows which none = faulted (still_repeats at)
bound_transcribed at less_follows which (first this others) = faulted (still_repeats at)

-- what a use becomes; nothing, if there is no variable
abbrev pub use_transcribed : (at : ℕ) → (less_follows : Bool) → Option Named → Transcribed
use_transcribed at less_follows None = all_transcribed end
use_transcribed at less_follows (Some it) = bound_transcribed at less_follows it.variable.fragment it.bound

-- the first, and then the other if the first has no fault
abbrev pub then_if : (fault : Option TranscribeFault) → Forest → Transcribed → Transcribed
then_if None trees others = record { trees = join trees others.trees; fault = others.fault }
then_if (Some fault) trees others = record { trees = trees; fault = Some fault }

abbrev pub and_then : Transcribed → Transcribed → Transcribed
and_then it others = then_if it.fault it.trees others

-- that many rounds, each with a separator before it
abbrev pub more_rounds : (transcribe : Binding → Transcribed) → (separator : Forest) → ℕ → Binding → Transcribed
more_rounds transcribe separator zero binding = all_transcribed end
more_rounds transcribe separator (suc n) binding =
    and_then (all_transcribed separator) (and_then (transcribe (map (in_round first_of) binding)) (more_rounds transcribe separator n (map (in_round others_of) binding)))

-- that many rounds, with separators between them
abbrev pub transcribed_rounds : (transcribe : Binding → Transcribed) → (separator : Forest) → ℕ → Binding → Transcribed
transcribed_rounds transcribe separator zero binding = all_transcribed end
transcribed_rounds transcribe separator (suc n) binding =
    and_then (transcribe (map (in_round first_of) binding)) (more_rounds transcribe separator n (map (in_round others_of) binding))

-- the rounds, if their number is known
abbrev pub transcribed_if : (transcribe : Binding → Transcribed) → (separator : Forest) → Result ℕ TranscribeFault → Binding → Transcribed
transcribed_if transcribe separator (Err fault) binding = faulted fault
transcribed_if transcribe separator (Ok n) binding = transcribed_rounds transcribe separator n binding

-- a subtree around what was filled
abbrev pub in_subtree : Delimiter → Transcribed → Transcribed
in_subtree delimiter it = record { trees = node delimiter it.trees end; fault = it.fault }

-- the template in which each use is replaced, and each repetition filled once for each round
abbrev pub transcribed : Template → Binding → Transcribed
transcribed nothing binding = all_transcribed end
transcribed (use_of at variable less_follows others) binding =
    and_then (use_transcribed at less_follows (slice_get binding variable)) (transcribed others binding)
transcribed (token it others) binding = and_then (all_transcribed (leaf it end)) (transcribed others binding)
transcribed (subtree delimiter inner others) binding = and_then (in_subtree delimiter (transcribed inner binding)) (transcribed others binding)
transcribed (repetition at inner separator kind others) binding =
    and_then (transcribed_if (transcribed inner) (leaves separator) (rounds_of at kind (counts_of binding (used_in inner))) binding) (transcribed others binding)
