-- How much work is left while a template is filled.
use Rattle.std.specs.Prelude.{◌+◌, ℕ, zero, suc, List, [], ◌∷◌, map, Result, Ok, Err}
use Rattle.mbe_matcher.specs.Bindings.{Binding}
use Rattle.mbe_rules.specs.Transcribing.{TranscribeFault, in_round, first_of, others_of, rounds_of, counts_of, used_in}
use Rattle.mbe_rules.specs.Templates.{Template, nothing, use_of, token, subtree, repetition}
use Rattle.mbe_rules.specs.Writing.{Closing, last, shut, again, Level}

-- how many rounds, if the number is known
abbrev pub known : Result ℕ TranscribeFault → ℕ
known (Ok n) = n
known (Err fault) = 0

-- how many parts are passed in rounds
abbrev pub work_in_rounds : (work : Binding → ℕ) → ℕ → Binding → ℕ
work_in_rounds work zero binding = 0
work_in_rounds work (suc n) binding = suc (work (map (in_round first_of) binding)) + work_in_rounds work n (map (in_round others_of) binding)

-- how many parts are passed when the template is filled
abbrev pub work : Template → Binding → ℕ
work nothing binding = 0
work (use_of at variable less_follows others) binding = suc (work others binding)
work (token it others) binding = suc (work others binding)
work (subtree delimiter inner others) binding = suc (suc (work inner binding)) + work others binding
work (repetition at inner separator kind others) binding =
    suc (work_in_rounds (work inner) (known (rounds_of at kind (counts_of binding (used_in inner)))) binding) + work others binding

abbrev pub work_behind : Closing → ℕ
work_behind last = 0
work_behind (shut span) = 0
work_behind (again body separator kind left others) = work_in_rounds (work body) left others

abbrev pub work_of : List Level → ℕ
work_of [] = 0
work_of (level ∷ outer) = suc (work level.rest level.binding) + work_behind level.closing + work_of outer
