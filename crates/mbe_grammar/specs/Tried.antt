-- The units that a step of the machine tries, and how they are noted.
use Rattle.std.specs.Prelude.{◌≡◌, ◌<◌, ◌≤◌, ◌==◌, ◌⊎◌, ℕ, suc, ◌-◌, nat_lt, Bool, false, List, [], ◌∷◌, length, Option, None, Some, slice_get, if◌then◌else◌}
use Rattle.mbe_grammar.specs.declared.machine.Frame.{Frame}
use Rattle.mbe_grammar.specs.declared.machine.Frame.TheVariants as frame
use Rattle.mbe_grammar.specs.declared.machine.State.{State}
use Rattle.mbe_grammar.specs.declared.machine.State.TheVariants as state
use Rattle.mbe_grammar.specs.declared.rule.Rule.{Rule}
use Rattle.mbe_grammar.specs.declared.rule.Rule.TheVariants as rule
use Rattle.mbe_grammar.specs.declared.trying.Wanted.{Wanted}
use Rattle.mbe_grammar.specs.Machine as machine
use Rattle.mbe_grammar.specs.Trying.{IsOneOf, IsListed, IsAscending}

-- the unit that a sequence tries as it begins: its first part, if that is a unit
abbrev pub tried_first : (first : ℕ) → Option Rule → Option ℕ
tried_first first (Some (rule.Unit wanted)) = Some first
tried_first first _ = None

-- the unit that an expression tries as it begins
abbrev pub tried_by : List Rule → (at : ℕ) → Option Rule → Option ℕ
tried_by rules at (Some (rule.Unit wanted)) = Some at
tried_by rules at (Some (rule.Sequence first second)) = tried_first first (slice_get rules first)
tried_by rules at _ = None

-- the unit that a step tries while that many negations wait
abbrev pub tried_now : List Rule → State → (negations : ℕ) → Option ℕ
tried_now rules (state.Answered ends) negations = None
tried_now rules (state.Reading at) negations = if negations == 0 then tried_by rules at (slice_get rules at) else None

-- how many negations wait
abbrev pub negations : List machine.Frame → ℕ
negations [] = 0
negations (machine.in_name since ∷ older) = negations older
negations (machine.in_sequence second ∷ older) = negations older
negations (machine.in_choice other from ∷ older) = negations older
negations (machine.in_repetition at from ∷ older) = negations older
negations (machine.in_not from ∷ older) = suc (negations older)

-- how many wait after an expression begins, and after the newest frame has its answer
abbrev pub more_negations : Option Rule → ℕ → ℕ
more_negations (Some (rule.Not part)) n = suc n
more_negations _ n = n

abbrev pub fewer_negations : Option Frame → ℕ → ℕ
fewer_negations (Some (frame.InNot kept)) n = n - 1
fewer_negations _ n = n

-- how many wait after a step
abbrev pub negations_after : List Rule → State → (newest : Option Frame) → ℕ → ℕ
negations_after rules (state.Reading at) newest n = more_negations (slice_get rules at) n
negations_after rules (state.Answered ends) newest n = fewer_negations newest n

-- how many of the first numbers are less
abbrev pub rank_among : (it : ℕ) → List ℕ → ℕ
rank_among it [] = 0
rank_among it (this ∷ others) = if nat_lt this it then suc (rank_among it others) else 0

-- the number is that one
abbrev pub is_at : Option ℕ → (it : ℕ) → Bool
is_at None it = false
is_at (Some other) it = other == it

-- a unit that was tried after that many trees counts: others were tried farther on, or it is listed
abbrev pub Counts : Wanted → (unit passed : ℕ) → Type 0
Counts wanted unit passed = (passed < wanted.passed) ⊎ ((passed ≡ wanted.passed) × IsListed wanted.units.items unit)

-- the list is in order, and has no more than eight units
abbrev pub IsShort : Wanted → Type 0
IsShort wanted = IsAscending wanted.units.items × (length wanted.units.items ≤ 8)

-- the unit that was tried after that many trees, if any, was noted
pub record IsNoted (tried : Option ℕ) (passed : ℕ) (old new : Wanted) : Type 0 where
  pub held : (unit : ℕ) → tried ≡ Some unit → Counts new unit passed
  pub more : (unit place : ℕ) → Counts old unit place → Counts new unit place
  pub less : (unit : ℕ) → IsOneOf new.units.items unit → ((tried ≡ Some unit) × (new.passed ≡ passed)) ⊎ (IsOneOf old.units.items unit × (new.passed ≡ old.passed))
  pub short : IsShort new
  pub nothing : new.units.items ≡ [] → (old.units.items ≡ []) × (new.passed ≡ old.passed)

-- the expression ends after that many trees: if they are more than those of the place that was kept, then that is the place, and no unit is
-- listed there
abbrev pub IsStopped : (passed : ℕ) → (old new : Wanted) → Type 0
IsStopped passed old new =
    ((old.passed < passed) × (new.passed ≡ passed) × (new.units.items ≡ [])) ⊎ ((passed ≤ old.passed) × (new ≡ old))
