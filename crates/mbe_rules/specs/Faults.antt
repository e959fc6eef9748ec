-- The fault of filling that a template shows, whatever the input.
use Rattle.std.specs.Prelude.{ℕ, zero, suc, List, [], ◌∷◌, ◌++◌, Option, None, Some, nat_lt, if◌then◌else◌}
use Rattle.mbe_matcher.specs.Grouping.{Where}
use Rattle.mbe_rules.specs.declared.rules_error.ExpandError.{ExpandError}
use Rattle.mbe_rules.specs.declared.transcribe_error.TranscribeError.{TranscribeError}
use Rattle.mbe_rules.specs.declared.transcribe_error.TranscribeError.TheVariants as error
use Rattle.mbe_rules.specs.Arms.{Arm, variables}
use Rattle.mbe_rules.specs.Templates.{Template, nothing, use_of, token, subtree, repetition, depth_of, deepest}

-- the first, or otherwise the other
abbrev pub or_else : Option TranscribeError → Option TranscribeError → Option TranscribeError
or_else None other = other
or_else (Some it) other = Some it

-- a use must be in at least as many repetitions as its variable
abbrev pub use_fault : (at depth bound : ℕ) → Option TranscribeError
use_fault at depth bound = if nat_lt depth bound then Some (error.StillRepeats at) else None

-- a repetition must use a variable that is in more repetitions than enclose the repetition
abbrev pub round_fault : (at depth deep : ℕ) → Option TranscribeError
round_fault at depth deep = if nat_lt depth deep then None else Some (error.NothingRepeats at)

-- the first fault in reading order, if that many repetitions enclose the template
abbrev pub fault_at : List Where → (depth : ℕ) → Template → Option TranscribeError
fault_at variables depth nothing = None
fault_at variables depth (use_of at variable less_follows others) = or_else (use_fault at depth (depth_of variables variable)) (fault_at variables depth others)
fault_at variables depth (token it others) = fault_at variables depth others
fault_at variables depth (subtree delimiter inner others) = or_else (fault_at variables depth inner) (fault_at variables depth others)
fault_at variables depth (repetition at inner separator kind others) =
    or_else (round_fault at depth (deepest variables inner)) (or_else (fault_at variables (suc depth) inner) (fault_at variables depth others))

-- the first fault of a template
abbrev pub template_fault : List Where → Template → Option TranscribeError
template_fault variables template = fault_at variables zero template

-- the fault of the arm of that number, if there is one
abbrev pub fault_in_arm : (number : ℕ) → Option TranscribeError → List ExpandError
fault_in_arm number None = []
fault_in_arm number (Some fault) = record { arm = number; fault = fault } ∷ []

-- the first fault of each arm's template; the first of these arms has that number
abbrev pub faults_of : List Arm → (number : ℕ) → List ExpandError
faults_of [] number = []
faults_of (arm ∷ others) number = fault_in_arm number (template_fault (variables arm.pattern) arm.template) ++ faults_of others (suc number)
