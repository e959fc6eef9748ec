-- The parts of a pattern that wait are those at which arrivals are stuck.
use Rattle.std.proofs.Common.{◌≡◌, ◌+◌, ◌<◌, ◌≤◌, ℕ, zero, suc, Bool, List, [], ◌∷◌, length, sym, subst, arith}
use Rattle.std.specs.Prelude.{slice_index_or, ◌-◌}
use Rattle.mbe_matcher.proofs.Marking.{listed_set, set_increasing, set_listed}
use Rattle.mbe_matcher.specs.Parts.{place_count, separator_count}
use Rattle.mbe_matcher.specs.Fronts.{Waits}
use Rattle.mbe_matcher.specs.Waiting.{AreWaiting, set_from}
use Rattle.mbe_pattern.specs.Patterns.{Pattern, nothing, variable, token, subtree, repetition}
use Rattle.tt.specs.Forest.{Forest, size}
use Rattle.tt.specs.Types.Leaf.{Leaf}
use Rattle.mbe_program.specs.Numbering.{IsStuckRun, part_at, parts_before, parts_of, separator_part}
use Rattle.mbe_program.specs.Program.{Instruction, program_of}
use Rattle.mbe_program.specs.Searching.{HaveAllGoneOn, log_of}
use Rattle.mbe_program.specs.Stuck.{AreStuck, HasStuck}
use Rattle.mbe_program.specs.Tables.{IsTableOf, Table}
use Rattle.mbe_program.specs.declared.search.Search.{Search}
use Rattle.mbe_program.proofs.StuckRuns.{run_stuck, stuck_run}
use Rattle.mbe_program.proofs.WaitLaw.{stuck_waits, waits_stuck}

-- all of these numbers are below a bound
abbrev AreBelow : (bound : ℕ) → List ℕ → Type 0
AreBelow bound [] = Unit {0}
AreBelow bound (number ∷ others) = (number < bound) × AreBelow bound others

separator_below : (bound : ℕ) (separator : List Leaf) (number : ℕ) (others : List ℕ) → number + separator_count separator ≤ bound → AreBelow bound others
    → AreBelow bound (separator_part separator number others)
separator_below bound [] number others most below = below
separator_below bound (it ∷ separator) number others most below = (omega (arith, most), below)

-- The numbers of a pattern's parts are below the number of what follows.
parts_below : (bound : ℕ) → 0 < bound → (at : ℕ) (pattern : Pattern) (numbers : List ℕ) → at + place_count pattern ≤ bound → AreBelow bound numbers
    → AreBelow bound (parts_before at pattern numbers)
parts_below bound some at nothing numbers most below = below
parts_below bound some at (variable it others) numbers most below = (omega (arith, most), parts_below bound some (suc at) others numbers (omega (arith, most)) below)
parts_below bound some at (token its others) numbers most below = (omega (arith, most), parts_below bound some (suc at) others numbers (omega (arith, most)) below)
parts_below bound some at (subtree kind inner others) numbers most below =
    let ends = suc at + place_count inner in
    let later = parts_below bound some (suc ends) others numbers (omega (arith, most)) below in
    (omega (arith, most), parts_below bound some (suc at) inner (ends ∷ parts_before (suc ends) others numbers) (omega (arith, most)) (omega (arith, most), later))
parts_below bound some at (repetition inner separator op others) numbers most below =
    let next = at + place_count inner + separator_count separator in
    let later = parts_below bound some next others numbers (omega (arith, most)) below in (
      some,
      separator_below bound separator (at + place_count inner) (parts_before at inner (0 ∷ parts_before next others numbers)) (omega (arith, most))
          (parts_below bound some at inner (0 ∷ parts_before next others numbers) (omega (arith, most)) (some, later)),
    )

number_below : (bound : ℕ) → 0 < bound → (numbers : List ℕ) (n : ℕ) → AreBelow bound numbers → slice_index_or numbers n 0 < bound
number_below bound some [] n below = some
number_below bound some (number ∷ others) zero below = below.0
number_below bound some (number ∷ others) (suc n) below = number_below bound some others n below.1

separator_more : (separator : List Leaf) (number : ℕ) (others : List ℕ) → length (separator_part separator number others) ≡ separator_count separator + length others
separator_more [] number others = omega arith
separator_more (it ∷ separator) number others = omega arith

-- A pattern has no more parts than instructions.
parts_more : (at : ℕ) (pattern : Pattern) (numbers : List ℕ) → place_count pattern + length numbers ≤ length (parts_before at pattern numbers)
parts_more at nothing numbers = omega arith
parts_more at (variable it others) numbers = let more = parts_more (suc at) others numbers in omega (arith, more)
parts_more at (token its others) numbers = let more = parts_more (suc at) others numbers in omega (arith, more)
parts_more at (subtree kind inner others) numbers =
    let ends = suc at + place_count inner in
    let more = parts_more (suc ends) others numbers in
    let within = parts_more (suc at) inner (ends ∷ parts_before (suc ends) others numbers) in
    omega (arith, more, within)
parts_more at (repetition inner separator op others) numbers =
    let next = at + place_count inner + separator_count separator in
    let more = parts_more next others numbers in
    let rounds = parts_before at inner (0 ∷ parts_before next others numbers) in
    let within = parts_more at inner (0 ∷ parts_before next others numbers) in
    let own = separator_more separator (at + place_count inner) rounds in
    omega (arith, more, within, own)

-- So each number beside a whole program is less than how many there are.
part_below : (pattern : Pattern) (left : ℕ) → part_at (parts_of pattern) left < length (parts_of pattern)
part_below pattern left =
    let more = parts_more 0 pattern (place_count pattern ∷ []) in
    let some : 0 < length (parts_of pattern) = omega (arith, more) in
    number_below (length (parts_of pattern)) some (parts_of pattern) (length (parts_of pattern) - left)
    (parts_below (length (parts_of pattern)) some 0 pattern (place_count pattern ∷ []) (omega (arith, more)) (omega (arith, more), tt))

module _ (program : List Instruction) (input : Forest) (table : Table) (is : IsTableOf program input table) (parts : List ℕ) (search : Search) (gone : HaveAllGoneOn program table search)
    (left : ℕ) (flags : List Bool) (are : AreStuck program table left parts (log_of search) flags) (pattern : Pattern) (program_is : program ≡ program_of pattern)
    (parts_are : parts ≡ parts_of pattern) (at : ℕ) (sum : at + left ≡ size input) where
  to_pattern : (number : ℕ) → IsStuckRun program parts input at number → Waits pattern input at number
  to_pattern number stuck =
      stuck_waits pattern input at number
      (subst (λ parts. IsStuckRun (program_of pattern) parts input at number) parts_are (subst (λ program. IsStuckRun program parts input at number) program_is stuck))

  of_pattern : (number : ℕ) → Waits pattern input at number → IsStuckRun program parts input at number
  of_pattern number waits =
      subst (λ program. IsStuckRun program parts input at number) (sym program_is)
      (subst (λ parts. IsStuckRun (program_of pattern) parts input at number) (sym parts_are) (waits_stuck pattern input at number waits))

  waits_in : (number : ℕ) → HasStuck program table left parts (log_of search) number → Waits pattern input at number
  waits_in number has = let run = stuck_run program input table is parts left number search gone has in to_pattern number (left, sum, run.0, run.1, run.2)

  has_waiting : (number : ℕ) → Waits pattern input at number → HasStuck program table left parts (log_of search) number
  has_waiting number waits =
      let run = of_pattern number waits in
      let place = run.1 in
      let same : run.0 ≡ left = omega (arith, place, sum) in
      subst (λ left. HasStuck program table left parts (log_of search) number) same (run_stuck program input table is parts run.0 number search gone run.2 run.3 run.4)

  is_below : (number : ℕ) → HasStuck program table left parts (log_of search) number → number < length flags
  is_below number (k, it, there, stuck, same) =
      subst (λ n. number < n) (sym are.count)
      (subst (λ n. n < length parts) same (subst (λ parts. part_at parts it.cell.left < length parts) (sym parts_are) (part_below pattern it.cell.left)))

  -- The numbers of the flags that are set are those of the parts that wait.
  pub are_waiting : AreWaiting pattern input at (set_from 0 flags)
  are_waiting =
      record {
        rising = set_increasing flags;
        each = λ number there. waits_in number (are.each number (listed_set flags number there));
        all = λ number waits. let has = has_waiting number waits in set_listed flags number (are.all number has (is_below number has));
      }

-- No part waits beyond the end of the input.
pub none_waiting : (pattern : Pattern) (input : Forest) (at : ℕ) → size input < at → AreWaiting pattern input at []
none_waiting pattern input at beyond =
    record {
      rising = set_increasing [];
      each = λ number there. let within = there.1 in absurd (omega (arith, within));
      all = λ number waits. let place = waits.1 in absurd (omega (arith, place, beyond));
    }
