-- A part of a pattern waits where runs of the pattern's program are stuck at it.
use Rattle.std.proofs.Common.{◌+◌, ℕ, suc, List, [], ◌∷◌, length, refl, sym, ◌∙◌}
use Rattle.std.specs.Prelude.{◌↔◌}
use Rattle.mbe_matcher.specs.Parts.{place_count, separator_count}
use Rattle.mbe_matcher.specs.Fronts.{HasMissed, Waits}
use Rattle.mbe_matcher.specs.Labels.{Label}
use Rattle.mbe_matcher.specs.Labels as label
use Rattle.mbe_matcher.specs.Marks.{step_count}
use Rattle.mbe_matcher.specs.Places.{IsStuck}
use Rattle.mbe_pattern.specs.Patterns.{Pattern, nothing, variable, token, subtree, repetition}
use Rattle.tt.specs.Forest.{Forest}
use Rattle.tt.specs.Types.Leaf.{Leaf}
use Rattle.mbe_program.specs.Numbering.{HasMissed as RunHasMissed, IsStuckAt, IsStuckRun, parts_before, parts_of, separator_part}
use Rattle.mbe_program.specs.Program.{Instruction, take, pass, enter, leave, begin, close, again_at, separator_before, instructions_before, program_of}
use Rattle.mbe_program.proofs.Beside.{IsBeside, number_at, beside_first, beside_separator, beside_behind, parts_even}
use Rattle.mbe_program.proofs.Fits.{Fits, FitsAt, FitsSeparator, FitsWhole, StopsLater}
use Rattle.mbe_program.proofs.FrontBackward.{program_comes}
use Rattle.mbe_program.proofs.FrontForward.{program_leads}
use Rattle.mbe_program.proofs.Rounds.{close_place, round_place}

module _ (parts : List ℕ) (left number : ℕ) where
  -- A run misses what the pattern misses, at an instruction that is a part,
  part_fits : (at : ℕ) (others : List ℕ) (it : Instruction) (rest : List Instruction) (its : Label) → ((trees : Forest) → IsStuckAt it trees ↔ IsStuck its trees)
      → IsBeside parts (at ∷ others) (it ∷ rest) → FitsAt (RunHasMissed parts left number) (HasMissed left number) (it ∷ rest) at its
  part_fits at others it rest its same is =
      let is_at = number_at parts at others it rest is in
      λ trees outer. (λ last. (sym is_at ∙ last.0, last.1, (same trees).0 last.2), λ next. (is_at ∙ next.0, next.1, (same trees).1 next.2))

  separator_fits : (separator : List Leaf) (at : ℕ) (others : List ℕ) (round : List Instruction)
      → IsBeside parts (separator_part separator at others) (separator_before separator round) → FitsSeparator (RunHasMissed parts left number) (HasMissed left number) separator at round
  separator_fits [] at others round is = tt
  separator_fits (it ∷ separator) at others round is =
      part_fits at others (pass (it ∷ separator)) round (label.same (it ∷ separator)) (λ trees. (λ stuck. stuck, λ stuck. stuck)) is

  stuck_nowhere : (it : Instruction) (rest other : List Instruction) → ((trees : Forest) → IsStuckAt it trees → ⊥) → StopsLater (RunHasMissed parts left number) (HasMissed left number) (it ∷ rest) other
  stuck_nowhere it rest other never [] last = absurd last
  stuck_nowhere it rest other never (trees ∷ outer) last = absurd (never trees last.2)

  -- so at each part of a pattern whose numbers are beside its instructions.
  pattern_fits : (at : ℕ) (pattern : Pattern) (numbers : List ℕ) (behind : List Instruction) → IsBeside parts (parts_before at pattern numbers) (instructions_before pattern behind)
      → Fits (RunHasMissed parts left number) (HasMissed left number) at pattern behind
  pattern_fits at nothing numbers behind is = tt
  pattern_fits at (variable it others) numbers behind is =
      let later = parts_before (suc at) others numbers in
      let after = instructions_before others behind in (
        part_fits at later (take it) after (label.take it) (λ trees. (λ stuck. stuck, λ stuck. stuck)) is,
        pattern_fits (suc at) others numbers behind (beside_first parts at later (take it) after is),
      )
  pattern_fits at (token its others) numbers behind is =
      let later = parts_before (suc at) others numbers in
      let after = instructions_before others behind in (
        part_fits at later (pass its) after (label.same its) (λ trees. (λ stuck. stuck, λ stuck. stuck)) is,
        pattern_fits (suc at) others numbers behind (beside_first parts at later (pass its) after is),
      )
  pattern_fits at (subtree kind inner others) numbers behind is =
      let ends = suc at + place_count inner in
      let later = parts_before (suc ends) others numbers in
      let after = instructions_before others behind in
      let within = parts_before (suc at) inner (ends ∷ later) in
      let inside = instructions_before inner (leave ∷ after) in
      let is_inside = beside_first parts at within (enter kind) inside is in
      let is_last = beside_behind parts (suc at) inner (ends ∷ later) (leave ∷ after) is_inside in (
        part_fits at within (enter kind) inside (label.enter kind) (λ trees. (λ stuck. stuck, λ stuck. stuck)) is,
        part_fits ends later leave after label.leave (λ trees. (λ stuck. stuck, λ stuck. stuck)) is_last,
        pattern_fits (suc at) inner (ends ∷ later) (leave ∷ after) is_inside,
        pattern_fits (suc ends) others numbers behind (beside_first parts ends later leave after is_last),
      )
  pattern_fits at (repetition inner separator op others) numbers behind is =
      let next = at + place_count inner + separator_count separator in
      let after = instructions_before others behind in
      let later = parts_before next others numbers in
      let ends = close_place inner separator op after in
      let round = round_place inner separator op after in
      let rounds = parts_before at inner (0 ∷ later) in
      let is_separated = beside_first parts 0 (separator_part separator (at + place_count inner) rounds) (begin op (step_count inner + suc (length after)) (length after)) (separator_before separator round) is in
      let is_round = beside_separator parts separator (at + place_count inner) rounds round is_separated in
      let is_end = beside_behind parts at inner (0 ∷ later) ends is_round in (
        stuck_nowhere (begin op (step_count inner + suc (length after)) (length after)) (separator_before separator round) round (λ trees stuck. stuck),
        stuck_nowhere (close op (again_at separator (step_count inner) (length after))) after after (λ trees stuck. stuck),
        separator_fits separator (at + place_count inner) rounds round is_separated,
        pattern_fits at inner (0 ∷ later) ends is_round,
        pattern_fits next others numbers behind (beside_first parts 0 later (close op (again_at separator (step_count inner) (length after))) after is_end),
      )

module _ (pattern : Pattern) (left number : ℕ) where
  is_whole : IsBeside (parts_of pattern) (parts_of pattern) (program_of pattern)
  is_whole = ([], refl, parts_even 0 pattern (place_count pattern ∷ []) (leave ∷ []) refl)

  whole_fits : FitsWhole (RunHasMissed (parts_of pattern) left number) (HasMissed left number) pattern
  whole_fits =
      record {
        parts = pattern_fits (parts_of pattern) left number 0 pattern (place_count pattern ∷ []) (leave ∷ []) is_whole;
        last =
            part_fits (parts_of pattern) left number (place_count pattern) [] leave [] label.leave (λ trees. (λ stuck. stuck, λ stuck. stuck))
            (beside_behind (parts_of pattern) 0 pattern (place_count pattern ∷ []) (leave ∷ []) is_whole);
        over = λ none. absurd none;
      }

-- So a part waits where a run is stuck at it.
pub waits_stuck : (pattern : Pattern) (input : Forest) (at number : ℕ) → Waits pattern input at number → IsStuckRun (program_of pattern) (parts_of pattern) input at number
waits_stuck pattern input at number (left, place, comes) =
    let led = program_leads (RunHasMissed (parts_of pattern) left number) (HasMissed left number) pattern input (whole_fits pattern left number) comes in
    (left, place, led.0, led.1, led.2)

pub stuck_waits : (pattern : Pattern) (input : Forest) (at number : ℕ) → IsStuckRun (program_of pattern) (parts_of pattern) input at number → Waits pattern input at number
stuck_waits pattern input at number (left, place, steps, notes, goes) = (
  left,
  place,
  program_comes (RunHasMissed (parts_of pattern) left number) (HasMissed left number) pattern input (whole_fits pattern left number) (steps, notes, goes),
)
