-- A pattern stops where its program stops.
use Rattle.std.proofs.Common.{◌+◌, ℕ, suc, List, [], ◌∷◌}
use Rattle.mbe_matcher.specs.Parts.{place_count, separator_count}
use Rattle.mbe_matcher.specs.Fronts.{HasLeft, StopsAt}
use Rattle.mbe_pattern.specs.Patterns.{Pattern, nothing, variable, token, subtree, repetition}
use Rattle.tt.specs.Forest.{Forest}
use Rattle.tt.specs.Types.Leaf.{Leaf}
use Rattle.mbe_program.specs.Answers.{HasLeft as RunHasLeft, Reach}
use Rattle.mbe_program.specs.Program.{Instruction, leave, instructions_before, program_of}
use Rattle.mbe_program.proofs.Fits.{Fits, FitsSeparator, FitsWhole}
use Rattle.mbe_program.proofs.FrontBackward.{program_comes}
use Rattle.mbe_program.proofs.FrontForward.{program_leads}
use Rattle.mbe_program.proofs.Rounds.{close_place, round_place}

-- As many tokens are left of a run as of a pattern, at each part,
separator_fits : (left : ℕ) (separator : List Leaf) (part : ℕ) (round : List Instruction) → FitsSeparator (RunHasLeft left) (HasLeft left) separator part round
separator_fits left [] part round = tt
separator_fits left (it ∷ others) part round = λ trees outer. (λ last. last, λ next. next)

pattern_fits : (left at : ℕ) (pattern : Pattern) (behind : List Instruction) → Fits (RunHasLeft left) (HasLeft left) at pattern behind
pattern_fits left at nothing behind = tt
pattern_fits left at (variable it others) behind = (λ trees outer. (λ last. last, λ next. next), pattern_fits left (suc at) others behind)
pattern_fits left at (token its others) behind = (λ trees outer. (λ last. last, λ next. next), pattern_fits left (suc at) others behind)
pattern_fits left at (subtree kind inner others) behind = (
  λ trees outer. (λ last. last, λ next. next),
  λ trees outer. (λ last. last, λ next. next),
  pattern_fits left (suc at) inner (leave ∷ instructions_before others behind),
  pattern_fits left (suc (suc at + place_count inner)) others behind,
)
pattern_fits left at (repetition inner separator op others) behind = (
  λ levels last. last,
  λ levels last. last,
  separator_fits left separator (at + place_count inner) (round_place inner separator op (instructions_before others behind)),
  pattern_fits left at inner (close_place inner separator op (instructions_before others behind)),
  pattern_fits left (at + place_count inner + separator_count separator) others behind,
)

whole_fits : (left : ℕ) (pattern : Pattern) → FitsWhole (RunHasLeft left) (HasLeft left) pattern
whole_fits left pattern = record { parts = pattern_fits left 0 pattern (leave ∷ []); last = λ trees outer. (λ last. last, λ next. next); over = λ last. last }

-- so the pattern stops where its program does.
pub stops_reached : (pattern : Pattern) (input : Forest) (at : ℕ) → Reach (program_of pattern) input at → StopsAt pattern input at
stops_reached pattern input at is =
    record {
      left = is.left;
      comes = program_comes (RunHasLeft is.left) (HasLeft is.left) pattern input (whole_fits is.left pattern) is.reaches;
      least = λ other comes. is.least other (program_leads (RunHasLeft other) (HasLeft other) pattern input (whole_fits other pattern) comes);
      place = is.place;
    }

pub reached_stops : (pattern : Pattern) (input : Forest) (at : ℕ) → StopsAt pattern input at → Reach (program_of pattern) input at
reached_stops pattern input at is =
    record {
      left = is.left;
      reaches = program_leads (RunHasLeft is.left) (HasLeft is.left) pattern input (whole_fits is.left pattern) is.comes;
      least = λ other reaches. is.least other (program_comes (RunHasLeft other) (HasLeft other) pattern input (whole_fits other pattern) reaches);
      place = is.place;
    }
