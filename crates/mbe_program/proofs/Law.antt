-- The runs of a pattern's program are the readings of the pattern.
use Rattle.std.proofs.Common.{◌≡◌, ℕ, zero, suc, List, [], ◌∷◌, refl, ap, sym, subst, ◌∙◌}
use Rattle.mbe_matcher.specs.Marks.{Note, notes_of, notes_before}
use Rattle.mbe_matcher.specs.Readings.{Reading, Takes, IsInstance, IsNoInstance, IsReadBy, IsAmbiguous}
use Rattle.mbe_pattern.specs.Patterns.{Pattern}
use Rattle.tt.specs.Forest.{Forest, end}
use Rattle.mbe_program.specs.Answers.{HasNoRun, HasOneRun, HasTwoRuns}
use Rattle.mbe_program.specs.Program.{Instruction, leave, program_of}
use Rattle.mbe_program.specs.Runs.{Goes, IsOver, IsRun}
use Rattle.mbe_program.proofs.Backward.{run_reads}
use Rattle.mbe_program.proofs.Forward.{reading_goes}
use Rattle.mbe_program.proofs.SameNotes.{same_readings}

-- A reading is a run,
pub reading_runs : (pattern : Pattern) (input : Forest) (reading : Reading) → IsInstance pattern input reading → IsRun (program_of pattern) input (notes_of pattern reading)
reading_runs pattern input reading is =
    reading_goes (program_of pattern) IsOver pattern (leave ∷ []) 1 [] input end reading [] refl ([], refl) is (1, (refl, ((refl, refl), refl)))

-- a run ends at the end of the input,
at_end : (program : List Instruction) (rest : Forest) (n : ℕ) (notes : List Note) → Goes program IsOver n (leave ∷ []) (rest ∷ []) notes → (rest ≡ end) × (notes ≡ [])
at_end program rest zero notes goes = let none : rest ∷ [] ≡ [] = goes.0.1 in absurd (cc none)
at_end program rest (suc zero) notes (over, (_, same)) = (over, same)
at_end program rest (suc (suc n)) notes (over, goes) = absurd goes

-- and is a reading.
pub run_is_reading : (pattern : Pattern) (input : Forest) (notes : List Note) → IsRun (program_of pattern) input notes
    → (reading : Reading) × IsInstance pattern input reading × (notes ≡ notes_of pattern reading)
run_is_reading pattern input notes (n, goes) =
    let own = run_reads (program_of pattern) pattern (leave ∷ []) 1 [] refl ([], refl) n input notes goes in
    let last = at_end (program_of pattern) own.rest own.steps own.more own.goes in (
      own.reading,
      subst (λ rest. Takes pattern input own.reading rest) last.0 own.reads,
      own.same ∙ ap (notes_before pattern 1 own.reading) last.1,
    )

-- Two readings with the same notes are the same.
pub same_reading : (pattern : Pattern) (input : Forest) (one other : Reading) → IsInstance pattern input one → IsInstance pattern input other
    → notes_of pattern one ≡ notes_of pattern other → one ≡ other
same_reading pattern input one other is was same = (same_readings pattern 1 input one other end end [] [] is was same).readings

-- So there are as many runs as readings: none,
pub none_runs : (pattern : Pattern) (input : Forest) → IsNoInstance pattern input → HasNoRun (program_of pattern) input
none_runs pattern input none notes run = let own = run_is_reading pattern input notes run in none own.0 own.1

pub no_run_reads : (pattern : Pattern) (input : Forest) → HasNoRun (program_of pattern) input → IsNoInstance pattern input
no_run_reads pattern input none reading is = none (notes_of pattern reading) (reading_runs pattern input reading is)

-- exactly one,
one_runs : (pattern : Pattern) (input : Forest) (reading : Reading) → IsReadBy pattern input reading → HasOneRun (program_of pattern) input (notes_of pattern reading)
one_runs pattern input reading is =
    record { runs = reading_runs pattern input reading is.holds; alone = alone }
  where
    alone : (other : List Note) → IsRun (program_of pattern) input other → other ≡ notes_of pattern reading
    alone other run = let own = run_is_reading pattern input other run in own.2 ∙ ap (notes_of pattern) (is.alone own.0 own.1)

pub one_run_again : (pattern : Pattern) (input : Forest) (notes : List Note) → ((reading : Reading) × IsReadBy pattern input reading × (notes ≡ notes_of pattern reading))
    → HasOneRun (program_of pattern) input notes
one_run_again pattern input notes (reading, is, same) = subst (HasOneRun (program_of pattern) input) (sym same) (one_runs pattern input reading is)

pub one_run_reads : (pattern : Pattern) (input : Forest) (notes : List Note) → HasOneRun (program_of pattern) input notes
    → (reading : Reading) × IsReadBy pattern input reading × (notes ≡ notes_of pattern reading)
one_run_reads pattern input notes has =
    (own.0, record { holds = own.1; alone = alone }, own.2)
  where
    own : (reading : Reading) × IsInstance pattern input reading × (notes ≡ notes_of pattern reading)
    own = run_is_reading pattern input notes has.runs

    alone : (other : Reading) → IsInstance pattern input other → other ≡ own.0
    alone other is = same_reading pattern input other own.0 is own.1 (has.alone (notes_of pattern other) (reading_runs pattern input other is) ∙ own.2)

-- or at least two.
pub two_run : (pattern : Pattern) (input : Forest) → IsAmbiguous pattern input → HasTwoRuns (program_of pattern) input
two_run pattern input two =
    record {
      one = notes_of pattern two.one;
      other = notes_of pattern two.other;
      differ = λ same. two.differ (same_reading pattern input two.one two.other two.one_holds two.other_holds same);
      one_runs = reading_runs pattern input two.one two.one_holds;
      other_runs = reading_runs pattern input two.other two.other_holds;
    }

pub two_runs_read : (pattern : Pattern) (input : Forest) → HasTwoRuns (program_of pattern) input → IsAmbiguous pattern input
two_runs_read pattern input two =
    let one = run_is_reading pattern input two.one two.one_runs in
    let other = run_is_reading pattern input two.other two.other_runs in
    record {
      one = one.0;
      other = other.0;
      differ = λ same. two.differ (one.2 ∙ ap (notes_of pattern) same ∙ sym other.2);
      one_holds = one.1;
      other_holds = other.1;
    }
