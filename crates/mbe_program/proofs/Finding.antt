-- How the program of a pattern runs through an input is how the pattern reads it.
use Rattle.std.proofs.Common.{ℕ, map, ap, ◌∙◌}
use Rattle.tt.specs.Forest.{Forest}
use Rattle.mbe_matcher.specs.declared.binding.Found.TheVariants as found
use Rattle.mbe_matcher.specs.declared.binding.Binding.{Binding}
use Rattle.mbe_matcher.specs.Finding.{IsFound}
use Rattle.mbe_matcher.specs.Grouping.{variables_of, binding_by}
use Rattle.mbe_matcher.specs.Marks.{note_of}
use Rattle.mbe_matcher.proofs.BindRounds.{binds}
use Rattle.mbe_pattern.specs.Patterns.{Pattern}
use Rattle.mbe_program.specs.Answers.{HasNoRun, HasOneRun, HasTwoRuns, Reach}
use Rattle.mbe_program.specs.Program.{program_of}
use Rattle.mbe_program.proofs.FrontLaw.{stops_reached}
use Rattle.mbe_program.proofs.Law.{no_run_reads, one_run_reads, two_runs_read}

module _ (pattern : Pattern) (input : Forest) where
  pub found_nothing : (at : ℕ) → HasNoRun (program_of pattern) input → Reach (program_of pattern) input at → IsFound pattern input (found.Nothing at)
  found_nothing at none reach = (no_run_reads pattern input none, stops_reached pattern input at reach)

  pub found_one : (binding : Binding) → HasOneRun (program_of pattern) input (map note_of binding.marks.items) → IsFound pattern input (found.One binding)
  found_one binding has =
      let own = one_run_reads pattern input (map note_of binding.marks.items) has in
      (own.0, own.1, own.2, ap (binding_by (variables_of pattern 1)) own.2 ∙ binds pattern input own.0 own.1.holds)

  pub found_many : HasTwoRuns (program_of pattern) input → IsFound pattern input found.Many
  found_many two = two_runs_read pattern input two
