use Rattle.mbe_program.proofs.Law.{none_runs, no_run_reads, one_run_again, one_run_reads, two_run, two_runs_read}
use Rattle.mbe_program.proofs.laws.as_many_runs.Goals as goal

pub returns-clause-none : goal.returns-clause-none
returns-clause-none c = λ pattern input. (no_run_reads pattern input, none_runs pattern input)

pub returns-clause-one : goal.returns-clause-one
returns-clause-one c = λ pattern input notes. (one_run_reads pattern input notes, one_run_again pattern input notes)

pub returns-clause-two : goal.returns-clause-two
returns-clause-two c = λ pattern input. (two_runs_read pattern input, two_run pattern input)
