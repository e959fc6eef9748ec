use Rattle.mbe_program.proofs.Law.{reading_runs, run_is_reading, same_reading}
use Rattle.mbe_program.proofs.laws.runs_are_readings.Goals as goal

pub returns-clause-runs : goal.returns-clause-runs
returns-clause-runs c = reading_runs

pub returns-clause-reads : goal.returns-clause-reads
returns-clause-reads c = run_is_reading

pub returns-clause-differ : goal.returns-clause-differ
returns-clause-differ c = same_reading
