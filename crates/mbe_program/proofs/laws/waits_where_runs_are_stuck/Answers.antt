use Rattle.mbe_program.proofs.WaitLaw.{stuck_waits, waits_stuck}
use Rattle.mbe_program.proofs.laws.waits_where_runs_are_stuck.Goals as goal

pub returns : goal.returns
returns c = λ pattern input at number. (waits_stuck pattern input at number, stuck_waits pattern input at number)
