use Rattle.mbe_program.proofs.Short.{few_arrivals, few_positions}
use Rattle.mbe_program.proofs.laws.searches_are_short.Goals as goal

pub returns-clause-arrivals : goal.returns-clause-arrivals
returns-clause-arrivals c = few_arrivals

pub returns-clause-positions : goal.returns-clause-positions
returns-clause-positions c = few_positions
