use Rattle.mbe_program.proofs.FrontLaw.{reached_stops, stops_reached}
use Rattle.mbe_program.proofs.laws.stops_where_runs_stop.Goals as goal

pub returns : goal.returns
returns c = λ pattern input at. (stops_reached pattern input at, reached_stops pattern input at)
