use Rattle.std.proofs.Common.{length}
use Rattle.tt.specs.Walk.{events_ahead}
use Rattle.bench_store.proofs.walk.by_cursor.Given as goal

abbrev pub decreases-loop-cursor : goal.decreases-loop-cursor
decreases-loop-cursor l = length (events_ahead l.cursor)
