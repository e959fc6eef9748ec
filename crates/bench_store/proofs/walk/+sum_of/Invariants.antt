use Rattle.bench_store.proofs.walk.+sum_of.Given as goal

abbrev pub decreases-sum_of : goal.decreases-sum_of
decreases-sum_of g l = l.levels
