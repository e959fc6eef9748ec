-- The trees are none of the names so far.
use Rattle.std.proofs.Common.{List, drop}
use Rattle.tt.specs.Views.{trees_of}
use Rattle.mbe_grammar.specs.Beginnings.{Beginning, AreFirstBeginnings}
use Rattle.mbe_grammar.proofs.beginning.beginnings_by_first.Given as goal

abbrev pub invariant-loop-name : goal.invariant-loop-name
invariant-loop-name l =
    (found : List Beginning) → AreFirstBeginnings (drop l.name-index l.names) l.wanted (trees_of l.trees) found → AreFirstBeginnings l.fn.names l.fn.wanted (trees_of l.fn.trees) found
