-- What is listed, and the tokens ahead, make all.
use Rattle.std.proofs.Common.{length}
use Rattle.tt_base.specs.Walk.{events_ahead}
use Rattle.tt_view.specs.Views.{trees_of}
use Rattle.app_c.proofs.Seen.{IsListedUpTo}
use Rattle.app_c.proofs.tokens.tokens_of.Given as goal

abbrev pub invariant-walk : goal.invariant-walk
invariant-walk l = IsListedUpTo (trees_of l.fn.trees) l.cursor l.listing

abbrev pub decreases-walk : goal.decreases-walk
decreases-walk l = length (events_ahead l.cursor)
