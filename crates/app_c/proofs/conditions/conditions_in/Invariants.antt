-- The texts that were read say what is true so far, and the rest has the others.
use Rattle.std.proofs.Common.{length}
use denote.Shadow.{shadow}
use denote.Text.{Utf8}
use Rattle.app_c.proofs.Said.{HaveSaid}
use Rattle.app_c.proofs.conditions.conditions_in.Given as goal
use Rattle.expand_items.specs.Cfg.{known_of}

abbrev pub invariant-loop-rest : goal.invariant-loop-rest
invariant-loop-rest l = shadow (Utf8 l.rest) × HaveSaid l.fn.cfg l.rest (known_of l.options) l.count

abbrev pub decreases-loop-rest : goal.decreases-loop-rest
decreases-loop-rest l = length l.rest
