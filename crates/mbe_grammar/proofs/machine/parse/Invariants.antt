-- The machine ends with an answer that the expression has.
use Rattle.std.proofs.Common.{◌≡◌, reverse, length}
use Rattle.mbe_grammar.specs.Places.{position_of, trees_in, IsDecoded}
use Rattle.mbe_grammar.specs.Running.{state_at, frames_of, HasRoom, HasFloor, Extends}
use Rattle.mbe_grammar.proofs.Reaching.{Reaches, steps_left}
use Rattle.mbe_grammar.proofs.machine.parse.Given as goal

pub record Runs (Reached Roomy Floored Kept Same Decoded : Type 0) : Type 0 where
  pub reaches : Reached
  pub room : Roomy
  pub floor : Floored
  pub kept : Kept
  pub same : Same
  pub decoded : Decoded

abbrev pub invariant-loop-next : goal.invariant-loop-next
invariant-loop-next l =
    Runs
    (Reaches l.noting l.table.known.now l.table.rules.now l.at (position_of (trees_in l.initial.units) l.initial.log.items 0) (state_at (position_of (trees_in l.initial.units) l.log.items l.here) l.state) (frames_of (trees_in l.initial.units) l.log.items (reverse l.frames.items)))
    (HasRoom (length l.log.items) (reverse l.frames.items))
    (HasFloor (length l.initial.log.items) (length l.log.items) (reverse l.frames.items))
    (Extends l.initial.log.items l.log.items)
    (trees_in l.units ≡ trees_in l.initial.units)
    (IsDecoded l.units l.here)

abbrev pub decreases-loop-next : goal.decreases-loop-next
decreases-loop-next l =
    steps_left l.noting l.table.known.now l.table.rules.now (record { marks = l.table.marks.now; are_right = l.table.good }) l.table.right (state_at (position_of (trees_in l.initial.units) l.log.items l.here) l.state) (frames_of (trees_in l.initial.units) l.log.items (reverse l.frames.items))
