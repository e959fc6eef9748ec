-- The machine ends with an answer that the expression has. What it tries counts, or the rest of the run tries it.
use Rattle.std.proofs.Common.{◌≡◌, false, reverse, length}
use Rattle.tt.specs.Views.{trees_of}
use Rattle.mbe_grammar.specs.Places.{position_of, trees_in, IsDecoded}
use Rattle.mbe_grammar.specs.Positions.{first_position}
use Rattle.mbe_grammar.specs.Running.{state_at, frames_of, HasRoom}
use Rattle.mbe_grammar.specs.Tried.{negations}
use Rattle.mbe_grammar.proofs.Reaching.{Reaches, steps_left}
use Rattle.mbe_grammar.proofs.Wanting.{Seeks}
use Rattle.mbe_grammar.proofs.trying.wanted_from.Given as goal

pub record Searches (Reached Seeking Roomy Counted Same Decoded : Type 0) : Type 0 where
  pub reaches : Reached
  pub seeks : Seeking
  pub room : Roomy
  pub counted : Counted
  pub same : Same
  pub decoded : Decoded

abbrev pub invariant-loop-wanted : goal.invariant-loop-wanted
invariant-loop-wanted l =
    Searches
    (Reaches false l.table.known.now l.table.rules.now l.at (first_position (trees_of l.trees)) (state_at (position_of (trees_of l.trees) l.log.items l.here) l.state) (frames_of (trees_of l.trees) l.log.items (reverse l.frames.items)))
    (Seeks l.table.rules.now l.at (first_position (trees_of l.trees)) (state_at (position_of (trees_of l.trees) l.log.items l.here) l.state) (frames_of (trees_of l.trees) l.log.items (reverse l.frames.items)) l.wanted)
    (HasRoom (length l.log.items) (reverse l.frames.items))
    (l.waiting ≡ negations (frames_of (trees_of l.trees) l.log.items (reverse l.frames.items)))
    (trees_in l.units ≡ trees_of l.trees)
    (IsDecoded l.units l.here)

abbrev pub decreases-loop-wanted : goal.decreases-loop-wanted
decreases-loop-wanted l =
    steps_left false l.table.known.now l.table.rules.now (record { marks = l.table.marks.now; are_right = l.table.good }) l.table.right (state_at (position_of (trees_of l.trees) l.log.items l.here) l.state) (frames_of (trees_of l.trees) l.log.items (reverse l.frames.items))
