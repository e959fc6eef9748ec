use Rattle.syntax_layout.proofs.GapChunks.{no_gap}
use Rattle.syntax_layout.proofs.SpaceGaps.{space_gap}
use Rattle.syntax_layout.proofs.pieces.gap_of.Goals as goal

pub returns-in-Empty-clause-gap : goal.returns-in-Empty-clause-gap
returns-in-Empty-clause-gap c = no_gap

pub returns-in-Space-clause-gap : goal.returns-in-Space-clause-gap
returns-in-Space-clause-gap c = space_gap
