use Rattle.std.proofs.Common.{refl, subst, sym}
use Rattle.std.specs.Prelude.{codes}
use Rattle.syntax_layout.proofs.GapChunks.{no_gap}
use Rattle.syntax_layout.proofs.LineGaps.{part_gap}
use Rattle.syntax_layout.proofs.pieces.line_of.Goals as goal
use Rattle.syntax_layout.specs.Gap.{IsGap}

pub returns-in-Some-clause-gap : goal.returns-in-Some-clause-gap
returns-in-Some-clause-gap c =
    subst IsGap (sym c.in-Some.ensures.cases.0) (part_gap c.if-is_apart.start c.saturating_add.result (codes "\n\n                                ") refl)

pub returns-in-None-clause-gap : goal.returns-in-None-clause-gap
returns-in-None-clause-gap c = no_gap
