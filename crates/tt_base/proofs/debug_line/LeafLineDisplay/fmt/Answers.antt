use Rattle.tt_base.proofs.LeafTexts.{literal_line}
use Rattle.tt_base.proofs.debug_line.LeafLineDisplay.fmt.Goals as goal

-- explicit: an automatic search for this answer takes long before it fails
pub returns-in-Literal-clause-writes : goal.returns-in-Literal-clause-writes
returns-in-Literal-clause-writes g c =
    rw (literal_line _ _ _ _ _ c.in-Literal.is c.kind.ensures c.symbol.ensures c.span.ensures) at c.write.ensures.writes
