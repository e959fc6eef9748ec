use Rattle.tt_base.proofs.LeafTexts.{string_text}
use Rattle.tt_base.proofs.literal_text.LiteralDisplay.fmt.Goals as goal

-- explicit: an automatic search for this answer takes long before it fails
pub returns-in-Str-clause-writes : goal.returns-in-Str-clause-writes
returns-in-Str-clause-writes g c =
    rw (string_text c.args.self.now _ _ _ c.in-Str.is c.kind.ensures c.text_and_suffix.ensures.text c.text_and_suffix.ensures.suffix) at c.write-in-Str.ensures.writes
