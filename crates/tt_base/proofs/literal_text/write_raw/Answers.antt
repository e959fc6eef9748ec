use Rattle.tt_base.proofs.LeafTexts.{fenced_text}
use Rattle.tt_base.proofs.literal_text.write_raw.Goals as goal

-- explicit: an automatic search for this answer takes long before it fails
pub returns : goal.returns
returns g c = rw (fenced_text c.args.prefix.now _ c.args.text.now c.args.suffix.now) at c.write.ensures.writes
