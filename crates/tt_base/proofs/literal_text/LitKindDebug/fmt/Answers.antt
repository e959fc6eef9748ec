use Rattle.tt_base.proofs.LeafTexts.{byte_string_name}
use Rattle.tt_base.proofs.literal_text.LitKindDebug.fmt.Goals as goal

-- explicit: an automatic search for this answer takes long before it fails
pub returns-in-ByteStr : goal.returns-in-ByteStr
returns-in-ByteStr g c = record { writes = rw (byte_string_name _ c.in-ByteStr.is) at c.write_str-in-ByteStr.ensures.writes }
