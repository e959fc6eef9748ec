use Rattle.std.proofs.Common.{refl}
use Rattle.tt_base.proofs.delimiter.Delimiter.invisible_delim_spanned.Goals as goal

-- explicit: an automatic search for this answer takes long before it fails
pub returns : goal.returns
returns c = refl
