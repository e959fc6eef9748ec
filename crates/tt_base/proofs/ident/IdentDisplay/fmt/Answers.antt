use Rattle.std.proofs.Common.{rules}
use Rattle.std.proofs.Output.{has_written_append}
use Rattle.tt_base.proofs.ident.IdentDisplay.fmt.Goals as goal

-- explicit: an automatic search for this answer takes long before it fails
pub returns : goal.returns
returns g c = record {
  writes = λ plain ok.
      let one = c.write_str.ensures.writes plain (search rules) in
      rw c.as_str.ensures at (has_written_append _ _ _ _ _ _ one (c.fmt.ensures.writes one.plain ok));
  styled = tt;
}
