use Rattle.tt_pack.proofs.packed.Packed.set_top_spans.Goals as goal

-- explicit: an automatic search for this answer takes long before it fails
pub returns : goal.returns
returns c = rw c.top_delimiter-kind.ensures at c.set_top.ensures
