use Rattle.tt_pack.proofs.packed.Packed.set_top_kind.Goals as goal

-- explicit: an automatic search for this answer takes long before it fails
pub returns : goal.returns
returns c = rw c.top_delimiter.ensures at c.set_top.ensures
