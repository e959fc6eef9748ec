use Rattle.std.proofs.Common.{inl, refl}
use Rattle.app_c.proofs.tt_check_bytes.Goals as goal

pub returns-in-Ok : goal.returns-in-Ok
returns-in-Ok c = inl (c.in-Ok.tree, c.in-Ok.ensures.ok, refl, refl)
