use Rattle.std.proofs.Common.{inl, subst}
use Rattle.tt_bytes.specs.Format.{AreBytesOf}
use Rattle.app_console.proofs.machine.Machine.load.Goals as goal

pub returns-in-Ok : goal.returns-in-Ok
returns-in-Ok c =
    inl (inl (c.in-Ok.tree, subst (λ bytes. AreBytesOf c.in-Ok.tree bytes) c.as_slice.ensures c.in-Ok.ensures.ok, c.ok.ensures, c.put.ensures))
