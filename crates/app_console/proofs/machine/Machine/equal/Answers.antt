use Rattle.std.proofs.Common.{sym}
use Rattle.app_console.proofs.Steps.{compared}
use Rattle.app_console.proofs.machine.Machine.equal.Goals as goal

pub returns : goal.returns
returns c =
    compared c.args.self.now c.args.left c.args.right c.in-Some.left.now c.in-Some-tree.right.now c.eq.result c.yes_or_no.result (sym c.in-Some.ensures) (sym c.in-Some-tree.ensures)
    c.eq.ensures c.yes_or_no.ensures
