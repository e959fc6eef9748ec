use Rattle.std.proofs.Common.{sym}
use Rattle.app_console.proofs.Arms.{made_comes}
use Rattle.app_console.proofs.machine.Machine.arms.Goals as goal

pub returns-in-Ok : goal.returns-in-Ok
returns-in-Ok c =
    made_comes c.args.self.now c.put.new.self c.args.arms c.args.input c.args.to c.in-Some.arms.now c.in-Some-tree.input.now c.ok.result
    (sym c.in-Some.ensures) (sym c.in-Some-tree.ensures) c.in-Ok.tree c.in-Ok.ensures.tree c.ok.ensures c.put.ensures
