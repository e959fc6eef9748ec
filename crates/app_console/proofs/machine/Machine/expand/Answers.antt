use Rattle.std.proofs.Common.{sym}
use Rattle.app_console.proofs.Expanding.{made_comes}
use Rattle.app_console.proofs.machine.Machine.expand.Goals as goal

pub returns-in-Ok : goal.returns-in-Ok
returns-in-Ok c =
    made_comes c.args.self.now c.put.new.self c.args.pattern c.args.template c.args.input c.args.to c.in-Some.pattern.now c.in-Some-tree.template.now c.in-Some-tree-2.input.now c.ok.result
    (sym c.in-Some.ensures) (sym c.in-Some-tree.ensures) (sym c.in-Some-tree-2.ensures) c.in-Ok.tree c.in-Ok.ensures.tree c.ok.ensures c.put.ensures
