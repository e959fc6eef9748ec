use Rattle.std.proofs.Common.{◌≡◌, Some, rules}
use Rattle.tt.specs.Building.{IsOpen}
use Rattle.app_console.specs.State.{State}
use Rattle.app_console.proofs.BuilderSteps.{closed_in}
use Rattle.app_console.proofs.machine.Machine.close.Goals as goal

pub returns : goal.returns
returns c =
    let inside : State = record { slots = c.self.inside.slots; list = c.self.inside.list.items; builder = c.self.inside.builder } in
    let there : c.self.inside.builder ≡ Some c.in-Some.builder = search rules in
    let is : IsOpen c.in-Some.builder = search rules in
    closed_in c.args.span inside _ c.in-Some.builder c.close.new.self c.close.result _ c.self.view_is there is c.close.ensures.ok c.close.ensures.err c.close.ensures.fault
    c.ok_or_fault.ensures
