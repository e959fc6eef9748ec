-- The actions that are left have the same first refusal.
use Rattle.std.proofs.Common.{◌≡◌, drop}
use Rattle.app_console.specs.Editing.{first_refusal}
use Rattle.app_console.proofs.machine.Machine.first_refusal.Given as goal

abbrev pub invariant-loop-action : goal.invariant-loop-action
invariant-loop-action l = first_refusal l.self l.slot (drop l.action-index l.actions) ≡ first_refusal l.self l.slot l.actions
