use Rattle.std.proofs.Common.{◌≡◌, [], Some, inl, inr, set, ◌∙◌, rules}
use Rattle.tt.specs.Forest.{IsOneSubtree}
use Rattle.app_console.specs.State.{with_tree}
use Rattle.app_console.proofs.machine.Machine.list.Goals as goal

pub returns-in-Ok : goal.returns-in-Ok
returns-in-Ok c =
    let list : c.self.inside.list.items ≡ c.replace-list.result.items = search rules in
    let empty : c.replace-list.new.dest.items ≡ [] = search rules in
    let one : IsOneSubtree c.self.inside.list.items = (c.in-Ok.tree, list ∙ c.in-Ok.ensures.ok, c.in-Ok.ensures.counts) in
    let emptied : with_tree (record { slots = c.self.inside.slots; list = c.replace-list.new.dest.items; builder = c.self.inside.builder }) c.args.slot c.in-Ok.tree
    ≡ record { slots = set c.self.inside.slots c.args.slot (Some c.in-Ok.tree); list = []; builder = c.self.inside.builder } =
    λ i. record { slots = set c.self.inside.slots c.args.slot (Some c.in-Ok.tree); list = empty i; builder = c.self.inside.builder } in
    rw (← c.self.view_is) (inl (inl (one, c.in-Ok.ensures.limits, c.ok.ensures, c.put.ensures ∙ emptied)))

pub returns-in-Err : goal.returns-in-Err
returns-in-Err c =
    let list : c.in-Err.refused.value.items ≡ c.self.inside.list.items = search rules in
    let why = rw c.replace-list.ensures.value at c.in-Err.ensures.fault in
    rw (← c.self.view_is) (inl (inr (c.in-Err.refused.fault, why, c.fault.ensures, λ i. record { slots = c.self.inside.slots; list = list i; builder = c.self.inside.builder })))
