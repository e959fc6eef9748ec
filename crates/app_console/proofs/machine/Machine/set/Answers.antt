use Rattle.std.proofs.Common.{◌≡◌, Some, sym, ◌∙◌, subst, inl, rules}
use Rattle.tt.specs.Edits.{HasLeafAt, leaf_set}
use Rattle.tt.specs.Forest.{flat_root}
use Rattle.tt.specs.Stored.{IsWithinLimits}
use Rattle.tt.specs.TreeFault.{IsSetFault}
use Rattle.app_console.specs.Editing.{SetsLeaf}
use Rattle.app_console.specs.State.{tree_in}
use Rattle.app_console.proofs.Editing.{stored, refused}
use Rattle.app_console.proofs.machine.Machine.set.Goals as goal

pub returns-in-Err : goal.returns-in-Err
returns-in-Err c =
    let at : tree_in c.args.self.now c.args.slot ≡ Some c.in-Some.tree = sym c.take.ensures.tree ∙ c.in-Some.is in
    let why : IsSetFault c.in-Some.tree c.args.place c.args.leaf c.in-Err.refused.fault = c.in-Err.ensures.fault in
    let same : c.set_token.new.self ≡ c.in-Some.tree = c.in-Err.ensures.err in
    inl (subst (λ found. SetsLeaf c.args.self.now c.args.slot c.args.place c.args.leaf found c.fault.result c.put.new.self) (sym at)
    (refused (IsSetFault c.in-Some.tree c.args.place c.args.leaf) _ c.args.self.now c.take.new.self c.put.new.self c.args.slot c.in-Some.tree c.set_token.new.self c.in-Err.refused.fault c.fault.result
    at c.take.ensures.state why same c.put.ensures c.fault.ensures))

pub returns : goal.returns
returns c =
    let at : tree_in c.args.self.now c.args.slot ≡ Some c.in-Some.tree = sym c.take.ensures.tree ∙ c.in-Some.is in
    let has : HasLeafAt (flat_root c.in-Some.tree) c.args.place = search rules in
    let is : c.set_token.new.self ≡ leaf_set c.args.place c.args.leaf c.in-Some.tree = search rules in
    let limits : IsWithinLimits c.set_token.new.self = search rules in
    inl (subst (λ found. SetsLeaf c.args.self.now c.args.slot c.args.place c.args.leaf found c.ok.result c.put-2.new.self) (sym at)
    (stored _ _ c.args.self.now c.take.new.self c.put-2.new.self c.args.slot c.set_token.new.self c.ok.result
    c.take.ensures.state (has, is) limits c.put-2.ensures c.ok.ensures))
