use Rattle.std.proofs.Common.{sym, ◌∙◌, inl}
use Rattle.tt.specs.Edits.{with_kind}
use Rattle.app_console.proofs.Editing.{changed}
use Rattle.app_console.proofs.machine.Machine.kind.Goals as goal

pub returns : goal.returns
returns c =
    inl (changed (with_kind c.args.kind) c.args.self.now c.take.new.self c.put.new.self c.args.slot c.in-Some.tree c.set_top_subtree_delimiter_kind.new.self c.ok.result
    (sym c.take.ensures.tree ∙ c.in-Some.is) c.take.ensures.state c.set_top_subtree_delimiter_kind.ensures c.put.ensures c.ok.ensures)
