use Rattle.std.proofs.Common.{sym, ◌∙◌, ap, inl}
use Rattle.tt.specs.Edits.{with_spans}
use Rattle.tt.specs.Token.{delim_span}
use Rattle.app_console.proofs.Editing.{changed}
use Rattle.app_console.proofs.machine.Machine.spans.Goals as goal

pub returns : goal.returns
returns c =
    inl (changed (with_spans (delim_span c.args.open_span c.args.close)) c.args.self.now c.take.new.self c.put.new.self c.args.slot c.in-Some.tree
    c.set_top_subtree_delimiter_span.new.self c.ok.result
    (sym c.take.ensures.tree ∙ c.in-Some.is) c.take.ensures.state (c.set_top_subtree_delimiter_span.ensures ∙ ap (λ s. with_spans s c.in-Some.tree) c.from_pair.ensures) c.put.ensures c.ok.ensures)
