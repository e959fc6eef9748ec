use Rattle.std.proofs.Common.{None, get_or, ap, ◌∙◌, arith}
use Rattle.std.proofs.lemmas.List.{get_or_default}
use Rattle.app_console.specs.State.{tree_in}
use Rattle.app_console.proofs.machine.Machine.tree.Goals as goal

pub returns : goal.returns
returns c =
    c.as_ref.ensures.value
    ∙ get_or_default c.self.inside.slots c.index.result c.index-self-index.result None (omega arith)
    ∙ ap (λ i. get_or c.self.inside.slots i None) c.index.ensures.value
    ∙ ap (λ state. tree_in state c.args.slot) c.self.view_is
