use Rattle.std.proofs.Common.{ap₂, ◌∙◌}
use Rattle.tt_tables.specs.TableOrder.{uses_of}
use Rattle.tt_tables.specs.Uses.{same_part}
use Rattle.tt.proofs.HeldList.{parts_are_held}
use Rattle.tt.proofs.Steps.{keeps}
use Rattle.tt.proofs.builder.TopSubtreeBuilder.span_part_uses.Goals as goal

pub returns : goal.returns
returns c =
    let is = keeps _ _ _ _ _ _ c.self.inside.state c.self.inside.open_headers _ c.self.view_is in
    c.part_uses.ensures ∙ ap₂ (uses_of same_part) (parts_are_held _ _ _ _ _ _ _ is.state is.opens) c.from_span.ensures
