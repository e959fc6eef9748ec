use Rattle.std.proofs.Common.{bytes_eq, length, ap, ◌∙◌}
use Rattle.tt_tables.specs.TableOrder.{different}
use Rattle.tt_tables.specs.Uses.{same_part}
use Rattle.tt.proofs.HeldList.{parts_are_held, symbols_are_held}
use Rattle.tt.proofs.Steps.{keeps}
use Rattle.tt.proofs.builder.TopSubtreeBuilder.distinct_counts.Goals as goal

pub returns-clause-parts : goal.returns-clause-parts
returns-clause-parts c =
    let is = keeps _ _ _ _ _ _ c.self.inside.state c.self.inside.open_headers _ c.self.view_is in
    c.distinct_counts.ensures.parts ∙ ap (λ uses. length (different same_part uses)) (parts_are_held _ _ _ _ _ _ _ is.state is.opens)

pub returns-clause-symbols : goal.returns-clause-symbols
returns-clause-symbols c =
    let is = keeps _ _ _ _ _ _ c.self.inside.state c.self.inside.open_headers _ c.self.view_is in
    c.distinct_counts.ensures.symbols ∙ ap (λ uses. length (different bytes_eq uses)) (symbols_are_held _ _ _ _ _ _ _ is.state is.opens)
