use Rattle.std.proofs.Common.{bytes_eq, ap, ◌∙◌}
use Rattle.tt_tables.specs.TableOrder.{uses_of}
use Rattle.tt.proofs.HeldList.{symbols_are_held}
use Rattle.tt.proofs.Steps.{keeps}
use Rattle.tt.proofs.builder.TopSubtreeBuilder.symbol_uses.Goals as goal

pub returns : goal.returns
returns c =
    let is = keeps _ _ _ _ _ _ c.self.inside.state c.self.inside.open_headers _ c.self.view_is in
    c.symbol_uses.ensures ∙ ap (λ uses. uses_of bytes_eq uses c.args.symbol.now) (symbols_are_held _ _ _ _ _ _ _ is.state is.opens)
