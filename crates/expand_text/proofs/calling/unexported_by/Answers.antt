use Rattle.std.proofs.Common.{rules, ◌≡◌, true, None, sym, subst, cond, option_copied}
use Rattle.std.specs.Prelude.{◌&&◌}
use Rattle.expand_items.specs.Items.{is_root}
use Rattle.expand_items.specs.declared.item.MacroPath.TheVariants as path
use Rattle.expand_text.specs.Contexts.{asks_for}
use Rattle.expand_text.specs.Scopes.{IsReadyIf, last_named}
use Rattle.expand_text.proofs.Readiness.{ready_last}
use Rattle.expand_text.proofs.calling.unexported_by.Goals as goal

pub returns-then-eq : goal.returns-then-eq
returns-then-eq c known is =
    let name = c.args.call.now.name.sym in
    let asked : asks_for c.args.config.now.only name ≡ true = search rules in
    let way : c.args.call.now.path ≡ path.Root = search rules in
    subst (λ a. IsReadyIf (cond (a && is_root c.args.call.now.path) (last_named name known.macros) None) (option_copied c.last.result)) (sym asked)
    (subst (λ w. IsReadyIf (cond (is_root w) (last_named name known.macros) None) (option_copied c.last.result)) (sym way)
    (subst (IsReadyIf (last_named name known.macros)) (sym c.last.ensures) (ready_last name known.macros c.args.context.now.scope.macros.items is.macros)))
