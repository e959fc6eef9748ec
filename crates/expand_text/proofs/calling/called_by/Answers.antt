use Rattle.std.proofs.Common.{rules, ◌≡◌, true, None, sym, subst, cond, option_copied}
use Rattle.expand_items.specs.declared.item.MacroPath.TheVariants as path
use Rattle.expand_text.specs.Contexts.{asks_for}
use Rattle.expand_text.specs.Macros.{named_by}
use Rattle.expand_text.specs.Scopes.{IsReadyIf, last_named}
use Rattle.expand_text.proofs.Readiness.{ready_last}
use Rattle.expand_text.proofs.calling.called_by.Goals as goal

pub returns-in-Name : goal.returns-in-Name
returns-in-Name c known is =
    let name = c.args.call.now.name.sym in
    let asked : asks_for c.args.config.now.only name ≡ true = search rules in
    let way : c.args.call.now.path ≡ path.Name = search rules in
    subst (λ a. IsReadyIf (cond a (named_by c.args.call.now.path name known) None) (option_copied c.last.result)) (sym asked)
    (subst (λ w. IsReadyIf (named_by w name known) (option_copied c.last.result)) (sym way)
    (subst (IsReadyIf (last_named name known.macros)) (sym c.last.ensures) (ready_last name known.macros c.args.context.now.scope.macros.items is.macros)))

pub returns-in-Root : goal.returns-in-Root
returns-in-Root c known is =
    let name = c.args.call.now.name.sym in
    let asked : asks_for c.args.config.now.only name ≡ true = search rules in
    let way : c.args.call.now.path ≡ path.Root = search rules in
    subst (λ a. IsReadyIf (cond a (named_by c.args.call.now.path name known) None) (option_copied c.last-in-Root.result)) (sym asked)
    (subst (λ w. IsReadyIf (named_by w name known) (option_copied c.last-in-Root.result)) (sym way)
    (subst (IsReadyIf (last_named name known.exported)) (sym c.last-in-Root.ensures) (ready_last name known.exported c.args.context.now.exported.macros.items is.exported)))
