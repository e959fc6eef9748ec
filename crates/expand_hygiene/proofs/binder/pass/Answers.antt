use Rattle.std.proofs.Common.{◌≡◌, sym, subst, rules}
use Rattle.tt.specs.Forest.{flat}
use Rattle.tt.specs.SubtreeViews.{flat_rest}
use Rattle.expand_hygiene.specs.Binders.{innermost}
use Rattle.expand_hygiene.specs.Walks.{PassesEvent, PassesUnit, state}
use Rattle.expand_hygiene.proofs.Walking.{event_unit}
use Rattle.expand_hygiene.proofs.binder.pass.Goals as goal

pub returns-in-Token : goal.returns-in-Token
returns-in-Token c =
    let names = c.args.names.now.items in
    let old = flat (flat_rest c.args.tokens.now) in
    let new = flat (flat_rest c.pass_unit.new.tokens) in
    let name : c.innermost.result ≡ innermost names = search rules in
    subst (λ it. PassesEvent c.args.given.now it (state names old) c.pass_unit.result (state names new)) (sym c.in-Token.is)
    (event_unit c.args.given.now c.in-Token.count names old new c.pass_unit.result
    (subst (λ it. PassesUnit c.args.given.now it c.in-Token.count old c.pass_unit.result new) name c.pass_unit.ensures))
