use Rattle.std.proofs.Common.{rules, ◌≡◌, inr, false, true, ◌∷◌, Some, sym, ◌∙◌}
use Rattle.std.specs.List.{list_any}
use Rattle.tt.specs.Iters.{rest_of}
use Rattle.mbe_rule.specs.DollarsLeft.{dollars_left}
use Rattle.mbe_rule.specs.Variables.{name_in}
use Rattle.mbe_rule.specs.contracts.variable.NamePartialEq.TheImpl as name_impl
use Rattle.mbe_rule.proofs.Validating.{unknown, used_on}
use Rattle.mbe_rule.proofs.names.check_template.Goals as goal

pub returns-then-not-contains-clause-fault : goal.returns-then-not-contains-clause-fault
returns-then-not-contains-clause-fault c =
    let name = c.in-Some-name_in.name in
    let here : dollars_left c.loop-dollars.dollars ≡ rest_of c.in-Some.siblings ∷ dollars_left c.next.new.self = search rules in
    let found : name_in (rest_of c.in-Some.siblings) ≡ Some name = search rules in
    let absent : list_any ((name_impl.ghosts).eq name) c.args.names.now.keys ≡ false = search rules in
    inr (sym c.loop-dollars.invariant ∙ unknown c.args.names.now.keys (rest_of c.in-Some.siblings) (dollars_left c.loop-dollars.dollars) (dollars_left c.next.new.self) here name found absent)

pub loop-dollars-preserved : goal.loop-dollars-preserved
loop-dollars-preserved c =
    let name = c.in-Some-name_in.name in
    let here : dollars_left c.loop-dollars.dollars ≡ rest_of c.in-Some.siblings ∷ dollars_left c.next.new.self = search rules in
    let found : name_in (rest_of c.in-Some.siblings) ≡ Some name = search rules in
    let among : list_any ((name_impl.ghosts).eq name) c.args.names.now.keys ≡ true = search rules in
    used_on c.args.names.now.keys (rest_of c.in-Some.siblings) (dollars_left c.loop-dollars.dollars) (dollars_left c.next.new.self) here name found among ∙ c.loop-dollars.invariant
