use Rattle.std.proofs.Common.{rules, ◌≡◌, inr, false, true, ◌∷◌, Some, sym, ◌∙◌}
use Rattle.std.specs.List.{list_any}
use Rattle.indexmap.specs.IndexSet.{insert_key}
use Rattle.tt.specs.Iters.{rest_of}
use Rattle.mbe_rule.specs.DollarsLeft.{dollars_left}
use Rattle.mbe_rule.specs.Variables.{variable_in}
use Rattle.mbe_rule.specs.contracts.variable.NamePartialEq.TheImpl as name_impl
use Rattle.mbe_rule.proofs.Validating.{duplicate, noted_name, validated_on, named_on}
use Rattle.mbe_rule.proofs.names.pattern_names.Goals as goal

pub returns-then-not-branch-clause-fault : goal.returns-then-not-branch-clause-fault
returns-then-not-branch-clause-fault c =
    let it = c.in-Some-variable_in.variable in
    let names = c.loop-dollars.names.keys in
    let here : dollars_left c.loop-dollars.dollars ≡ rest_of c.in-Some.siblings ∷ dollars_left c.next.new.self = search rules in
    let found : variable_in (rest_of c.in-Some.siblings) ≡ Some it = search rules in
    let among : list_any ((name_impl.ghosts).eq it.name) names ≡ true = search rules in
    inr (sym c.loop-dollars.invariant.fault ∙ duplicate names (rest_of c.in-Some.siblings) (dollars_left c.loop-dollars.dollars) (dollars_left c.next.new.self) here it found among)

pub loop-dollars-preserved : goal.loop-dollars-preserved
loop-dollars-preserved c =
    let it = c.in-Some-variable_in.variable in
    let names = c.loop-dollars.names.keys in
    let here : dollars_left c.loop-dollars.dollars ≡ rest_of c.in-Some.siblings ∷ dollars_left c.next.new.self = search rules in
    let found : variable_in (rest_of c.in-Some.siblings) ≡ Some it = search rules in
    let absent : list_any ((name_impl.ghosts).eq it.name) names ≡ false = search rules in
    let kept : c.insert.new.self.keys ≡ insert_key (name_impl.ghosts).eq names it.name = search rules in
    let noted = noted_name names (rest_of c.in-Some.siblings) (dollars_left c.loop-dollars.dollars) (dollars_left c.next.new.self) here it found c.insert.new.self.keys absent kept in
    record {
      fault =
          validated_on names (rest_of c.in-Some.siblings) (dollars_left c.loop-dollars.dollars) (dollars_left c.next.new.self) here it found c.insert.new.self.keys absent noted
          ∙ c.loop-dollars.invariant.fault;
      named =
          named_on names (rest_of c.in-Some.siblings) (dollars_left c.loop-dollars.dollars) (dollars_left c.next.new.self) here it found c.insert.new.self.keys noted
          ∙ c.loop-dollars.invariant.named;
    }
