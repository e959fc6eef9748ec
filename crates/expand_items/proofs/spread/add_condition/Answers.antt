use Rattle.std.proofs.Common.{rules, ◌≡◌, true, false, cond, ap, sym, subst, ◌∙◌}
use Rattle.std.specs.Prelude.{OnOk}
use Rattle.tt.specs.Building.{append}
use Rattle.tt.specs.Forest.{end}
use Rattle.tt.specs.Views.{trees_of}
use Rattle.expand_items.specs.Attributes.{is_at_condition}
use Rattle.tt_base.proofs.Appending.{append-end}
use Rattle.expand_items.proofs.spread.add_condition.Goals as goal
use Rattle.std.proofs.lemmas.Result.{IfErr-weaker}
use Rattle.std.specs.Prelude.{IfErr}
use Rattle.tt.specs.Building.{IsGrowthFault}
use Rattle.tt.specs.Forest.{size}
use Rattle.expand_items.proofs.Wanting.{growth_wants}
use Rattle.expand_items.specs.Spreads.{IsWanting}

pub returns-then-not-is_condition-clause-added : goal.returns-then-not-is_condition-clause-added
returns-then-not-is_condition-clause-added c =
    let trees = trees_of c.args.attribute in
    let none : is_at_condition trees ≡ false = search rules in
    sym (ap (λ b. append (cond b trees end) c.args.builder.now.stack) none ∙ append-end c.args.builder.now.stack)

pub returns-clause-added : goal.returns-clause-added
returns-clause-added c =
    let trees = trees_of c.args.attribute in
    let one : is_at_condition trees ≡ true = search rules in
    let added : OnOk c.extend_with_tt.result (c.extend_with_tt.new.self.stack ≡ append trees c.args.builder.now.stack) = search rules in
    subst (λ b. OnOk c.extend_with_tt.result (c.extend_with_tt.new.self.stack ≡ append (cond b trees end) c.args.builder.now.stack)) (sym one) added

pub returns-clause-fault : goal.returns-clause-fault
returns-clause-fault c =
    let trees = trees_of c.args.attribute in
    let state = c.args.builder.now in
    let one : is_at_condition trees ≡ true = search rules in
    let why : IfErr c.extend_with_tt.result (IsGrowthFault (size trees) state) = search rules in
    subst (λ b. IfErr c.extend_with_tt.result (IsWanting (append (cond b trees end) state.stack))) (sym one)
    (IfErr-weaker c.extend_with_tt.result (IsGrowthFault (size trees) state) (IsWanting (append trees state.stack)) (growth_wants trees state) why)
