use Rattle.std.proofs.Common.{◌≡◌, ◌+◌, ◌-◌, suc, Some, None, arith, rules, subst}
use Rattle.tt.specs.Forest.{flat}
use Rattle.tt.specs.SubtreeViews.{flat_rest}
use Rattle.expand_hygiene.specs.Walks.{LeavesUnit, PassesTree}
use Rattle.expand_hygiene.proofs.Walking.{unit_step, unit_found}
use Rattle.expand_hygiene.proofs.binder.pass_unit.Goals as goal

pub returns-in-Some : goal.returns-in-Some
returns-in-Some c =
    let old = flat (flat_rest c.args.tokens.now) in
    let now = flat (flat_rest c.loop.tokens) in
    let new = flat (flat_rest c.pass_tree.new.tokens) in
    let left = c.args.count - (c.loop.counter + 1) in
    let one : c.args.count - c.loop.counter ≡ suc left = omega (arith, c.loop-test.true) in
    let leaves : LeavesUnit c.args.given.now c.args.name c.args.count (suc left) old now = subst (λ n. LeavesUnit c.args.given.now c.args.name c.args.count n old now) one c.loop.invariant in
    let found : c.pass_tree.result ≡ Some c.in-Some.found = search rules in
    unit_found c.args.given.now c.args.name c.args.count left old now new _ leaves (subst (λ it. PassesTree c.args.given.now c.args.name now it new) found c.pass_tree.ensures)

pub loop-preserved : goal.loop-preserved
loop-preserved c =
    let old = flat (flat_rest c.args.tokens.now) in
    let now = flat (flat_rest c.loop.tokens) in
    let new = flat (flat_rest c.pass_tree.new.tokens) in
    let left = c.args.count - (c.loop.counter + 1) in
    let one : c.args.count - c.loop.counter ≡ suc left = omega (arith, c.loop-test.true) in
    let leaves : LeavesUnit c.args.given.now c.args.name c.args.count (suc left) old now = subst (λ n. LeavesUnit c.args.given.now c.args.name c.args.count n old now) one c.loop.invariant in
    let found : c.pass_tree.result ≡ None = search rules in
    unit_step c.args.given.now c.args.name c.args.count left old now new leaves (subst (λ it. PassesTree c.args.given.now c.args.name now it new) found c.pass_tree.ensures)
