use Rattle.std.proofs.Common.{◌≡◌, ◌++◌, ◌≤◌, inr, length, refl, arith, rules, ap, length-append}
use Rattle.tt_base.specs.Forest.{end, flat, leaf}
use Rattle.tt.proofs.FlatGrowing.{full, grown_fields, pushed_fields, same_fields}
use Rattle.tt.proofs.flat_builder.FlatBuilder.push.Goals as goal
use Rattle.tt.specs.OneFlatHeld.{held_is, seen}

pub returns-then-len-clause-fault : goal.returns-then-len-clause-fault
returns-then-len-clause-fault c =
    let is = seen _ _ c.self.inside.state _ c.self.view_is in
    inr (refl, full _ _ _ is (omega (arith, c.if-len.true, c.len.ensures)))

pub invariant_of-self-inside : goal.invariant_of-self-inside
invariant_of-self-inside c =
    let is = seen _ _ c.self.inside.state _ c.self.view_is in
    let room : length c.self.inside.tokens ≤ 4294967295 = omega (arith, c.if-len.false, c.len.ensures) in
    (grown_fields c.push.result _ _ _ _ c.args.leaf is room c.push.ensures.ok c.push.ensures.err, tt)

pub returns-then-is_err-clause-err : goal.returns-then-is_err-clause-err
returns-then-is_err-clause-err c =
    let is = seen _ _ c.self.inside.state _ c.self.view_is in
    let list : c.push.new.self ≡ c.self.inside.tokens = search rules in
    let next = same_fields _ _ _ _ _ is list refl in search (rules, held_is, next)

pub returns-clause-ok : goal.returns-clause-ok
returns-clause-ok c =
    let is = seen _ _ c.self.inside.state _ c.self.view_is in
    let grown : c.push.new.self ≡ c.self.inside.tokens ++ flat (leaf c.args.leaf end) = search rules in
    let few : length c.push.new.self ≤ 4294967296 =
    omega (arith, ap length grown, length-append c.self.inside.tokens (flat (leaf c.args.leaf end)), c.if-len.false, c.len.ensures) in
    let next = pushed_fields _ _ _ _ c.args.leaf is grown few in search (rules, held_is, next)
