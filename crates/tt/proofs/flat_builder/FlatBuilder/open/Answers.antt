use Rattle.std.proofs.Common.{◌≡◌, ◌++◌, ◌∷◌, [], ◌≤◌, inr, length, refl, arith, rules, ap, length-append}
use Rattle.tt.proofs.FlatGrowing.{full, opened_fields, same_fields}
use Rattle.tt.proofs.flat_builder.FlatBuilder.open.Goals as goal
use Rattle.tt.specs.FlatFields.{open_header}
use Rattle.tt.specs.FlatHeld.{opened}
use Rattle.tt.specs.OneFlatHeld.{held_is, seen}

pub returns-then-place-clause-fault : goal.returns-then-place-clause-fault
returns-then-place-clause-fault c =
    let is = seen _ _ c.self.inside.state _ c.self.view_is in
    inr (refl, full _ _ _ is (omega (arith, c.if-place.true, c.len-place.ensures)))

pub invariant_of-self-inside : goal.invariant_of-self-inside
invariant_of-self-inside c =
    let is = seen _ _ c.self.inside.state _ c.self.view_is in ((c.args.self.now, same_fields _ _ _ _ _ is refl c.reserve.ensures.items), tt)

pub returns-then-is_err-clause-err : goal.returns-then-is_err-clause-err
returns-then-is_err-clause-err c =
    let is = seen _ _ c.self.inside.state _ c.self.view_is in
    let next = same_fields _ _ _ _ _ is refl c.reserve.ensures.items in search (rules, held_is, next)

pub invariant_of-self-inside-then-is_err-2 : goal.invariant_of-self-inside-then-is_err-2
invariant_of-self-inside-then-is_err-2 c =
    let is = seen _ _ c.self.inside.state _ c.self.view_is in
    let list : c.push.new.self ≡ c.self.inside.tokens = search rules in
    ((c.args.self.now, same_fields _ _ _ _ _ is list c.reserve.ensures.items), tt)

pub returns-then-is_err-2-clause-err : goal.returns-then-is_err-2-clause-err
returns-then-is_err-2-clause-err c =
    let is = seen _ _ c.self.inside.state _ c.self.view_is in
    let list : c.push.new.self ≡ c.self.inside.tokens = search rules in
    let next = same_fields _ _ _ _ _ is list c.reserve.ensures.items in search (rules, held_is, next)

pub invariant_of-self-inside-2 : goal.invariant_of-self-inside-2
invariant_of-self-inside-2 c =
    let is = seen _ _ c.self.inside.state _ c.self.view_is in
    let grown : c.push.new.self ≡ c.self.inside.tokens ++ open_header c.args.kind c.args.open_span ∷ [] = search rules in
    let few : length c.push.new.self ≤ 4294967296 =
    omega (arith, ap length grown, length-append c.self.inside.tokens (open_header c.args.kind c.args.open_span ∷ []), c.if-place.false, c.len-place.ensures) in
    ((opened c.args.kind c.args.open_span c.args.self.now, opened_fields _ _ _ _ _ c.args.kind c.args.open_span _ is grown few c.len-place.ensures (search rules)), tt)

pub returns-clause-ok : goal.returns-clause-ok
returns-clause-ok c =
    let is = seen _ _ c.self.inside.state _ c.self.view_is in
    let grown : c.push.new.self ≡ c.self.inside.tokens ++ open_header c.args.kind c.args.open_span ∷ [] = search rules in
    let few : length c.push.new.self ≤ 4294967296 =
    omega (arith, ap length grown, length-append c.self.inside.tokens (open_header c.args.kind c.args.open_span ∷ []), c.if-place.false, c.len-place.ensures) in
    let added : c.push_reserved.new.self.items ≡ c.self.inside.headers.items ++ c.len-place.result ∷ [] = search rules in
    let next = opened_fields _ _ _ _ _ c.args.kind c.args.open_span _ is grown few c.len-place.ensures added in search (rules, held_is, next)
