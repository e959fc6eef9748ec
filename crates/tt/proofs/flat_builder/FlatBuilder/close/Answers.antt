use Rattle.std.proofs.Common.{◌≡◌, ◌-◌, ◌++◌, ◌∷◌, [], ap, arith, rules}
use Rattle.tt_base.specs.Forest.{header}
use Rattle.tt.proofs.FlatClosing.{closed_fields, place_within}
use Rattle.tt.proofs.flat_builder.FlatBuilder.close.Goals as goal
use Rattle.tt.specs.FlatHeld.{closed}
use Rattle.tt.specs.OneFlatHeld.{held_is, seen}

pub overflow_sub-len : goal.overflow_sub-len
overflow_sub-len c =
    let is = seen _ _ c.self.inside.state _ c.self.view_is in
    let popped : c.self.inside.headers.items ≡ c.pop.new.self.items ++ c.in-Some.place ∷ [] = search rules in omega (arith, place_within _ _ _ _ _ is popped, c.len.ensures)

pub overflow_sub-len-2 : goal.overflow_sub-len-2
overflow_sub-len-2 c =
    let is = seen _ _ c.self.inside.state _ c.self.view_is in
    let popped : c.self.inside.headers.items ≡ c.pop.new.self.items ++ c.in-Some.place ∷ [] = search rules in omega (arith, place_within _ _ _ _ _ is popped, c.len.ensures)

pub close-requires : goal.close-requires
close-requires c =
    let is = seen _ _ c.self.inside.state _ c.self.view_is in
    let popped : c.self.inside.headers.items ≡ c.pop.new.self.items ++ c.in-Some.place ∷ [] = search rules in record { within = place_within _ _ _ _ _ is popped }

pub invariant_of-self-inside-2 : goal.invariant_of-self-inside-2
invariant_of-self-inside-2 c =
    let is = seen _ _ c.self.inside.state _ c.self.view_is in
    let popped : c.self.inside.headers.items ≡ c.pop.new.self.items ++ c.in-Some.place ∷ [] = search rules in
    let d = header c.args.self.now.top 0 in
    ((closed c.args.close_span c.args.self.now, closed_fields _ _ _ _ _ c.args.close_span c.in-Some.place _ d is popped (ap (λ n. n - c.in-Some.place - 1) c.len.ensures) (c.close.ensures d)), tt)

pub returns : goal.returns
returns c =
    let is = seen _ _ c.self.inside.state _ c.self.view_is in
    let popped : c.self.inside.headers.items ≡ c.pop.new.self.items ++ c.in-Some.place ∷ [] = search rules in
    let d = header c.args.self.now.top 0 in
    let next = closed_fields _ _ _ _ _ c.args.close_span c.in-Some.place _ d is popped (ap (λ n. n - c.in-Some.place - 1) c.len.ensures) (c.close.ensures d) in search (rules, held_is, next)
