use Rattle.std.proofs.Common.{◌≡◌, Err, ◌++◌, ◌∷◌, [], refl, rules, arith}
use Rattle.tt_base.specs.Span.{part_of}
use Rattle.tt_tables.specs.declared.token.InternedToken.TheVariants as interned
use Rattle.tt_tables.specs.Held.{opened}
use Rattle.tt_tables.specs.OneList.{held_is}
use Rattle.tt_tables.proofs.Growing.{IsPlaced, IsUsed, seen, same_held, part_room, opened_held}
use Rattle.tt_tables.specs.Interner.{entries_of}
use Rattle.tt_tables.specs.Uses.{same_part}
use Rattle.tt_tables.proofs.tokens.InternedTokens.push_open.Goals as goal

pub returns-in_err-reserve-clause-err : goal.returns-in_err-reserve-clause-err
returns-in_err-reserve-clause-err c =
    let is = seen _ _ _ c.self.inside.held _ c.self.view_is in
    let next = same_held _ _ _ _ _ _ _ is c.reserve.ensures.items refl refl in
    let failed : c.from_residual.result ≡ Err c.in_err-reserve.field-0.0 = search rules in
    rw failed (search (rules, held_is, next))

pub returns-in_err-numbers-clause-err : goal.returns-in_err-numbers-clause-err
returns-in_err-numbers-clause-err c =
    let is = seen _ _ _ c.self.inside.held _ c.self.view_is in
    let next = same_held _ _ _ _ _ _ _ is c.reserve.ensures.items c.in_err-numbers.ensures.err refl in
    let failed : c.from_residual-in_err-numbers.result ≡ Err c.in_err-numbers.field-0.0 = search rules in
    rw failed (search (rules, held_is, next))

pub add_at-requires-clause-room : goal.add_at-requires-clause-room
add_at-requires-clause-room c = λ x.
    let is = seen _ _ _ c.self.inside.held _ c.self.view_is in
    omega (arith, part_room _ _ _ _ _ _ x is c.in_ok-numbers.ensures.ok)

pub invariant_of-self-inside-2 : goal.invariant_of-self-inside-2
invariant_of-self-inside-2 c =
    let is = seen _ _ _ c.self.inside.held _ c.self.view_is in
    let used : IsUsed same_part (entries_of c.self.inside.parts) (entries_of c.span_numbers.new.parts) (entries_of c.add_at.new.self) (part_of c.args.open_span.now) =
    record { entry = c.in_ok-numbers.ensures.ok; more = c.add_at.ensures.more _ c.in_ok-numbers.ensures.place; keys = c.add_at.ensures.values } in
    let placed : IsPlaced (entries_of c.span_numbers.new.parts) c.in_ok-numbers.numbers c.args.open_span.now =
    record { place = c.in_ok-numbers.ensures.place; is = c.in_ok-numbers.ensures.numbers; range = c.in_ok-numbers.ensures.range } in
    let grown : c.push_reserved.new.self.items ≡ c.self.inside.tokens.items ++ interned.Open c.args.kind c.in_ok-numbers.numbers ∷ [] = search rules in
    ((c.args.self.now ++ opened c.args.kind c.args.open_span.now ∷ [], opened_held _ _ _ _ _ _ _ _ _ _ is c.requires.few used placed grown), tt)

pub returns-clause-ok : goal.returns-clause-ok
returns-clause-ok c =
    let is = seen _ _ _ c.self.inside.held _ c.self.view_is in
    let used : IsUsed same_part (entries_of c.self.inside.parts) (entries_of c.span_numbers.new.parts) (entries_of c.add_at.new.self) (part_of c.args.open_span.now) =
    record { entry = c.in_ok-numbers.ensures.ok; more = c.add_at.ensures.more _ c.in_ok-numbers.ensures.place; keys = c.add_at.ensures.values } in
    let placed : IsPlaced (entries_of c.span_numbers.new.parts) c.in_ok-numbers.numbers c.args.open_span.now =
    record { place = c.in_ok-numbers.ensures.place; is = c.in_ok-numbers.ensures.numbers; range = c.in_ok-numbers.ensures.range } in
    let grown : c.push_reserved.new.self.items ≡ c.self.inside.tokens.items ++ interned.Open c.args.kind c.in_ok-numbers.numbers ∷ [] = search rules in
    let next = opened_held _ _ _ _ _ _ _ _ _ _ is c.requires.few used placed grown in
    search (rules, held_is, next)
