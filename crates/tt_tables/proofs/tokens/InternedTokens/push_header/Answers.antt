use Rattle.std.proofs.Common.{◌≡◌, Err, ◌++◌, ◌∷◌, [], refl, rules, arith, ap, slice_get, ◌∙◌}
use Rattle.tt_base.specs.declared.token_tree.TokenTree.TheVariants as token
use Rattle.tt_base.specs.Span.{part_of}
use Rattle.tt_tables.specs.declared.token.InternedToken.TheVariants as interned
use Rattle.tt_codec.specs.declared.entry.HeaderEntry.{HeaderEntry}
use Rattle.tt_tables.specs.Held.{whole}
use Rattle.tt_tables.specs.OneList.{held_is}
use Rattle.tt_tables.proofs.Growing.{IsPlaced, seen, same_held, part_noted, part_room_twice, place_later, header_held}
use Rattle.tt_tables.proofs.UseCounts.{uses-le}
use Rattle.tt_tables.specs.Interner.{entries_of}
use Rattle.tt_tables.specs.Uses.{same_part}
use Rattle.tt_tables.proofs.tokens.InternedTokens.push_header.Goals as goal

pub returns-in_err-reserve-clause-err : goal.returns-in_err-reserve-clause-err
returns-in_err-reserve-clause-err c =
    let is = seen _ _ _ c.self.inside.held _ c.self.view_is in
    let next = same_held _ _ _ _ _ _ _ is c.reserve.ensures.items refl refl in
    let failed : c.from_residual.result ≡ Err c.in_err-reserve.field-0.0 = search rules in
    rw failed (search (rules, held_is, next))

pub returns-in_err-opening-clause-err : goal.returns-in_err-opening-clause-err
returns-in_err-opening-clause-err c =
    let is = seen _ _ _ c.self.inside.held _ c.self.view_is in
    let next = same_held _ _ _ _ _ _ _ is c.reserve.ensures.items c.in_err-opening.ensures.err refl in
    let failed : c.from_residual-in_err-opening.result ≡ Err c.in_err-opening.field-0.0 = search rules in
    rw failed (search (rules, held_is, next))

pub invariant_of-self-inside-in-Break-branch-3 : goal.invariant_of-self-inside-in-Break-branch-3
invariant_of-self-inside-in-Break-branch-3 c =
    let is = seen _ _ _ c.self.inside.held _ c.self.view_is in
    ((c.args.self.now, part_noted _ _ _ _ _ _ _ _ is c.reserve.ensures.items (c.in_err-closing.ensures.err ∙ c.in_ok-opening.ensures.ok) refl), tt)

pub returns-in_err-closing-clause-err : goal.returns-in_err-closing-clause-err
returns-in_err-closing-clause-err c =
    let is = seen _ _ _ c.self.inside.held _ c.self.view_is in
    let next = part_noted _ _ _ _ _ _ _ _ is c.reserve.ensures.items (c.in_err-closing.ensures.err ∙ c.in_ok-opening.ensures.ok) refl in
    let failed : c.from_residual-in_err-closing.result ≡ Err c.in_err-closing.field-0.0 = search rules in
    rw failed (search (rules, held_is, next))

pub add_at-requires-clause-room : goal.add_at-requires-clause-room
add_at-requires-clause-room c = λ x.
    let is = seen _ _ _ c.self.inside.held _ c.self.view_is in
    omega (arith, part_room_twice _ _ _ _ _ _ _ _ x is c.in_ok-opening.ensures.ok c.in_ok-closing.ensures.ok)

pub add_at-requires-2-clause-room : goal.add_at-requires-2-clause-room
add_at-requires-2-clause-room c = λ x.
    let is = seen _ _ _ c.self.inside.held _ c.self.view_is in
    let there = place_later _ _ _ _ _ c.in_ok-closing.ensures.ok c.in_ok-opening.ensures.place in
    omega (
      arith,
      part_room_twice _ _ _ _ _ _ _ _ x is c.in_ok-opening.ensures.ok c.in_ok-closing.ensures.ok,
      c.add_at.ensures.more _ there x,
      uses-le same_part (part_of c.args.subtree.now.delimiter.open_span ∷ []) x,
    )

pub invariant_of-self-inside-2 : goal.invariant_of-self-inside-2
invariant_of-self-inside-2 c =
    let is = seen _ _ _ c.self.inside.held _ c.self.view_is in
    let it = c.args.subtree.now in
    let there = place_later _ _ _ _ _ c.in_ok-closing.ensures.ok c.in_ok-opening.ensures.place in
    let opened = c.add_at.ensures.more _ there in
    let closing_there = ap (λ l. slice_get l c.in_ok-closing.closing.part) c.add_at.ensures.values ∙ c.in_ok-closing.ensures.place in
    let closed = c.add_at-2.ensures.more _ closing_there in
    let opening : IsPlaced (entries_of c.span_numbers.new.parts) c.in_ok-opening.opening it.delimiter.open_span =
    record { place = c.in_ok-opening.ensures.place; is = c.in_ok-opening.ensures.numbers; range = c.in_ok-opening.ensures.range } in
    let closing : IsPlaced (entries_of c.span_numbers-2.new.parts) c.in_ok-closing.closing it.delimiter.close =
    record { place = c.in_ok-closing.ensures.place; is = c.in_ok-closing.ensures.numbers; range = c.in_ok-closing.ensures.range } in
    let entry : HeaderEntry = record { opening = c.in_ok-opening.opening; closing = c.in_ok-closing.closing; kind = it.delimiter.kind; len = it.len; child_bytes = 0 } in
    let grown : c.push_reserved.new.self.items ≡ c.self.inside.tokens.items ++ interned.Header entry ∷ [] = search rules in
    ((c.args.self.now ++ whole (token.Subtree it) ∷ [], header_held _ _ _ _ _ _ _ _ _ it entry is c.requires.few c.in_ok-opening.ensures.ok opening c.in_ok-closing.ensures.ok closing opened c.add_at.ensures.values closed c.add_at-2.ensures.values refl refl grown), tt)

pub returns-clause-ok : goal.returns-clause-ok
returns-clause-ok c =
    let is = seen _ _ _ c.self.inside.held _ c.self.view_is in
    let it = c.args.subtree.now in
    let there = place_later _ _ _ _ _ c.in_ok-closing.ensures.ok c.in_ok-opening.ensures.place in
    let opened = c.add_at.ensures.more _ there in
    let closing_there = ap (λ l. slice_get l c.in_ok-closing.closing.part) c.add_at.ensures.values ∙ c.in_ok-closing.ensures.place in
    let closed = c.add_at-2.ensures.more _ closing_there in
    let opening : IsPlaced (entries_of c.span_numbers.new.parts) c.in_ok-opening.opening it.delimiter.open_span =
    record { place = c.in_ok-opening.ensures.place; is = c.in_ok-opening.ensures.numbers; range = c.in_ok-opening.ensures.range } in
    let closing : IsPlaced (entries_of c.span_numbers-2.new.parts) c.in_ok-closing.closing it.delimiter.close =
    record { place = c.in_ok-closing.ensures.place; is = c.in_ok-closing.ensures.numbers; range = c.in_ok-closing.ensures.range } in
    let entry : HeaderEntry = record { opening = c.in_ok-opening.opening; closing = c.in_ok-closing.closing; kind = it.delimiter.kind; len = it.len; child_bytes = 0 } in
    let grown : c.push_reserved.new.self.items ≡ c.self.inside.tokens.items ++ interned.Header entry ∷ [] = search rules in
    let next = header_held _ _ _ _ _ _ _ _ _ it entry is c.requires.few c.in_ok-opening.ensures.ok opening c.in_ok-closing.ensures.ok closing opened c.add_at.ensures.values closed c.add_at-2.ensures.values refl refl grown in
    search (rules, held_is, next)
