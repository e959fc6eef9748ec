use Rattle.std.proofs.Common.{◌≡◌, Err, ◌++◌, ◌∷◌, [], bytes_eq, refl, rules, arith}
use Rattle.tt_base.specs.declared.leaf.Leaf.TheVariants as leaf
use Rattle.tt_base.specs.declared.token_tree.TokenTree.TheVariants as token
use Rattle.tt_base.specs.Span.{part_of}
use Rattle.tt_codec.specs.declared.entry.LeafEntry.TheVariants.{Ident as ident}
use Rattle.tt_tables.specs.declared.token.InternedToken.TheVariants as interned
use Rattle.tt_tables.specs.Held.{whole}
use Rattle.tt_tables.specs.OneList.{held_is}
use Rattle.tt_tables.proofs.Growing.{IsPlaced, IsUsed, seen, same_held, part_noted, part_room, symbol_room, ident_held}
use Rattle.tt_tables.specs.Interner.{entries_of}
use Rattle.tt_tables.specs.Uses.{same_part}
use Rattle.tt_tables.proofs.tokens.InternedTokens.push_ident.Goals as goal

pub returns-in_err-reserve-clause-err : goal.returns-in_err-reserve-clause-err
returns-in_err-reserve-clause-err c =
    let is = seen _ _ _ c.self.inside.held _ c.self.view_is in
    let next = same_held _ _ _ _ _ _ _ is c.reserve.ensures.items refl refl in
    let failed : c.from_residual.result ≡ Err c.in_err-reserve.field-0.0 = search rules in
    rw failed (search (rules, held_is, next))

pub returns-in_err-numbers-clause-err : goal.returns-in_err-numbers-clause-err
returns-in_err-numbers-clause-err c =
    let is = seen _ _ _ c.self.inside.held _ c.self.view_is in
    let next = same_held _ _ _ _ _ _ _ is c.reserve.ensures.items c.in_err-numbers.ensures.err refl in
    let failed : c.from_residual-in_err-numbers.result ≡ Err c.in_err-numbers.field-0.0 = search rules in
    rw failed (search (rules, held_is, next))

pub invariant_of-self-inside-in-Break-branch-3 : goal.invariant_of-self-inside-in-Break-branch-3
invariant_of-self-inside-in-Break-branch-3 c =
    let is = seen _ _ _ c.self.inside.held _ c.self.view_is in
    ((c.args.self.now, part_noted _ _ _ _ _ _ _ _ is c.reserve.ensures.items c.in_ok-numbers.ensures.ok c.in_err-symbol.ensures.err), tt)

pub returns-in_err-symbol-clause-err : goal.returns-in_err-symbol-clause-err
returns-in_err-symbol-clause-err c =
    let is = seen _ _ _ c.self.inside.held _ c.self.view_is in
    let next = part_noted _ _ _ _ _ _ _ _ is c.reserve.ensures.items c.in_ok-numbers.ensures.ok c.in_err-symbol.ensures.err in
    let failed : c.from_residual-in_err-symbol.result ≡ Err c.in_err-symbol.field-0.0 = search rules in
    rw failed (search (rules, held_is, next))

pub add_at-requires-clause-room : goal.add_at-requires-clause-room
add_at-requires-clause-room c = λ x.
    let is = seen _ _ _ c.self.inside.held _ c.self.view_is in
    omega (arith, part_room _ _ _ _ _ _ x is c.in_ok-numbers.ensures.ok)

pub add_at-requires-2-clause-room : goal.add_at-requires-2-clause-room
add_at-requires-2-clause-room c = λ x.
    let is = seen _ _ _ c.self.inside.held _ c.self.view_is in
    symbol_room _ _ _ _ _ _ x is c.in_ok-symbol.ensures.ok

pub invariant_of-self-inside-2 : goal.invariant_of-self-inside-2
invariant_of-self-inside-2 c =
    let is = seen _ _ _ c.self.inside.held _ c.self.view_is in
    let it = c.args.ident.now in
    let used : IsUsed same_part (entries_of c.self.inside.parts) (entries_of c.span_numbers.new.parts) (entries_of c.add_at.new.self) (part_of it.span) =
    record { entry = c.in_ok-numbers.ensures.ok; more = c.add_at.ensures.more _ c.in_ok-numbers.ensures.place; keys = c.add_at.ensures.values } in
    let symbol_use : IsUsed bytes_eq (entries_of c.self.inside.symbols) (entries_of c.symbol_place.new.symbols) (entries_of c.add_at-2.new.self) it.sym =
    record { entry = c.in_ok-symbol.ensures.ok; more = c.add_at-2.ensures.more _ c.in_ok-symbol.ensures.place; keys = c.add_at-2.ensures.values } in
    let placed : IsPlaced (entries_of c.span_numbers.new.parts) c.in_ok-numbers.numbers it.span =
    record { place = c.in_ok-numbers.ensures.place; is = c.in_ok-numbers.ensures.numbers; range = c.in_ok-numbers.ensures.range } in
    let grown : c.push_reserved.new.self.items ≡ c.self.inside.tokens.items ++ interned.Leaf (ident c.in_ok-symbol.symbol it.is_raw c.in_ok-numbers.numbers) ∷ [] = search rules in
    ((c.args.self.now ++ whole (token.Leaf (leaf.Ident it)) ∷ [], ident_held _ _ _ _ _ _ _ _ _ it _ _ is c.requires.few used symbol_use placed c.in_ok-symbol.ensures.place grown), tt)

pub returns-clause-ok : goal.returns-clause-ok
returns-clause-ok c =
    let is = seen _ _ _ c.self.inside.held _ c.self.view_is in
    let it = c.args.ident.now in
    let used : IsUsed same_part (entries_of c.self.inside.parts) (entries_of c.span_numbers.new.parts) (entries_of c.add_at.new.self) (part_of it.span) =
    record { entry = c.in_ok-numbers.ensures.ok; more = c.add_at.ensures.more _ c.in_ok-numbers.ensures.place; keys = c.add_at.ensures.values } in
    let symbol_use : IsUsed bytes_eq (entries_of c.self.inside.symbols) (entries_of c.symbol_place.new.symbols) (entries_of c.add_at-2.new.self) it.sym =
    record { entry = c.in_ok-symbol.ensures.ok; more = c.add_at-2.ensures.more _ c.in_ok-symbol.ensures.place; keys = c.add_at-2.ensures.values } in
    let placed : IsPlaced (entries_of c.span_numbers.new.parts) c.in_ok-numbers.numbers it.span =
    record { place = c.in_ok-numbers.ensures.place; is = c.in_ok-numbers.ensures.numbers; range = c.in_ok-numbers.ensures.range } in
    let grown : c.push_reserved.new.self.items ≡ c.self.inside.tokens.items ++ interned.Leaf (ident c.in_ok-symbol.symbol it.is_raw c.in_ok-numbers.numbers) ∷ [] = search rules in
    let next = ident_held _ _ _ _ _ _ _ _ _ it _ _ is c.requires.few used symbol_use placed c.in_ok-symbol.ensures.place grown in
    search (rules, held_is, next)
