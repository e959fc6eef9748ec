use Rattle.std.proofs.Common.{◌≡◌, length, vec_len, min, take, sym, subst, rules}
use Rattle.tt_tables.specs.Interned.{AreHeld}
use Rattle.tt_tables.specs.OneList.{held_is}
use Rattle.tt_tables.proofs.Changing.{held_cut}
use Rattle.tt_tables.proofs.Growing.{seen}
use Rattle.tt_tables.proofs.Standing.{rest_named, can_take_rest, first_of_all}
use Rattle.tt_tables.proofs.Interned.{entries_distinct}
use Rattle.tt_tables.specs.Interner.{entries_of}
use Rattle.tt_tables.proofs.tokens.InternedTokens.truncate.Goals as goal

pub uncount_all-requires : goal.uncount_all-requires
uncount_all-requires c =
    let is = seen _ _ _ c.self.inside.held _ c.self.view_is in
    can_take_rest _ c.deref.result.now _ _ _ c.min-len.result is c.deref.ensures.value

pub invariant_of-self-inside : goal.invariant_of-self-inside
invariant_of-self-inside c =
    let is = seen _ _ _ c.self.inside.held _ c.self.view_is in
    let counted : vec_len c.self.inside.tokens ≡ length c.self.inside.tokens.items = search rules in
    let n = c.min-len.result in
    let named = rest_named _ c.deref.result.now _ _ _ n is c.deref.ensures.value in
    let cut : c.truncate.new.self.items ≡ take n c.self.inside.tokens.items = search rules in
    let next = subst (λ l. AreHeld l (entries_of c.drop_last_unused.new.self) (entries_of c.drop_last_unused-2.new.self) (take n c.args.self.now)) (sym cut)
    (held_cut _ _ _ _ _ _ _ _ n is (entries_distinct c.self.inside.parts) c.uncount_all.ensures.part_values (c.uncount_all.ensures.parts _ named) c.drop_last_unused.ensures.cut
    c.drop_last_unused.ensures.numbers (entries_distinct c.self.inside.symbols) c.uncount_all.ensures.symbol_values (c.uncount_all.ensures.symbols _ named) c.drop_last_unused-2.ensures.cut
    c.drop_last_unused-2.ensures.numbers) in
    ((_, next), tt)

pub returns : goal.returns
returns c =
    let is = seen _ _ _ c.self.inside.held _ c.self.view_is in
    let counted : vec_len c.self.inside.tokens ≡ length c.self.inside.tokens.items = search rules in
    let n = c.min-len.result in
    let named = rest_named _ c.deref.result.now _ _ _ n is c.deref.ensures.value in
    let cut : c.truncate.new.self.items ≡ take n c.self.inside.tokens.items = search rules in
    let next = subst (λ l. AreHeld l (entries_of c.drop_last_unused.new.self) (entries_of c.drop_last_unused-2.new.self) (take n c.args.self.now)) (sym cut)
    (held_cut _ _ _ _ _ _ _ _ n is (entries_distinct c.self.inside.parts) c.uncount_all.ensures.part_values (c.uncount_all.ensures.parts _ named) c.drop_last_unused.ensures.cut
    c.drop_last_unused.ensures.numbers (entries_distinct c.self.inside.symbols) c.uncount_all.ensures.symbol_values (c.uncount_all.ensures.symbols _ named) c.drop_last_unused-2.ensures.cut
    c.drop_last_unused-2.ensures.numbers) in
    let few : c.min-len.result ≡ min c.args.len (length c.self.inside.tokens.items) = search rules in
    let first = first_of_all _ _ _ c.args.len n is.named few in
    rw (sym first) (search (rules, held_is, next))
