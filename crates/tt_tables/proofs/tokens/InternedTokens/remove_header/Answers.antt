use Rattle.std.proofs.Common.{◌≡◌, length, vec_len, slice_get, refl, rules, arith, ap, sym, subst, ◌∙◌}
use Rattle.std.specs.List.{remove}
use Rattle.std.specs.Map.{keys_of}
use Rattle.tt_base.specs.contracts.span.SpanPartEq.TheImpl.Laws as part_eq
use Rattle.tt_tables.specs.Interned.{AreHeld}
use Rattle.tt_tables.specs.OneList.{held_is}
use Rattle.tt_tables.proofs.Changing.{held_removed}
use Rattle.tt_tables.proofs.Growing.{seen}
use Rattle.tt_tables.proofs.Standing.{HeaderThere, closed_at, past_end, token_there, header_at, header_there}
use Rattle.tt_tables.proofs.Taking.{has_first, has_second, both_gone}
use Rattle.tt_tables.specs.Interner.{entries_of}
use Rattle.tt_tables.specs.Uses.{same_part}
use Rattle.tt_tables.proofs.tokens.InternedTokens.remove_header.Goals as goal

pub returns-then-place-len-clause-removed : goal.returns-then-place-len-clause-removed
returns-then-place-len-clause-removed c = λ it at.
    let is = seen _ _ _ c.self.inside.held _ c.self.view_is in
    let counted : vec_len c.self.inside.tokens ≡ length c.self.inside.tokens.items = search rules in
    absurd (past_end _ _ _ _ c.args.place _ is (omega (arith, c.if-place-len.true, c.len.ensures, counted)) at)

pub returns-in_default-clause-removed : goal.returns-in_default-clause-removed
returns-in_default-clause-removed c = λ it at.
    let is = seen _ _ _ c.self.inside.held _ c.self.view_is in
    let counted : vec_len c.self.inside.tokens ≡ length c.self.inside.tokens.items = search rules in
    let token = token_there c.self.inside.tokens.items c.args.place _ _ _ counted (omega (arith, c.if-place-len.false, c.len.ensures)) c.index.ensures refl in
    let (entry, is_header) = header_at _ _ _ _ c.args.place _ it is token at in
    absurd (c.in_default.not-Header entry is_header)

pub take_at-requires-clause-some : goal.take_at-requires-clause-some
take_at-requires-clause-some c = λ x here.
    let is = seen _ _ _ c.self.inside.held _ c.self.view_is in
    let counted : vec_len c.self.inside.tokens ≡ length c.self.inside.tokens.items = search rules in
    let token = token_there c.self.inside.tokens.items c.args.place _ _ _ counted (omega (arith, c.if-place-len.false, c.len.ensures)) c.index.ensures c.in-Header.is in
    let there : HeaderThere (entries_of c.self.inside.parts) c.args.self.now c.args.place c.in-Header.entry = header_there _ _ _ _ _ _ is token in
    has_first same_part part_eq.lawful.laws (keys_of (entries_of c.self.inside.parts)) c.in-Header.entry.opening.part _ _ _ _ x there.first_there there.counted there.used here

pub take_at-requires-2-clause-some : goal.take_at-requires-2-clause-some
take_at-requires-2-clause-some c = λ x here.
    let is = seen _ _ _ c.self.inside.held _ c.self.view_is in
    let counted : vec_len c.self.inside.tokens ≡ length c.self.inside.tokens.items = search rules in
    let token = token_there c.self.inside.tokens.items c.args.place _ _ _ counted (omega (arith, c.if-place-len.false, c.len.ensures)) c.index.ensures c.in-Header.is in
    let there : HeaderThere (entries_of c.self.inside.parts) c.args.self.now c.args.place c.in-Header.entry = header_there _ _ _ _ _ _ is token in
    let opening = c.take_at.ensures.less _ there.first_there in
    let closing = ap (λ l. slice_get l c.in-Header.entry.closing.part) c.take_at.ensures.values ∙ there.second_there in
    has_second same_part part_eq.lawful.laws (keys_of (entries_of c.take_at.new.self)) c.in-Header.entry.closing.part _ _ _ _ _ x closing there.counted there.used opening here

pub invariant_of-self-inside : goal.invariant_of-self-inside
invariant_of-self-inside c =
    let is = seen _ _ _ c.self.inside.held _ c.self.view_is in
    let counted : vec_len c.self.inside.tokens ≡ length c.self.inside.tokens.items = search rules in
    let token = token_there c.self.inside.tokens.items c.args.place _ _ _ counted (omega (arith, c.if-place-len.false, c.len.ensures)) c.index.ensures c.in-Header.is in
    let there : HeaderThere (entries_of c.self.inside.parts) c.args.self.now c.args.place c.in-Header.entry = header_there _ _ _ _ _ _ is token in
    let opening = c.take_at.ensures.less _ there.first_there in
    let closing = ap (λ l. slice_get l c.in-Header.entry.closing.part) c.take_at.ensures.values ∙ there.second_there in
    let fewer = both_gone same_part part_eq.lawful.laws _ _ _ _ _ _ there.counted opening (c.take_at-2.ensures.less _ closing) in
    let removed : c.remove.new.self.items ≡ remove c.self.inside.tokens.items c.args.place = search rules in
    ((_, subst (λ l. AreHeld l (entries_of c.take_at-2.new.self) (entries_of c.self.inside.symbols) (remove c.args.self.now c.args.place)) (sym removed) (held_removed _ _ _ _ _ c.args.place there.it is there.there there.no_symbol (c.take_at-2.ensures.values ∙ c.take_at.ensures.values) fewer)), tt)

pub returns-clause-removed : goal.returns-clause-removed
returns-clause-removed c = λ it at.
    let is = seen _ _ _ c.self.inside.held _ c.self.view_is in
    let counted : vec_len c.self.inside.tokens ≡ length c.self.inside.tokens.items = search rules in
    let token = token_there c.self.inside.tokens.items c.args.place _ _ _ counted (omega (arith, c.if-place-len.false, c.len.ensures)) c.index.ensures c.in-Header.is in
    let there : HeaderThere (entries_of c.self.inside.parts) c.args.self.now c.args.place c.in-Header.entry = header_there _ _ _ _ _ _ is token in
    let opening = c.take_at.ensures.less _ there.first_there in
    let closing = ap (λ l. slice_get l c.in-Header.entry.closing.part) c.take_at.ensures.values ∙ there.second_there in
    let fewer = both_gone same_part part_eq.lawful.laws _ _ _ _ _ _ there.counted opening (c.take_at-2.ensures.less _ closing) in
    let removed : c.remove.new.self.items ≡ remove c.self.inside.tokens.items c.args.place = search rules in
    let next = subst (λ l. AreHeld l (entries_of c.take_at-2.new.self) (entries_of c.self.inside.symbols) (remove c.args.self.now c.args.place)) (sym removed) (held_removed _ _ _ _ _ c.args.place there.it is there.there there.no_symbol (c.take_at-2.ensures.values ∙ c.take_at.ensures.values) fewer) in
    search (rules, held_is, next)

pub returns-clause-none : goal.returns-clause-none
returns-clause-none c = λ lacking.
    let is = seen _ _ _ c.self.inside.held _ c.self.view_is in
    let counted : vec_len c.self.inside.tokens ≡ length c.self.inside.tokens.items = search rules in
    let token = token_there c.self.inside.tokens.items c.args.place _ _ _ counted (omega (arith, c.if-place-len.false, c.len.ensures)) c.index.ensures c.in-Header.is in
    let (it, there) = closed_at _ _ _ _ c.args.place _ is token in
    absurd (lacking it there)
