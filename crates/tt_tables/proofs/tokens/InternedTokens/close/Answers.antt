use Rattle.std.proofs.Common.{◌≡◌, Err, Some, length, vec_len, refl, rules, arith, sym, ◌∙◌}
use Rattle.tt_base.specs.Span.{part_of}
use Rattle.tt_codec.specs.declared.entry.HeaderEntry.{HeaderEntry}
use Rattle.tt_tables.specs.Held.{opened}
use Rattle.tt_tables.specs.OneList.{held_is}
use Rattle.tt_tables.proofs.Growing.{IsPlaced, IsUsed, seen, same_held, part_room, closed_held}
use Rattle.tt_tables.proofs.Standing.{IsOpenAt, open_at, not_open_at, past_end, token_there}
use Rattle.tt_tables.specs.Interner.{entries_of}
use Rattle.tt_tables.specs.Uses.{same_part}
use Rattle.tt_tables.proofs.tokens.InternedTokens.close.Goals as goal

pub returns-then-place-len-clause-ok : goal.returns-then-place-len-clause-ok
returns-then-place-len-clause-ok c = λ kind open_span at.
    let is = seen _ _ _ c.self.inside.held _ c.self.view_is in
    let counted : vec_len c.self.inside.tokens ≡ length c.self.inside.tokens.items = search rules in
    absurd (past_end _ _ _ _ c.args.place _ is (omega (arith, c.if-place-len.true, c.len.ensures, counted)) at)

pub returns-in_default : goal.returns-in_default
returns-in_default c = record {
  ok = λ kind open_span at.
      let is = seen _ _ _ c.self.inside.held _ c.self.view_is in
      let counted : vec_len c.self.inside.tokens ≡ length c.self.inside.tokens.items = search rules in
      let token = token_there c.self.inside.tokens.items c.args.place _ _ _ counted (omega (arith, c.if-place-len.false, c.len.ensures)) c.index.ensures refl in
      let (k, (numbers, is_open)) = not_open_at _ _ _ _ c.args.place _ kind open_span is token at in
      absurd (c.in_default.not-Open k numbers is_open);
  err = tt;
  none = λ lacking. refl;
}

pub returns-in_err-closing-clause-err : goal.returns-in_err-closing-clause-err
returns-in_err-closing-clause-err c =
    let is = seen _ _ _ c.self.inside.held _ c.self.view_is in
    let next = same_held _ _ _ _ _ _ _ is refl c.in_err-closing.ensures.err refl in
    let failed : c.from_residual.result ≡ Err c.in_err-closing.field-0.0 = search rules in
    rw failed (search (rules, held_is, next))

pub add_at-requires-clause-room : goal.add_at-requires-clause-room
add_at-requires-clause-room c = λ x.
    let is = seen _ _ _ c.self.inside.held _ c.self.view_is in
    omega (arith, part_room _ _ _ _ _ _ x is c.in_ok-closing.ensures.ok)

pub invariant_of-self-inside-2 : goal.invariant_of-self-inside-2
invariant_of-self-inside-2 c =
    let is = seen _ _ _ c.self.inside.held _ c.self.view_is in
    let counted : vec_len c.self.inside.tokens ≡ length c.self.inside.tokens.items = search rules in
    let token = token_there c.self.inside.tokens.items c.args.place _ _ _ counted (omega (arith, c.if-place-len.false, c.len.ensures)) c.index.ensures c.in-Open.is in
    let there : IsOpenAt (entries_of c.self.inside.parts) (entries_of c.self.inside.symbols) c.args.self.now c.args.place c.in-Open.kind c.in-Open.opening = open_at _ _ _ _ _ _ _ is token in
    let used : IsUsed same_part (entries_of c.self.inside.parts) (entries_of c.span_numbers.new.parts) (entries_of c.add_at.new.self) (part_of c.args.close_span.now) =
    record { entry = c.in_ok-closing.ensures.ok; more = c.add_at.ensures.more _ c.in_ok-closing.ensures.place; keys = c.add_at.ensures.values } in
    let closing : IsPlaced (entries_of c.span_numbers.new.parts) c.in_ok-closing.closing c.args.close_span.now =
    record { place = c.in_ok-closing.ensures.place; is = c.in_ok-closing.ensures.numbers; range = c.in_ok-closing.ensures.range } in
    let entry : HeaderEntry = record { opening = c.in-Open.opening; closing = c.in_ok-closing.closing; kind = c.in-Open.kind; len = c.args.len; child_bytes = 0 } in
    ((_, closed_held _ _ _ _ _ _ _ c.args.place there.kind there.open_span c.args.close_span.now c.args.len entry is there.there used closing there.named refl refl), tt)

pub returns-clause-ok : goal.returns-clause-ok
returns-clause-ok c = λ kind open_span at.
    let is = seen _ _ _ c.self.inside.held _ c.self.view_is in
    let counted : vec_len c.self.inside.tokens ≡ length c.self.inside.tokens.items = search rules in
    let token = token_there c.self.inside.tokens.items c.args.place _ _ _ counted (omega (arith, c.if-place-len.false, c.len.ensures)) c.index.ensures c.in-Open.is in
    let there : IsOpenAt (entries_of c.self.inside.parts) (entries_of c.self.inside.symbols) c.args.self.now c.args.place c.in-Open.kind c.in-Open.opening = open_at _ _ _ _ _ _ _ is token in
    let used : IsUsed same_part (entries_of c.self.inside.parts) (entries_of c.span_numbers.new.parts) (entries_of c.add_at.new.self) (part_of c.args.close_span.now) =
    record { entry = c.in_ok-closing.ensures.ok; more = c.add_at.ensures.more _ c.in_ok-closing.ensures.place; keys = c.add_at.ensures.values } in
    let closing : IsPlaced (entries_of c.span_numbers.new.parts) c.in_ok-closing.closing c.args.close_span.now =
    record { place = c.in_ok-closing.ensures.place; is = c.in_ok-closing.ensures.numbers; range = c.in_ok-closing.ensures.range } in
    let entry : HeaderEntry = record { opening = c.in-Open.opening; closing = c.in_ok-closing.closing; kind = c.in-Open.kind; len = c.args.len; child_bytes = 0 } in
    let both : Some (opened there.kind there.open_span) ≡ Some (opened kind open_span) = sym there.there ∙ at in
    let kinds : there.kind ≡ kind = cc both in
    let spans : there.open_span ≡ open_span = cc both in
    let next = closed_held _ _ _ _ _ _ _ c.args.place there.kind there.open_span c.args.close_span.now c.args.len entry is there.there used closing there.named refl refl in
    rw (sym kinds, sym spans) (search (rules, held_is, next))

pub returns-clause-none : goal.returns-clause-none
returns-clause-none c = λ lacking.
    let is = seen _ _ _ c.self.inside.held _ c.self.view_is in
    let counted : vec_len c.self.inside.tokens ≡ length c.self.inside.tokens.items = search rules in
    let token = token_there c.self.inside.tokens.items c.args.place _ _ _ counted (omega (arith, c.if-place-len.false, c.len.ensures)) c.index.ensures c.in-Open.is in
    let there : IsOpenAt (entries_of c.self.inside.parts) (entries_of c.self.inside.symbols) c.args.self.now c.args.place c.in-Open.kind c.in-Open.opening = open_at _ _ _ _ _ _ _ is token in
    absurd (lacking there.kind there.open_span there.there)
