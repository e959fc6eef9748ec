use Rattle.std.proofs.Common.{◌≡◌, Err, ◌++◌, ◌∷◌, [], length, vec_len, refl, rules, ◌∙◌}
use Rattle.tt_tables.specs.declared.small.Form.TheVariants as form
use Rattle.tt_tables.specs.OneSmall.{small_is, small_seen}
use Rattle.tt_tables.proofs.SmallHeld.{same_small, header_pushed}
use Rattle.tt_tables.proofs.small_tokens.SmallTokens.push_header.Goals as goal

pub returns-in_err-reserve-clause-err : goal.returns-in_err-reserve-clause-err
returns-in_err-reserve-clause-err c =
    let is = small_seen _ _ _ _ _ c.self.inside.held _ c.self.view_is in
    let next = same_small _ _ _ _ _ _ _ _ _ _ is c.reserve.ensures.items refl refl refl in
    let failed : c.from_residual.result ≡ Err c.in_err-reserve.field-0.0 = search rules in
    rw failed (search (rules, small_is, next))

pub returns-in_err-reserve-2-clause-err : goal.returns-in_err-reserve-2-clause-err
returns-in_err-reserve-2-clause-err c =
    let is = small_seen _ _ _ _ _ c.self.inside.held _ c.self.view_is in
    let next = same_small _ _ _ _ _ _ _ _ _ _ is c.reserve.ensures.items c.reserve-2.ensures.items refl refl in
    let failed : c.from_residual-in_err-reserve-2.result ≡ Err c.in_err-reserve-2.field-0.0 = search rules in
    rw failed (search (rules, small_is, next))

pub invariant_of-self-inside-2 : goal.invariant_of-self-inside-2
invariant_of-self-inside-2 c =
    let is = small_seen _ _ _ _ _ c.self.inside.held _ c.self.view_is in
    let counted : vec_len c.reserve-2.new.self ≡ length c.self.inside.headers.items = search rules in
    let grown : c.push_reserved.new.self.items ≡ c.self.inside.tokens.items ++ record { value = c.len.result; start = 0; length = 0; form = form.Header } ∷ [] = search rules in
    let headers : c.push_reserved-2.new.self.items ≡ c.self.inside.headers.items ++ c.args.subtree ∷ [] = search rules in
    let next = header_pushed _ _ _ _ _ _ _ _ c.len.result c.args.subtree is c.requires.few (c.len.ensures ∙ counted) grown headers in
    ((_, next), tt)

pub returns-clause-ok : goal.returns-clause-ok
returns-clause-ok c =
    let is = small_seen _ _ _ _ _ c.self.inside.held _ c.self.view_is in
    let counted : vec_len c.reserve-2.new.self ≡ length c.self.inside.headers.items = search rules in
    let grown : c.push_reserved.new.self.items ≡ c.self.inside.tokens.items ++ record { value = c.len.result; start = 0; length = 0; form = form.Header } ∷ [] = search rules in
    let headers : c.push_reserved-2.new.self.items ≡ c.self.inside.headers.items ++ c.args.subtree ∷ [] = search rules in
    let next = header_pushed _ _ _ _ _ _ _ _ c.len.result c.args.subtree is c.requires.few (c.len.ensures ∙ counted) grown headers in
    search (rules, small_is, next)
