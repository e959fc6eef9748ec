use Rattle.std.proofs.Common.{◌≡◌, ◌<◌, ◌-◌, Some, length, vec_len, set, slice_get, refl, rules, arith, ap, sym, subst, ◌∙◌}
use Rattle.tt_tables.specs.Held.{whole}
use Rattle.tt_tables.specs.Missing.{NoWholeAt}
use Rattle.tt_tables.specs.OneList.{held_is}
use Rattle.tt_tables.proofs.Growing.{seen, alone_held, held_alone, none_alone}
use Rattle.tt_tables.proofs.PlacesKept.{length-named}
use Rattle.tt_tables.proofs.Standing.{token_there}
use Rattle.tt_tables.proofs.tokens.InternedTokens.set_last_alone.Goals as goal

pub invariant_of-self-inside : goal.invariant_of-self-inside
invariant_of-self-inside c =
    let is = seen _ _ _ c.self.inside.held _ c.self.view_is in
    let counted : vec_len c.self.inside.tokens ≡ length c.self.inside.tokens.items = search rules in
    let last : c.in-Some.last < vec_len c.self.inside.tokens = search (rules, arith) in
    let token = token_there c.self.inside.tokens.items c.in-Some.last _ _ _ counted last c.index-token.ensures refl in
    let (h, there, next) = alone_held _ _ _ _ _ c.in-Some.last _ is token (ap (set c.self.inside.tokens.items c.in-Some.last) c.alone.ensures) in
    ((_, next), tt)

pub returns-clause-alone : goal.returns-clause-alone
returns-clause-alone c = λ it at.
    let is = seen _ _ _ c.self.inside.held _ c.self.view_is in
    let counted : vec_len c.self.inside.tokens ≡ length c.self.inside.tokens.items = search rules in
    let last : c.in-Some.last < vec_len c.self.inside.tokens = search (rules, arith) in
    let token = token_there c.self.inside.tokens.items c.in-Some.last _ _ _ counted last c.index-token.ensures refl in
    let (h, there, next) = alone_held _ _ _ _ _ c.in-Some.last _ is token (ap (set c.self.inside.tokens.items c.in-Some.last) c.alone.ensures) in
    let where_last : c.in-Some.last ≡ length c.args.self.now - 1 = search (rules, arith, length-named _ _ _ is.named, counted) in
    let both : Some h ≡ Some (whole it) = sym there ∙ ap (slice_get c.args.self.now) where_last ∙ at in
    let one : h ≡ whole it = cc both in
    rw (sym where_last) (rw (sym (ap held_alone one)) (search (rules, held_is, next)))

pub returns-clause-none : goal.returns-clause-none
returns-clause-none c = λ lacking.
    let is = seen _ _ _ c.self.inside.held _ c.self.view_is in
    let counted : vec_len c.self.inside.tokens ≡ length c.self.inside.tokens.items = search rules in
    let last : c.in-Some.last < vec_len c.self.inside.tokens = search (rules, arith) in
    let token = token_there c.self.inside.tokens.items c.in-Some.last _ _ _ counted last c.index-token.ensures refl in
    let (h, there, next) = alone_held _ _ _ _ _ c.in-Some.last _ is token (ap (set c.self.inside.tokens.items c.in-Some.last) c.alone.ensures) in
    let where_last : c.in-Some.last ≡ length c.args.self.now - 1 = search (rules, arith, length-named _ _ _ is.named, counted) in
    let kept = none_alone c.args.self.now c.in-Some.last h there (subst (NoWholeAt c.args.self.now) (sym where_last) lacking) in
    rw (sym kept) (search (rules, held_is, next))
