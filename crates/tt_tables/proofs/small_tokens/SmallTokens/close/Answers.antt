use Rattle.std.proofs.Common.{◌≡◌, Some, length, vec_len, sym, refl, rules, arith, ◌∙◌, ap}
use Rattle.std.proofs.lemmas.Option.{slice_get_within, slice_get_read, get_or_from_slice_get}
use Rattle.tt_base.specs.declared.token_tree.TokenTree.TheVariants as token
use Rattle.tt_tables.specs.OneSmall.{small_is, small_seen}
use Rattle.tt_tables.proofs.SmallClosing.{as_many_small, header_there, small_closed, leaf_stays_closed}
use Rattle.tt_tables.proofs.small_tokens.SmallTokens.close.Goals as goal

pub index-small-requires : goal.index-small-requires
index-small-requires c =
    let is = small_seen _ _ _ _ _ c.self.inside.held _ c.self.view_is in
    let counted : vec_len c.self.inside.tokens ≡ length c.self.inside.tokens.items = search rules in
    omega (arith, counted, as_many_small _ _ _ _ _ is.means, c.requires.within)

pub index_mut-header-requires : goal.index_mut-header-requires
index_mut-header-requires c =
    let is = small_seen _ _ _ _ _ c.self.inside.held _ c.self.view_is in
    let counted : vec_len c.self.inside.headers ≡ length c.self.inside.headers.items = search rules in
    let at = slice_get_read c.self.inside.tokens.items _ c.args.place _ refl (omega (arith, as_many_small _ _ _ _ _ is.means, c.requires.within)) c.index-small.ensures in
    let (it, there, here) = header_there _ _ _ _ _ _ is c.args.place _ at c.in-Header.is in
    omega (arith, counted, slice_get_within c.self.inside.headers.items c.index-small.result.now.value it there)

pub invariant_of-self-inside : goal.invariant_of-self-inside
invariant_of-self-inside c =
    let is = small_seen _ _ _ _ _ c.self.inside.held _ c.self.view_is in
    let at = slice_get_read c.self.inside.tokens.items _ c.args.place _ refl (omega (arith, as_many_small _ _ _ _ _ is.means, c.requires.within)) c.index-small.ensures in
    let (it, there, here) = header_there _ _ _ _ _ _ is c.args.place _ at c.in-Header.is in
    let one = c.index_mut-header.ensures.value ∙ get_or_from_slice_get c.self.inside.headers.items c.index-small.result.now.value it c.index_mut-header.result.now there in
    ((_, small_closed _ _ _ _ _ _ is c.args.place _ at _ c.args.close_span c.args.len c.index_mut-header.result.now _ (token.Subtree it) c.in-Header.is (there ∙ ap Some (sym one)) refl refl), tt)

pub returns-in-Header : goal.returns-in-Header
returns-in-Header c = λ d.
    let is = small_seen _ _ _ _ _ c.self.inside.held _ c.self.view_is in
    let at = slice_get_read c.self.inside.tokens.items _ c.args.place _ refl (omega (arith, as_many_small _ _ _ _ _ is.means, c.requires.within)) c.index-small.ensures in
    let (it, there, here) = header_there _ _ _ _ _ _ is c.args.place _ at c.in-Header.is in
    let one = c.index_mut-header.ensures.value ∙ get_or_from_slice_get c.self.inside.headers.items c.index-small.result.now.value it c.index_mut-header.result.now there in
    let next = small_closed _ _ _ _ _ _ is c.args.place _ at _ c.args.close_span c.args.len c.index_mut-header.result.now _ d c.in-Header.is (there ∙ ap Some (sym one)) refl refl in
    search (rules, small_is, next)

pub returns-in_default : goal.returns-in_default
returns-in_default c = λ d.
    let is = small_seen _ _ _ _ _ c.self.inside.held _ c.self.view_is in
    let at = slice_get_read c.self.inside.tokens.items _ c.args.place _ refl (omega (arith, as_many_small _ _ _ _ _ is.means, c.requires.within)) c.index-small.ensures in
    sym (leaf_stays_closed _ _ _ _ _ _ is c.args.place _ at c.args.close_span c.args.len d c.in_default.not-Header)
