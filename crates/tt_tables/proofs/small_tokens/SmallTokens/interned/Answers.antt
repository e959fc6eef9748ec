use Rattle.std.proofs.Common.{◌≡◌, ◌%◌, Some, length, vec_len, sym, subst, refl, rules, arith, ap, ◌∙◌}
use Rattle.std.proofs.lemmas.Option.{slice_get_within, slice_get_read, get_or_from_slice_get}
use Rattle.tt_codec.specs.declared.entry.LeafEntry.TheVariants.{Punct as punct, Ident as ident, Literal as literal}
use Rattle.tt_tables.specs.OneSmall.{small_seen}
use Rattle.tt_tables.specs.OnePart.{NamesAt}
use Rattle.tt_tables.specs.declared.token.InternedToken.TheVariants as interned
use Rattle.tt_tables.proofs.SmallClosing.{as_many_small, header_there}
use Rattle.tt_tables.proofs.SmallRead.{punct_named, ident_named, literal_named, header_named, odd_named, leaf_there}
use Rattle.tt_tables.proofs.small_tokens.SmallTokens.interned.Goals as goal

pub index-small-requires : goal.index-small-requires
index-small-requires c =
    let is = small_seen _ _ _ _ _ c.self.inside.held _ c.self.view_is in
    let counted : vec_len c.self.inside.tokens ≡ length c.self.inside.tokens.items = search rules in
    omega (arith, counted, as_many_small _ _ _ _ _ is.means, c.requires)

pub index-requires : goal.index-requires
index-requires c =
    let is = small_seen _ _ _ _ _ c.self.inside.held _ c.self.view_is in
    let counted : vec_len c.self.inside.headers ≡ length c.self.inside.headers.items = search rules in
    let at = slice_get_read c.self.inside.tokens.items _ c.args.place _ refl (omega (arith, as_many_small _ _ _ _ _ is.means, c.requires)) c.index-small.ensures in
    let (it, there, here) = header_there _ _ _ _ _ _ is c.args.place _ at c.in-Header.is in
    omega (arith, counted, slice_get_within c.self.inside.headers.items c.index-small.result.now.value it there)

pub index-leaf-requires : goal.index-leaf-requires
index-leaf-requires c =
    let is = small_seen _ _ _ _ _ c.self.inside.held _ c.self.view_is in
    let counted : vec_len c.self.inside.leaves ≡ length c.self.inside.leaves.items = search rules in
    let at = slice_get_read c.self.inside.tokens.items _ c.args.place _ refl (omega (arith, as_many_small _ _ _ _ _ is.means, c.requires)) c.index-small.ensures in
    let (it, there) = leaf_there _ _ _ _ _ _ is c.args.place _ at c.in-Odd.is in
    omega (arith, counted, slice_get_within c.self.inside.leaves.items c.index-small.result.now.value it there)

pub returns-in-Punct : goal.returns-in-Punct
returns-in-Punct c =
    let is = small_seen _ _ _ _ _ c.self.inside.held _ c.self.view_is in
    let at = slice_get_read c.self.inside.tokens.items _ c.args.place _ refl (omega (arith, as_many_small _ _ _ _ _ is.means, c.requires)) c.index-small.ensures in
    subst (λ n. NamesAt c.args.self.now c.args.place (interned.Leaf (punct (c.index-small.result.now.value % 256) c.in-Punct.spacing n))) (sym c.numbers.ensures)
    (punct_named _ _ _ _ _ _ is c.args.place _ at c.in-Punct.spacing c.in-Punct.is)

pub returns-in-Ident : goal.returns-in-Ident
returns-in-Ident c =
    let is = small_seen _ _ _ _ _ c.self.inside.held _ c.self.view_is in
    let at = slice_get_read c.self.inside.tokens.items _ c.args.place _ refl (omega (arith, as_many_small _ _ _ _ _ is.means, c.requires)) c.index-small.ensures in
    subst (λ n. NamesAt c.args.self.now c.args.place (interned.Leaf (ident c.index-small.result.now.value c.in-Ident.raw n))) (sym c.numbers-in-Ident.ensures)
    (ident_named _ _ _ _ _ _ is c.args.place _ at c.in-Ident.raw c.in-Ident.is)

pub returns-in-Literal : goal.returns-in-Literal
returns-in-Literal c =
    let is = small_seen _ _ _ _ _ c.self.inside.held _ c.self.view_is in
    let at = slice_get_read c.self.inside.tokens.items _ c.args.place _ refl (omega (arith, as_many_small _ _ _ _ _ is.means, c.requires)) c.index-small.ensures in
    subst (λ n. NamesAt c.args.self.now c.args.place (interned.Leaf (literal c.index-small.result.now.value c.in-Literal.kind 0 n))) (sym c.numbers-in-Literal.ensures)
    (literal_named _ _ _ _ _ _ is c.args.place _ at c.in-Literal.kind c.in-Literal.is)

pub returns-in-Header : goal.returns-in-Header
returns-in-Header c =
    let is = small_seen _ _ _ _ _ c.self.inside.held _ c.self.view_is in
    let at = slice_get_read c.self.inside.tokens.items _ c.args.place _ refl (omega (arith, as_many_small _ _ _ _ _ is.means, c.requires)) c.index-small.ensures in
    let (it, there, here) = header_there _ _ _ _ _ _ is c.args.place _ at c.in-Header.is in
    let one : c.index.result.now ≡ it = c.index.ensures ∙ get_or_from_slice_get c.self.inside.headers.items c.index-small.result.now.value it c.index.result.now there in
    subst (λ e. NamesAt c.args.self.now c.args.place (interned.Header e)) (sym c.header_numbers.ensures.value)
    (header_named _ _ _ _ _ _ is c.args.place _ at c.index.result.now c.in-Header.is (there ∙ ap Some (sym one)) c.header_numbers.ensures.range)

pub returns-in-Odd : goal.returns-in-Odd
returns-in-Odd c =
    let is = small_seen _ _ _ _ _ c.self.inside.held _ c.self.view_is in
    let at = slice_get_read c.self.inside.tokens.items _ c.args.place _ refl (omega (arith, as_many_small _ _ _ _ _ is.means, c.requires)) c.index-small.ensures in
    let (it, there) = leaf_there _ _ _ _ _ _ is c.args.place _ at c.in-Odd.is in
    let one : c.index-leaf.result.now ≡ it = c.index-leaf.ensures ∙ get_or_from_slice_get c.self.inside.leaves.items c.index-small.result.now.value it c.index-leaf.result.now there in
    subst (λ e. NamesAt c.args.self.now c.args.place (interned.Leaf e)) (sym c.leaf_numbers.ensures.value)
    (odd_named _ _ _ _ _ _ is c.args.place _ at c.index-leaf.result.now c.in-Odd.is (there ∙ ap Some (sym one)) c.leaf_numbers.ensures.range)
