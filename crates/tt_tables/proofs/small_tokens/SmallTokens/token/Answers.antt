use Rattle.std.proofs.Common.{◌≡◌, ◌%◌, ◌∷◌, [], Some, length, vec_len, sym, subst, refl, rules, arith, ap, ◌∙◌}
use Rattle.std.proofs.lemmas.Option.{slice_get_within, slice_get_read, get_or_from_slice_get}
use Rattle.tt_base.specs.declared.token_tree.TokenTree.TheVariants as token
use Rattle.tt_codec.specs.declared.entry.LeafEntry.TheVariants.{Punct as punct, Ident as ident, Literal as literal}
use Rattle.tt_tables.specs.Interner.{entries_of}
use Rattle.tt_tables.specs.Searches.{FindsLeaf}
use Rattle.tt_tables.specs.SmallHeld.{small_tables}
use Rattle.tt_tables.specs.Tables.{tables_from}
use Rattle.tt_tables.specs.OneSmall.{small_seen}
use Rattle.tt_tables.proofs.SmallClosing.{as_many_small, header_there}
use Rattle.tt_tables.proofs.SmallRead.{if_ok, punct_found, ident_found, literal_found, odd_found, leaf_there}
use Rattle.tt_tables.proofs.small_tokens.SmallTokens.token.Goals as goal

pub index-small-requires : goal.index-small-requires
index-small-requires c =
    let is = small_seen _ _ _ _ _ c.self.inside.held _ c.self.view_is in
    let counted : vec_len c.self.inside.tokens ≡ length c.self.inside.tokens.items = search rules in
    omega (arith, counted, as_many_small _ _ _ _ _ is.means, c.requires)

pub index-requires : goal.index-requires
index-requires c =
    let is = small_seen _ _ _ _ _ c.self.inside.held _ c.self.view_is in
    let counted : vec_len c.self.inside.headers ≡ length c.self.inside.headers.items = search rules in
    let at = slice_get_read c.self.inside.tokens.items _ c.args.place _ refl (omega (arith, as_many_small _ _ _ _ _ is.means, c.requires)) c.index-small.ensures in
    let (it, there, here) = header_there _ _ _ _ _ _ is c.args.place _ at c.in-Header.is in
    omega (arith, counted, slice_get_within c.self.inside.headers.items c.index-small.result.now.value it there)

pub index-leaf-requires : goal.index-leaf-requires
index-leaf-requires c =
    let is = small_seen _ _ _ _ _ c.self.inside.held _ c.self.view_is in
    let counted : vec_len c.self.inside.leaves ≡ length c.self.inside.leaves.items = search rules in
    let at = slice_get_read c.self.inside.tokens.items _ c.args.place _ refl (omega (arith, as_many_small _ _ _ _ _ is.means, c.requires)) c.index-small.ensures in
    let (it, there) = leaf_there _ _ _ _ _ _ is c.args.place _ at c.in-Odd.is in
    omega (arith, counted, slice_get_within c.self.inside.leaves.items c.index-small.result.now.value it there)

pub returns-in-Punct : goal.returns-in-Punct
returns-in-Punct c =
    let is = small_seen _ _ _ _ _ c.self.inside.held _ c.self.view_is in
    let at = slice_get_read c.self.inside.tokens.items _ c.args.place _ refl (omega (arith, as_many_small _ _ _ _ _ is.means, c.requires)) c.index-small.ensures in
    if_ok c.named_leaf.result
    (λ found one. punct_found _ _ _ _ _ _ is c.args.place _ at c.in-Punct.spacing c.in-Punct.is found
    (λ it finds. one it
    (subst (λ keys. FindsLeaf (tables_from (c.self.inside.part ∷ []) keys) (punct (c.index-small.result.now.value % 256) c.in-Punct.spacing c.numbers.result) it) (sym c.values-symbols.ensures)
    (subst (λ n. FindsLeaf (small_tables c.self.inside.part (entries_of c.self.inside.symbols)) (punct (c.index-small.result.now.value % 256) c.in-Punct.spacing n) it) (sym c.numbers.ensures) finds))))
    c.named_leaf.ensures

pub returns-in-Ident : goal.returns-in-Ident
returns-in-Ident c =
    let is = small_seen _ _ _ _ _ c.self.inside.held _ c.self.view_is in
    let at = slice_get_read c.self.inside.tokens.items _ c.args.place _ refl (omega (arith, as_many_small _ _ _ _ _ is.means, c.requires)) c.index-small.ensures in
    if_ok c.named_leaf-in-Ident.result
    (λ found one. ident_found _ _ _ _ _ _ is c.args.place _ at c.in-Ident.raw c.in-Ident.is found
    (λ it finds. one it
    (subst (λ keys. FindsLeaf (tables_from (c.self.inside.part ∷ []) keys) (ident c.index-small.result.now.value c.in-Ident.raw c.numbers-in-Ident.result) it) (sym c.values-symbols.ensures)
    (subst (λ n. FindsLeaf (small_tables c.self.inside.part (entries_of c.self.inside.symbols)) (ident c.index-small.result.now.value c.in-Ident.raw n) it) (sym c.numbers-in-Ident.ensures) finds))))
    c.named_leaf-in-Ident.ensures

pub returns-in-Literal : goal.returns-in-Literal
returns-in-Literal c =
    let is = small_seen _ _ _ _ _ c.self.inside.held _ c.self.view_is in
    let at = slice_get_read c.self.inside.tokens.items _ c.args.place _ refl (omega (arith, as_many_small _ _ _ _ _ is.means, c.requires)) c.index-small.ensures in
    if_ok c.named_leaf-in-Literal.result
    (λ found one. literal_found _ _ _ _ _ _ is c.args.place _ at c.in-Literal.kind c.in-Literal.is found
    (λ it finds. one it
    (subst (λ keys. FindsLeaf (tables_from (c.self.inside.part ∷ []) keys) (literal c.index-small.result.now.value c.in-Literal.kind 0 c.numbers-in-Literal.result) it) (sym c.values-symbols.ensures)
    (subst (λ n. FindsLeaf (small_tables c.self.inside.part (entries_of c.self.inside.symbols)) (literal c.index-small.result.now.value c.in-Literal.kind 0 n) it) (sym c.numbers-in-Literal.ensures) finds))))
    c.named_leaf-in-Literal.ensures

pub returns-in-Header : goal.returns-in-Header
returns-in-Header c =
    let is = small_seen _ _ _ _ _ c.self.inside.held _ c.self.view_is in
    let at = slice_get_read c.self.inside.tokens.items _ c.args.place _ refl (omega (arith, as_many_small _ _ _ _ _ is.means, c.requires)) c.index-small.ensures in
    let (it, there, here) = header_there _ _ _ _ _ _ is c.args.place _ at c.in-Header.is in
    let one : c.index.result.now ≡ it = c.index.ensures ∙ get_or_from_slice_get c.self.inside.headers.items c.index-small.result.now.value it c.index.result.now there in
    here ∙ ap (λ h. Some (token.Subtree h)) (sym one)

pub returns-in_ok-clone-in-Odd : goal.returns-in_ok-clone-in-Odd
returns-in_ok-clone-in-Odd c =
    let is = small_seen _ _ _ _ _ c.self.inside.held _ c.self.view_is in
    let at = slice_get_read c.self.inside.tokens.items _ c.args.place _ refl (omega (arith, as_many_small _ _ _ _ _ is.means, c.requires)) c.index-small.ensures in
    let (it, there) = leaf_there _ _ _ _ _ _ is c.args.place _ at c.in-Odd.is in
    let one : c.index-leaf.result.now ≡ it = c.index-leaf.ensures ∙ get_or_from_slice_get c.self.inside.leaves.items c.index-small.result.now.value it c.index-leaf.result.now there in
    let same : c.in_ok-clone-in-Odd.field-0 ≡ c.index-leaf.result.now = search rules in
    odd_found _ _ _ _ _ _ is c.args.place _ at c.in-Odd.is c.in_ok-clone-in-Odd.field-0 (there ∙ ap Some (sym (same ∙ one)))

pub overflow_cast-small : goal.overflow_cast-small
overflow_cast-small c =
    let is = small_seen _ _ _ _ _ c.self.inside.held _ c.self.view_is in
    let at = slice_get_read c.self.inside.tokens.items _ c.args.place _ refl (omega (arith, as_many_small _ _ _ _ _ is.means, c.requires)) c.index-small.ensures in
    let (it, there, here) = header_there _ _ _ _ _ _ is c.args.place _ at c.in-Header.is in
    omega (arith, slice_get_within c.self.inside.headers.items c.index-small.result.now.value it there, is.few, is.few_headers)

pub overflow_cast-small-in-Odd : goal.overflow_cast-small-in-Odd
overflow_cast-small-in-Odd c =
    let is = small_seen _ _ _ _ _ c.self.inside.held _ c.self.view_is in
    let at = slice_get_read c.self.inside.tokens.items _ c.args.place _ refl (omega (arith, as_many_small _ _ _ _ _ is.means, c.requires)) c.index-small.ensures in
    let (it, there) = leaf_there _ _ _ _ _ _ is c.args.place _ at c.in-Odd.is in
    omega (arith, slice_get_within c.self.inside.leaves.items c.index-small.result.now.value it there, is.few, is.few_leaves)
