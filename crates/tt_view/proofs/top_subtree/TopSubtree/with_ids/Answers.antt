use Rattle.std.proofs.Common.{◌≡◌, ◌+◌, ◌-◌, ◌≤◌, ◌∷◌, length, take, map, ap, sym, ◌∙◌, arith, rules}
use Rattle.std.proofs.lemmas.List.{length-take}
use Rattle.indexmap.specs.IndexMap.{get}
use Rattle.tt_base.specs.declared.delimiter.DelimiterKind.{DelimiterKind}
use Rattle.tt_base.specs.declared.span.SpanPart.{SpanPart}
use Rattle.tt_base.specs.Forest.{size, header, flat, flat_root}
use Rattle.tt_base.specs.Token.{delimiter}
use Rattle.tt_base.specs.Unflat.{flat_root-injective}
use Rattle.tt_tables.specs.AstIds.{with_id_at, ids_changed, respanned_token}
use Rattle.tt_tables.specs.PackFault.{IsPackFault}
use Rattle.tt_tables.specs.Stored.{root_parts, packed}
use Rattle.tt_tables.specs.Uses.{same_part}
use Rattle.tt_tables.proofs.StoredAlike.{length-root_parts}
use Rattle.tt_view.specs.NewIds.{id_for, span_with}
use Rattle.tt_view.specs.TreeFault.{IsTreeFault}
use Rattle.tt_view.specs.Views.{trees_of}
use Rattle.tt_view.proofs.NewIds.{ids_list, size-ids_changed}
use Rattle.tt_view.proofs.TreeFaults.{tree_fault}
use Rattle.tt_view.proofs.top_subtree.TopSubtree.with_ids.Goals as goal

pub overflow_sub-below : goal.overflow_sub-below
unfolding packed
overflow_sub-below c = omega (arith, ap length c.parts-parts.ensures.value, ap length c.parts-parts.ensures.value, length-root_parts c.self.inside.packed)

pub by_part-requires : goal.by_part-requires
unfolding packed
by_part-requires c =
    let short : length (take (length c.parts-parts.result.now - 2) c.parts-parts.result.now) ≤ length c.parts-parts.result.now = omega (arith, length-take (length c.parts-parts.result.now - 2) c.parts-parts.result.now) in
    omega (arith, short, ap length c.parts-parts.ensures.value, ap (λ r. length (root_parts r)) c.self.view_is, c.requires)

pub with_id_at-requires : goal.with_id_at-requires
unfolding packed
with_id_at-requires c = omega (arith, ap length c.parts-parts.ensures.value, ap (λ r. length (root_parts r)) c.self.view_is, length-root_parts c.self.inside.packed, c.requires)

pub with_id_at-requires-2 : goal.with_id_at-requires-2
unfolding packed
with_id_at-requires-2 c = omega (arith, ap length c.parts-parts.ensures.value, ap (λ r. length (root_parts r)) c.self.view_is, length-root_parts c.self.inside.packed, c.requires)

pub returns-in_err-pack-clause-err : goal.returns-in_err-pack-clause-err
unfolding packed
returns-in_err-pack-clause-err c =
    let root = c.args.self.now in
    let ids = c.args.ids.now in
    let top = c.top_subtree-top in
    let n = length c.parts-parts.result.now - 2 in
    let parts : c.parts-parts.result.now ≡ root_parts root = c.parts-parts.ensures.value ∙ ap root_parts c.self.view_is in
    let trees : trees_of c.token_trees.result ≡ root.children = c.token_trees.ensures in
    let opens : c.with_id_at.result ≡ with_id_at ids n root.delimiter.open_span = c.with_id_at.ensures ∙ ap (λ d. with_id_at ids n d.open_span) top.ensures.delimiter in
    let closes : c.with_id_at-2.result ≡ with_id_at ids (n + 1) root.delimiter.close = c.with_id_at-2.ensures ∙ ap (λ d. with_id_at ids (n + 1) d.close) top.ensures.delimiter in
    let found : (part : SpanPart) → get same_part c.in_ok-found.found part ≡ id_for (take n c.parts-parts.result.now) ids part = c.in_ok-found.ensures in
    let kind = λ (k : DelimiterKind). header (delimiter k c.with_id_at.result c.with_id_at-2.result) top.result.len ∷ map (respanned_token (span_with (get same_part c.in_ok-found.found))) (flat (trees_of c.token_trees.result)) in
    let made : c.in_ok-list.list.items ≡ kind top.result.delimiter.kind = c.in_ok-list.ensures in
    let list : c.in_ok-list.list.items ≡ flat_root (ids_changed ids root) =
    made ∙ ap (λ d. kind d.kind) top.ensures.delimiter
    ∙ ids_list root ids (get same_part c.in_ok-found.found) _ _ c.with_id_at.result c.with_id_at-2.result top.result.len n c.requires (ap (λ p. length p - 2) parts) (ap (take n) parts)
    found opens closes trees top.ensures.len in
    let few : size (ids_changed ids root).children ≤ 4294967295 = omega (arith, size-ids_changed ids root, top.ensures.len, top.type_inv) in
    let cause : IsPackFault c.in_ok-list.list.items c.in_err-pack.field-0.0.fault = search rules in
    let why : IsTreeFault (ids_changed ids root) c.in_err-pack.field-0.0.fault = tree_fault _ _ list few _ cause in
    search rules

pub returns-clause-ok : goal.returns-clause-ok
unfolding packed
returns-clause-ok c =
    let root = c.args.self.now in
    let ids = c.args.ids.now in
    let top = c.top_subtree-top in
    let n = length c.parts-parts.result.now - 2 in
    let parts : c.parts-parts.result.now ≡ root_parts root = c.parts-parts.ensures.value ∙ ap root_parts c.self.view_is in
    let trees : trees_of c.token_trees.result ≡ root.children = c.token_trees.ensures in
    let opens : c.with_id_at.result ≡ with_id_at ids n root.delimiter.open_span = c.with_id_at.ensures ∙ ap (λ d. with_id_at ids n d.open_span) top.ensures.delimiter in
    let closes : c.with_id_at-2.result ≡ with_id_at ids (n + 1) root.delimiter.close = c.with_id_at-2.ensures ∙ ap (λ d. with_id_at ids (n + 1) d.close) top.ensures.delimiter in
    let found : (part : SpanPart) → get same_part c.in_ok-found.found part ≡ id_for (take n c.parts-parts.result.now) ids part = c.in_ok-found.ensures in
    let kind = λ (k : DelimiterKind). header (delimiter k c.with_id_at.result c.with_id_at-2.result) top.result.len ∷ map (respanned_token (span_with (get same_part c.in_ok-found.found))) (flat (trees_of c.token_trees.result)) in
    let made : c.in_ok-list.list.items ≡ kind top.result.delimiter.kind = c.in_ok-list.ensures in
    let list : c.in_ok-list.list.items ≡ flat_root (ids_changed ids root) =
    made ∙ ap (λ d. kind d.kind) top.ensures.delimiter
    ∙ ids_list root ids (get same_part c.in_ok-found.found) _ _ c.with_id_at.result c.with_id_at-2.result top.result.len n c.requires (ap (λ p. length p - 2) parts) (ap (take n) parts)
    found opens closes trees top.ensures.len in
    let read : c.in_ok-list.list.items ≡ flat_root c.in_ok-pack.field-0 = search rules in
    flat_root-injective _ _ (sym read ∙ list)
