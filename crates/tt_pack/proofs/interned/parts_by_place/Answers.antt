use Rattle.std.proofs.Common.{◌≡◌, ◌≤◌, length, map, nat_eq, ap, sym, ◌∙◌, arith, rules}
use Rattle.std.specs.List.{range_with_len}
use Rattle.tt_tables.specs.ListOf.{list_of, tokens_of, parts_of, symbols_of, counted_are}
use Rattle.tt_tables.specs.Stored.{most_parts}
use Rattle.tt_tables.specs.TableOrder.{different}
use Rattle.tt_tables.specs.Tables.{tables_from}
use Rattle.tt_pack.specs.Counted.{new_index}
use Rattle.tt_pack.specs.Places.{part_places}
use Rattle.tt_pack.proofs.InternedFacts.{parts_made, parts_lead_on, parts_lead}
use Rattle.tt_pack.proofs.Joined.{if_ok, if_ok_both}
use Rattle.tt_pack.proofs.PlacesNamed.{all_within}
use Rattle.tt_pack.proofs.interned.parts_by_place.Goals as goal

pub returns-then-stand_by_first_use-clause-values : goal.returns-then-stand_by_first_use-clause-values
returns-then-stand_by_first_use-clause-values c =
    let below = c.args.below in
    let in_order : different nat_eq (part_places (tokens_of below)) ≡ range_with_len 0 (length (parts_of below)) =
    sym (ap (λ l. different nat_eq (part_places l)) c.tokens.ensures) ∙ c.if-stand_by_first_use.ensures.yes ∙ ap (range_with_len 0) (c.if-used-parts.true ∙ ap length c.parts.ensures) in
    if_ok c.of_counts.result (λ table is. parts_made _ _ _ _ _ _ (counted_are below) in_order _ _ c.parts-then-stand_by_first_use.ensures c.part_uses.ensures table is) c.of_counts.ensures.values

pub returns-then-stand_by_first_use-clause-new_indices : goal.returns-then-stand_by_first_use-clause-new_indices
returns-then-stand_by_first_use-clause-new_indices c =
    let below = c.args.below in
    let in_order : different nat_eq (part_places (tokens_of below)) ≡ range_with_len 0 (length (parts_of below)) =
    sym (ap (λ l. different nat_eq (part_places l)) c.tokens.ensures) ∙ c.if-stand_by_first_use.ensures.yes ∙ ap (range_with_len 0) (c.if-used-parts.true ∙ ap length c.parts.ensures) in
    let few : length c.parts-then-stand_by_first_use.result.now ≤ most_parts =
    omega (arith, c.requires.few, c.if-used-parts.true, ap length c.parts.ensures, ap length c.parts-then-stand_by_first_use.ensures) in
    if_ok_both c.of_counts.result (λ table is leads. parts_lead_on _ _ _ _ _ _ (counted_are below) in_order _ _ c.parts-then-stand_by_first_use.ensures c.part_uses.ensures table is few leads) c.of_counts.ensures.values c.of_counts.ensures.new_indices

pub of_tokens-requires-clause-within : goal.of_tokens-requires-clause-within
of_tokens-requires-clause-within c =
    let below = c.args.below in
    rw c.tokens-2.ensures rw c.parts-2.ensures (all_within (tables_from (parts_of below) (symbols_of below)) (tokens_of below) (list_of below) (counted_are below).named)

pub returns-clause-values : goal.returns-clause-values
returns-clause-values c = c.in_ok-table.ensures.values

pub returns-clause-new_indices : goal.returns-clause-new_indices
returns-clause-new_indices c =
    let below = c.args.below in
    let order : c.in_ok-uses.uses.order.items ≡ different nat_eq (part_places (tokens_of below)) = c.in_ok-uses.ensures.order ∙ ap (λ l. different nat_eq (part_places l)) c.tokens-2.ensures in
    let indices : c.renumbered.result.items ≡ map (new_index c.in_ok-table.table.new_indices.items) c.in_ok-uses.uses.ranks.items = search rules in
    parts_lead _ _ _ _ _ _ (counted_are below) c.in_ok-uses.uses.order.items order c.in_ok-uses.uses.ranks.items c.in_ok-table.table.new_indices.items _ _
    (omega (arith, ap length order, c.requires.used, c.requires.few)) c.in_ok-uses.ensures.ranked indices c.in_ok-table.ensures.values (search rules)
