use Rattle.std.proofs.Common.{◌≡◌, length, ap, subst, ◌∙◌, arith, rules}
use Rattle.std.specs.List.{AllZip}
use Rattle.tt_base.specs.contracts.span.SpanPartEq.TheImpl.Laws as part_eq
use Rattle.tt_tables.specs.ListOf.{list_of, parts_of, part_uses_of, counted_are}
use Rattle.tt_tables.specs.TableOrder.{different}
use Rattle.tt_tables.specs.Tables.{short_parts}
use Rattle.tt_tables.specs.Uses.{same_part, part_uses}
use Rattle.tt_tables.proofs.TokenTables.{part_sound, part_table_only}
use Rattle.tt_pack.specs.Counted.{LeadsTo}
use Rattle.tt_pack.specs.Places.{IsAt}
use Rattle.tt_pack.proofs.InternedFacts.{within_parts, within_numbers, parts_found, numbers_found}
use Rattle.tt_pack.proofs.Joined.{if_ok}
use Rattle.tt_pack.proofs.Paired.{length-paired}
use Rattle.tt_pack.proofs.Sorted.{few_are_table}
use Rattle.tt_pack.proofs.TableFacts.{stays_there}
use Rattle.tt_pack.proofs.interned.part_table.Goals as goal

pub values_at-requires : goal.values_at-requires
values_at-requires c = rw c.parts.ensures (within_parts _ _ _ _ _ _ (counted_are c.args.below) _ c.requires.order)

pub returns-then-order-le-SHORT_PARTS-clause-values : goal.returns-then-order-le-SHORT_PARTS-clause-values
returns-then-order-le-SHORT_PARTS-clause-values c =
    let list = list_of c.args.below in
    let at : AllZip (IsAt (parts_of c.args.below)) c.args.order.now c.in_ok-parts.parts.items = rw c.parts.ensures at c.in_ok-parts.ensures in
    let found : c.in_ok-parts.parts.items ≡ different same_part (part_uses list) = parts_found _ _ _ _ _ _ (counted_are c.args.below) _ c.requires.order _ at in
    let few = length-paired (IsAt (parts_of c.args.below)) _ _ at in
    ap (λ v. v.items) c.by_first_use.ensures.values
    ∙ part_table_only list _ (few_are_table same_part part_sound part_eq.lawful.laws.refl short_parts (part_uses list) _ found (omega (arith, few, c.if-order-le-SHORT_PARTS.true)))

pub returns-then-order-le-SHORT_PARTS-clause-new_indices : goal.returns-then-order-le-SHORT_PARTS-clause-new_indices
returns-then-order-le-SHORT_PARTS-clause-new_indices c = λ index within.
    let list = list_of c.args.below in
    let at : AllZip (IsAt (parts_of c.args.below)) c.args.order.now c.in_ok-parts.parts.items = rw c.parts.ensures at c.in_ok-parts.ensures in
    let found : c.in_ok-parts.parts.items ≡ different same_part (part_uses list) = parts_found _ _ _ _ _ _ (counted_are c.args.below) _ c.requires.order _ at in
    stays_there (different same_part (part_uses list)) _ _ index (ap (λ v. v.items) c.by_first_use.ensures.values ∙ found) c.by_first_use.ensures.new_indices

pub values_at-requires-2 : goal.values_at-requires-2
values_at-requires-2 c = rw c.parts-2.ensures (within_parts _ _ _ _ _ _ (counted_are c.args.below) _ c.requires.order)

pub values_at-requires-3 : goal.values_at-requires-3
values_at-requires-3 c = rw c.part_uses.ensures (within_numbers _ _ _ _ _ _ (counted_are c.args.below) _ c.requires.order)

pub of_counts-requires-clause-few : goal.of_counts-requires-clause-few
of_counts-requires-clause-few c =
    let found = length-paired (IsAt c.parts-2.result.now) _ _ c.in_ok-parts-2.ensures in
    omega (arith, found, c.requires.few, ap length c.deref.ensures.value)

pub of_counts-requires-clause-lens : goal.of_counts-requires-clause-lens
of_counts-requires-clause-lens c =
    let found = length-paired (IsAt c.parts-2.result.now) _ _ c.in_ok-parts-2.ensures in
    let numbers = length-paired (IsAt c.part_uses.result.now) _ _ c.in_ok-uses.ensures in
    omega (arith, found, numbers, ap length c.deref.ensures.value, ap length c.deref-2.ensures.value)

pub returns-clause-values : goal.returns-clause-values
returns-clause-values c =
    let list = list_of c.args.below in
    let at : AllZip (IsAt (parts_of c.args.below)) c.args.order.now c.deref.result.now = search rules in
    let beside : AllZip (IsAt (part_uses_of c.args.below)) c.args.order.now c.deref-2.result.now = search rules in
    if_ok c.of_counts.result
    (λ table is. part_table_only list table.values.items
    (is (part_uses list) (parts_found _ _ _ _ _ _ (counted_are c.args.below) _ c.requires.order _ at) (numbers_found _ _ _ _ _ _ (counted_are c.args.below) _ c.requires.order _ _ at beside)))
    c.of_counts.ensures.values

pub returns-clause-new_indices : goal.returns-clause-new_indices
returns-clause-new_indices c =
    let list = list_of c.args.below in
    let at : AllZip (IsAt (parts_of c.args.below)) c.args.order.now c.deref.result.now = search rules in
    let found : c.deref.result.now ≡ different same_part (part_uses list) = parts_found _ _ _ _ _ _ (counted_are c.args.below) _ c.requires.order _ at in
    let long = length-paired (IsAt (parts_of c.args.below)) _ _ at in
    if_ok c.of_counts.result
    (λ table leads index within.
    subst (λ values. LeadsTo values table.values.items table.new_indices.items index) found (leads index (omega (arith, long, within))))
    c.of_counts.ensures.new_indices
