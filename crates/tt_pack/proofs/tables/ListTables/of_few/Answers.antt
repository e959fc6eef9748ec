use Rattle.std.proofs.Common.{refl}
use Rattle.tt_tables.specs.Uses.{part_uses, symbol_uses}
use Rattle.tt_pack.specs.Few.{HasNoted}
use Rattle.tt_pack.specs.Meeting.{AreListUses}
use Rattle.tt_pack.specs.TablesOf.{AreTables}
use Rattle.tt_pack.proofs.ListTables.{few_tables, few_in_tables, list_tables}
use Rattle.tt_pack.proofs.tables.ListTables.of_few.Goals as goal

pub invariant_of-result : goal.invariant_of-result
invariant_of-result c =
    let below = c.args.below.now in
    let met : HasNoted c.of_tokens.new.values (part_uses below) (symbol_uses below) = rw c.in-Some.is at c.in_ok-uses.ensures.met in
    let few =
    few_in_tables below c.by_first_use.result c.by_first_use-2.result
    (few_tables below _ _ _ met c.by_first_use.ensures.values c.by_first_use.ensures.new_indices c.by_first_use-2.ensures.values c.by_first_use-2.ensures.new_indices) in
    record { few_parts = few.0; few_symbols = few.1 }

pub returns-clause-ok : goal.returns-clause-ok
returns-clause-ok c =
    let below = c.args.below.now in
    let met : HasNoted c.of_tokens.new.values (part_uses below) (symbol_uses below) = rw c.in-Some.is at c.in_ok-uses.ensures.met in
    let uses : AreListUses below c.in-Some.uses = rw c.in-Some.is at c.in_ok-uses.ensures.uses in
    let are : AreTables below c.by_first_use.result c.by_first_use-2.result =
    few_tables below _ _ _ met c.by_first_use.ensures.values c.by_first_use.ensures.new_indices c.by_first_use-2.ensures.values c.by_first_use-2.ensures.new_indices in
    list_tables below _ _ refl are uses refl refl
