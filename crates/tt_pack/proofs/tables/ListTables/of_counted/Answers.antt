use Rattle.std.proofs.Common.{refl, rules}
use Rattle.tt_tables.specs.Uses.{part_uses, symbol_uses}
use Rattle.tt_pack.specs.CountedValues.{HasCounted}
use Rattle.tt_pack.specs.Meeting.{AreListUses}
use Rattle.tt_pack.specs.TablesOf.{AreTables}
use Rattle.tt_pack.proofs.ListTables.{few_in_tables, list_tables}
use Rattle.tt_pack.proofs.tables.ListTables.of_counted.Goals as goal

pub returns-in_err-parts-clause-err : goal.returns-in_err-parts-clause-err
returns-in_err-parts-clause-err c =
    let below = c.args.below.now in
    let met : HasCounted c.of_tokens.new.values (part_uses below) (symbol_uses below) = rw c.in-Some.is at c.in_ok-uses.ensures.met in
    let uses : AreListUses below c.in-Some.uses = rw c.in-Some.is at c.in_ok-uses.ensures.uses in
    search (rules, c.in_err-parts.ensures.err below uses.whole met)

pub invariant_of-result : goal.invariant_of-result
invariant_of-result c =
    let below = c.args.below.now in
    let met : HasCounted c.of_tokens.new.values (part_uses below) (symbol_uses below) = rw c.in-Some.is at c.in_ok-uses.ensures.met in
    let few = few_in_tables below _ _ (c.in_ok-parts.ensures.tables below met) in
    record { few_parts = few.0; few_symbols = few.1 }

pub returns-clause-ok : goal.returns-clause-ok
returns-clause-ok c =
    let below = c.args.below.now in
    let met : HasCounted c.of_tokens.new.values (part_uses below) (symbol_uses below) = rw c.in-Some.is at c.in_ok-uses.ensures.met in
    let uses : AreListUses below c.in-Some.uses = rw c.in-Some.is at c.in_ok-uses.ensures.uses in
    let are : AreTables below c.in_ok-parts.parts c.in_ok-parts.symbols = c.in_ok-parts.ensures.tables below met in
    list_tables below _ _ refl are uses refl refl
