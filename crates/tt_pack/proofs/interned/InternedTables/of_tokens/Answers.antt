use Rattle.std.proofs.Common.{◌≡◌, ◌≤◌, inr, inl, length, count_by, nat_lt, refl, ap, sym, ◌∙◌, arith}
use Rattle.tt_tables.specs.declared.counted.CountedTokens.{CountedTokens}
use Rattle.tt_tables.specs.ListOf.{list_of, part_uses_of, symbols_of, counted_are}
use Rattle.tt_tables.specs.Tables.{part_table, symbol_table}
use Rattle.tt_pack.specs.Packed.{HasFewParts}
use Rattle.tt_pack.proofs.InternedFacts.{used_parts, order_length, length-part_table, length-symbol_table, symbols_made, symbols_lead}
use Rattle.tt_pack.proofs.Storing.{tables_made}
use Rattle.tt_pack.proofs.interned.InternedTables.of_tokens.Goals as goal

-- the table has as many parts as there are used ones
many_parts : (below : CountedTokens) → length (part_table (list_of below)) ≡ count_by (nat_lt 0) (part_uses_of below)
many_parts below = length-part_table _ _ _ _ _ _ (counted_are below)

-- the table has all symbols
many_symbols : (below : CountedTokens) → length (symbol_table (list_of below)) ≡ length (symbols_of below)
many_symbols below = length-symbol_table _ _ _ _ _ _ (counted_are below)

pub returns-then-used-gt-MOST_PARTS_BELOW-clause-err : goal.returns-then-used-gt-MOST_PARTS_BELOW-clause-err
returns-then-used-gt-MOST_PARTS_BELOW-clause-err c =
    inr (inl (refl, c.requires, omega (arith, c.if-used-gt-MOST_PARTS_BELOW.true, c.count_used-used.ensures, ap (count_by (nat_lt 0)) c.part_uses.ensures, many_parts c.args.below)))

pub returns-then-symbols-gt-MOST_SYMBOLS-clause-err : goal.returns-then-symbols-gt-MOST_SYMBOLS-clause-err
returns-then-symbols-gt-MOST_SYMBOLS-clause-err c =
    let below = c.args.below in
    let few : HasFewParts (list_of below) = omega (arith, c.if-used-gt-MOST_PARTS_BELOW.false, c.count_used-used.ensures, ap (count_by (nat_lt 0)) c.part_uses.ensures, many_parts below) in
    inr (inr (refl, c.requires, few, omega (arith, c.if-symbols-gt-MOST_SYMBOLS.true, ap length c.symbols.ensures, many_symbols below)))

pub parts_by_place-requires-clause-used : goal.parts_by_place-requires-clause-used
parts_by_place-requires-clause-used c =
    let below = c.args.below in
    c.count_used-used.ensures ∙ ap (count_by (nat_lt 0)) c.part_uses.ensures ∙ used_parts _ _ _ _ _ _ (counted_are below) ∙ sym (order_length _ _ _ _ _ _ (counted_are below))

pub invariant_of-result : goal.invariant_of-result
invariant_of-result c =
    let below = c.args.below in
    let symbols = symbols_made _ _ _ _ _ _ (counted_are below) _ _ c.symbols-2.ensures c.symbol_uses.ensures c.in_ok-symbols.symbols c.in_ok-symbols.ensures.values in
    record {
      few_parts = omega (arith, ap length c.in_ok-parts.ensures.values, many_parts below, c.count_used-used.ensures, ap (count_by (nat_lt 0)) c.part_uses.ensures, c.if-used-gt-MOST_PARTS_BELOW.false);
      few_symbols = omega (arith, ap length symbols, many_symbols below, ap length c.symbols.ensures, c.if-symbols-gt-MOST_SYMBOLS.false);
    }

pub returns-clause-ok : goal.returns-clause-ok
returns-clause-ok c =
    let below = c.args.below in
    let symbols = symbols_made _ _ _ _ _ _ (counted_are below) _ _ c.symbols-2.ensures c.symbol_uses.ensures c.in_ok-symbols.symbols c.in_ok-symbols.ensures.values in
    let few_symbols : length c.symbols-2.result.now ≤ 536870912 = omega (arith, c.if-symbols-gt-MOST_SYMBOLS.false, ap length c.symbols.ensures, ap length c.symbols-2.ensures) in
    record {
      same = refl;
      are = record {
        whole = c.requires;
        are = tables_made _ _ (list_of below) c.in_ok-parts.ensures.values symbols;
        few_parts = omega (arith, many_parts below, c.count_used-used.ensures, ap (count_by (nat_lt 0)) c.part_uses.ensures, c.if-used-gt-MOST_PARTS_BELOW.false);
        few_symbols = omega (arith, many_symbols below, ap length c.symbols.ensures, c.if-symbols-gt-MOST_SYMBOLS.false);
      };
      led = record {
        parts = c.in_ok-parts.ensures.new_indices;
        symbols = symbols_lead _ _ _ _ _ _ (counted_are below) _ _ c.symbols-2.ensures c.symbol_uses.ensures c.in_ok-symbols.symbols c.in_ok-symbols.ensures.values few_symbols c.in_ok-symbols.ensures.new_indices;
      };
    }
