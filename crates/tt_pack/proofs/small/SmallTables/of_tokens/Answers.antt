use Rattle.std.proofs.Common.{◌≡◌, ◌≤◌, ◌∷◌, [], inr, length, bytes_eq, refl, ap, ◌∙◌, arith, rules}
use Rattle.tt_tables.specs.TableOrder.{IsTable}
use Rattle.tt_tables.specs.Tables.{symbol_table, short_symbols}
use Rattle.tt_tables.specs.Uses.{symbol_uses}
use Rattle.tt_tables.proofs.TokenTables.{symbol_table_only}
use Rattle.tt_pack.specs.Packed.{HasFewParts}
use Rattle.tt_pack.proofs.SmallFacts.{one_part_table, small_symbols, small_symbols_lead, length-small_symbols}
use Rattle.tt_pack.proofs.Storing.{tables_made}
use Rattle.tt_pack.proofs.small.SmallTables.of_tokens.Goals as goal

pub returns-then-symbols-gt-MOST_SYMBOLS-clause-err : goal.returns-then-symbols-gt-MOST_SYMBOLS-clause-err
returns-then-symbols-gt-MOST_SYMBOLS-clause-err c =
    let below = c.args.below in
    let few : HasFewParts below = omega (arith, ap length (one_part_table c.args.part below c.requires.part c.requires.some)) in
    inr (inr (refl, c.requires.whole, few, omega (arith, c.if-symbols-gt-MOST_SYMBOLS.true, ap length c.symbols.ensures, length-small_symbols below)))

pub invariant_of-result : goal.invariant_of-result
invariant_of-result c =
    let below = c.args.below in
    let table : IsTable bytes_eq short_symbols (symbol_uses below) c.in_ok-symbols.symbols.values.items = small_symbols below _ _ _ c.symbols-2.ensures c.symbol_uses.ensures c.in_ok-symbols.ensures.values in
    let symbols : c.in_ok-symbols.symbols.values.items ≡ symbol_table below = symbol_table_only below _ table in
    let parts : c.push.new.self.items ≡ c.args.part ∷ [] = search rules in
    record {
      few_parts = omega (arith, ap length parts);
      few_symbols = omega (arith, ap length symbols, length-small_symbols below, ap length c.symbols.ensures, c.if-symbols-gt-MOST_SYMBOLS.false);
    }

pub returns-clause-ok : goal.returns-clause-ok
returns-clause-ok c =
    let below = c.args.below in
    let table : IsTable bytes_eq short_symbols (symbol_uses below) c.in_ok-symbols.symbols.values.items = small_symbols below _ _ _ c.symbols-2.ensures c.symbol_uses.ensures c.in_ok-symbols.ensures.values in
    let symbols : c.in_ok-symbols.symbols.values.items ≡ symbol_table below = symbol_table_only below _ table in
    let parts : c.push.new.self.items ≡ c.args.part ∷ [] = search rules in
    let few_symbols : length c.symbols-2.result.now ≤ 536870912 = omega (arith, c.if-symbols-gt-MOST_SYMBOLS.false, ap length c.symbols.ensures, ap length c.symbols-2.ensures) in
    record {
      same = refl;
      are = record {
        whole = c.requires.whole;
        are = tables_made _ _ below (parts ∙ one_part_table c.args.part below c.requires.part c.requires.some) symbols;
        few_parts = omega (arith, ap length (one_part_table c.args.part below c.requires.part c.requires.some));
        few_symbols = omega (arith, length-small_symbols below, ap length c.symbols.ensures, c.if-symbols-gt-MOST_SYMBOLS.false);
      };
      led = record {
        part = c.args.part;
        one = c.requires.part;
        parts = parts;
        symbols = small_symbols_lead below _ _ _ c.symbols-2.ensures table few_symbols c.in_ok-symbols.ensures.new_indices;
      };
    }
