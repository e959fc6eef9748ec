use Rattle.std.proofs.Common.{inl, inr, refl, arith}
use Rattle.tt_tables.specs.Uses.{part_uses, symbol_uses}
use Rattle.tt_pack.specs.Packed.{HasFewParts}
use Rattle.tt_pack.proofs.ListTables.{many_parts_met, many_symbols_met}
use Rattle.tt_pack.proofs.counted.CountedValues.tables.Goals as goal

pub returns-then-len-gt-MOST_PARTS_BELOW-clause-err : goal.returns-then-len-gt-MOST_PARTS_BELOW-clause-err
returns-then-len-gt-MOST_PARTS_BELOW-clause-err c = λ tokens whole has.
    inr (inl (refl, whole, omega (arith, c.if-len-gt-MOST_PARTS_BELOW.true, c.len.ensures.len, many_parts_met tokens c.args.self.now has)))

pub returns-then-len-gt-MOST_SYMBOLS-clause-err : goal.returns-then-len-gt-MOST_SYMBOLS-clause-err
returns-then-len-gt-MOST_SYMBOLS-clause-err c = λ tokens whole has.
    let few : HasFewParts tokens = omega (arith, c.if-len-gt-MOST_PARTS_BELOW.false, c.len.ensures.len, many_parts_met tokens c.args.self.now has) in
    inr (inr (refl, whole, few, omega (arith, c.if-len-gt-MOST_SYMBOLS.true, c.len-2.ensures.len, many_symbols_met tokens c.args.self.now has)))

pub returns-clause-tables : goal.returns-clause-tables
returns-clause-tables c = λ tokens has.
    record {
      all_parts = c.in_ok-parts.ensures (part_uses tokens) has.all_parts;
      few_parts = omega (arith, c.if-len-gt-MOST_PARTS_BELOW.false, c.len.ensures.len, many_parts_met tokens c.args.self.now has);
      all_symbols = c.in_ok-symbols.ensures (symbol_uses tokens) has.all_symbols;
      few_symbols = omega (arith, c.if-len-gt-MOST_SYMBOLS.false, c.len-2.ensures.len, many_symbols_met tokens c.args.self.now has);
    }
