use Rattle.std.proofs.Common.{ap, arith, length}
use Rattle.std.proofs.lemmas.List.{length-take}
use Rattle.tt_tables.proofs.tables.Tables.new.Goals as goal

pub invariant_of-result : goal.invariant_of-result
invariant_of-result c =
    record {
      few_parts = omega (arith, ap length c.first_of.ensures, length-take 268435456 c.args.parts.now);
      few_symbols = omega (arith, ap length c.first_of-2.ensures, length-take 536870912 c.args.symbols.now);
    }
