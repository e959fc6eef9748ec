use Rattle.std.proofs.Common.{length, ap, arith}
use Rattle.tt_tables.specs.Stored.{packed}
use Rattle.tt_pack.proofs.packed.Packed.tables.Goals as goal

pub invariant_of-result : goal.invariant_of-result
unfolding packed
invariant_of-result c =
    let is = c.self.inside.meaning.1 in
    record {
      few_parts = omega (arith, ap length c.as_slice.ensures.value, ap (λ stored. length stored.parts) is.2, is.1.parts);
      few_symbols = omega (arith, ap length c.as_slice-2.ensures.value, ap (λ stored. length stored.symbols) is.2, is.1.symbols);
    }
