use Rattle.std.proofs.Common.{◌≡◌, bytes_eq, drop, ap, sym, subst}
use Rattle.tt_tables.specs.Counts.{CountsUses}
use Rattle.tt_tables.specs.Uses.{same_part, part_uses, symbol_uses}
use Rattle.test_sweep_trees.proofs.counted.Counted.packed.Goals as goal

pub invariant_of-result : goal.invariant_of-result
invariant_of-result c =
    let same : c.args.self.list.items ≡ c.in-Err.refused.value.items = sym (ap (λ list. list.items) c.in-Err.ensures.list) in
    record {
      part_counts = subst (λ list. CountsUses same_part (part_uses (drop 1 list)) c.args.self.parts.now.entries) same c.args.self.part_counts;
      symbol_counts = subst (λ list. CountsUses bytes_eq (symbol_uses (drop 1 list)) c.args.self.symbols.now.entries) same c.args.self.symbol_counts;
    }
