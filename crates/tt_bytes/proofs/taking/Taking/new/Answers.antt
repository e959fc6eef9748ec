use Rattle.std.proofs.Common.{rules, []}
use Rattle.tt_bytes.specs.Uses.{AreUsed, HaveUses}
use Rattle.tt_bytes.proofs.Taken.{none_taken}
use Rattle.tt_bytes.proofs.taking.Taking.new.Goals as goal

pub invariant_of-result : goal.invariant_of-result
invariant_of-result c =
    let used : AreUsed c.args.tables.parts.now c.in_ok-no_part_uses.field-0.items [] = search (rules, c.in_ok-no_part_uses.ensures, c.requires.parts) in
    let have : HaveUses c.args.tables.symbols.now c.in_ok-new.field-0 [] = search (rules, c.in_ok-new.ensures, c.requires.symbols) in
    record {
      list = λ e. none_taken _ _ _ _ c.in_ok-new.field-0 c.in_ok-with_capacity.ensures.items used have;
      long = λ e. have.long;
      placed = λ e. have.placed;
      distinct = c.requires.symbols;
    }
