use Rattle.std.proofs.Common.{◌≡◌, ◌-◌, length, take, sym, subst, rules}
use Rattle.tt_base.specs.Forest.{flat}
use Rattle.tt_tables.specs.Stored.{packed}
use Rattle.tt_tables.specs.TableOrder.{IsTable}
use Rattle.tt_tables.specs.Tables.{short_parts}
use Rattle.tt_tables.specs.Uses.{same_part, part_uses}
use Rattle.tt_tables.proofs.StoredTables.{stored_part_table}
use Rattle.tt_pack.proofs.packed.Packed.parts.Goals as goal

pub returns-clause-table : goal.returns-clause-table
returns-clause-table c =
    let root = c.args.self.now in
    let value : c.as_slice.result.now ≡ (packed root).parts = search rules in
    subst (λ parts. IsTable same_part short_parts (part_uses (flat root.children)) (take (length parts - 2) parts)) (sym value) (stored_part_table root)
