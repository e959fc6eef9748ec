use Rattle.std.proofs.Common.{◌≡◌, length, drop, ap, sym, subst, arith, rules}
use Rattle.tt_base.specs.Forest.{flat}
use Rattle.tt_tables.specs.Tables.{tables_for}
use Rattle.tt_tables.specs.Shortest.{HasShortestHeaders}
use Rattle.tt_tables.specs.Stored.{packed, IsInRange, IsWithinLimits}
use Rattle.tt_tables.proofs.Lengths.{packed_length}
use Rattle.tt_tables.proofs.Shortest.{stored_shortest}
use Rattle.tt_pack.proofs.packed.Packed.bytes.Goals as goal

pub returns-clause-least : goal.returns-clause-least
returns-clause-least c =
    let value : c.as_slice.result.now ≡ (packed c.args.self.now).bytes = search rules in
    omega (arith, ap length value, (packed_length c.args.self.now).0)

pub returns-clause-most : goal.returns-clause-most
returns-clause-most c =
    let value : c.as_slice.result.now ≡ (packed c.args.self.now).bytes = search rules in
    omega (arith, ap length value, (packed_length c.args.self.now).1)

pub returns-clause-range : goal.returns-clause-range
returns-clause-range c = subst IsInRange c.self.view_is c.self.inside.meaning.1.0

pub returns-clause-limits : goal.returns-clause-limits
returns-clause-limits c = subst IsWithinLimits c.self.view_is c.self.inside.meaning.1.1

pub returns-clause-shortest : goal.returns-clause-shortest
returns-clause-shortest c =
    let root = c.args.self.now in
    let value : c.as_slice.result.now ≡ (packed root).bytes = search rules in
    subst (λ bytes. HasShortestHeaders (tables_for (flat root.children)) root.children (drop 33 bytes)) (sym value) (stored_shortest root)
