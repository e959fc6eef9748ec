use Rattle.std.proofs.Common.{◌∙◌}
use Rattle.tt_tables.proofs.Interned.{entries_distinct}
use Rattle.tt_tables.proofs.UseCounts.{used_different}
use Rattle.tt_tables.specs.Interner.{entries_of}
use Rattle.tt_tables.proofs.interner.Interner.used.Goals as goal

pub returns : goal.returns
returns g c = λ uses right.
    let it = c.args.self.now in
    it.tallied ∙ used_different g.T.PartialEq.eq g.met.T.Eq.laws c.requires uses (entries_of it) (entries_distinct it) right
