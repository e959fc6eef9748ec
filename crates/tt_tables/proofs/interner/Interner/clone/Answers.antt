use Rattle.std.proofs.Common.{◌≡◌, sym, subst}
use Rattle.std.specs.List.{IsDistinct}
use Rattle.std.specs.Map.{keys_of}
use Rattle.tt_tables.specs.Counts.{used_count}
use Rattle.tt_tables.specs.Interner.{entries_of}
use Rattle.tt_tables.proofs.Places.{copied}
use Rattle.tt_tables.proofs.interner.Interner.clone.Goals as goal

pub invariant_of-result : goal.invariant_of-result
invariant_of-result g c =
    let same : c.in_ok-clone.field-0.entries ≡ entries_of c.args.self.now = copied g.T.Clone.is_clone c.requires (entries_of c.args.self.now) c.in_ok-clone.field-0.entries c.in_ok-clone.ensures.cases in
    record {
      distinct = subst (λ entries. IsDistinct g.T.PartialEq.eq (keys_of entries)) (sym same) c.args.self.now.distinct;
      tallied = subst (λ entries. c.args.self.now.used ≡ used_count entries) (sym same) c.args.self.now.tallied;
    }

pub returns : goal.returns
returns g c = copied g.T.Clone.is_clone c.requires (entries_of c.args.self.now) c.in_ok-clone.field-0.entries c.in_ok-clone.ensures.cases
