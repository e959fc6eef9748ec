use Rattle.std.proofs.Common.{[], ◌∙◌, sym, subst}
use Rattle.tt_tables.specs.Counts.{CountsMore}
use Rattle.tt_tables.specs.Interner.{entries_of}
use Rattle.tt_tables.proofs.Places.{distinct_still, used_still}
use Rattle.tt_tables.proofs.UseCounts.{counts_with_entry}
use Rattle.tt_tables.proofs.interner.Interner.place_of.Goals as goal

pub invariant_of-self : goal.invariant_of-self
invariant_of-self g c =
    let it = c.args.self.now in
    record {
      distinct = distinct_still g.T.PartialEq.eq c.insert.result (entries_of it) c.insert.new.entries.entries it.distinct c.insert.ensures.distinct c.insert.ensures.err;
      tallied = it.tallied ∙ sym (used_still g.T.PartialEq.eq c.insert.result (entries_of it) c.insert.new.entries.entries c.args.value.now c.insert.ensures.ok c.insert.ensures.err);
    }

pub returns-clause-stays : goal.returns-clause-stays
returns-clause-stays g c = subst (CountsMore g.T.PartialEq.eq [] (entries_of c.args.self.now)) (sym c.in_ok-index.ensures.ok) (counts_with_entry g.T.PartialEq.eq (entries_of c.args.self.now) c.args.value.now)
