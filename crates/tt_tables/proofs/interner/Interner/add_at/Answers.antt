use Rattle.std.proofs.Common.{◌≡◌, ◌∙◌, Some, None, sym, subst, arith}
use Rattle.std.specs.List.{IsDistinct}
use Rattle.tt_tables.specs.Interner.{entries_of}
use Rattle.tt_tables.proofs.Places.{used_more, used_within, stands_at, number_there, one_more, keys_kept, no_value_behind}
use Rattle.tt_tables.proofs.interner.Interner.add_at.Goals as goal

pub returns-then-index-len-clause-more : goal.returns-then-index-len-clause-more
returns-then-index-len-clause-more g c = λ x at. absurd (no_value_behind (entries_of c.args.self.now) c.args.place x (omega (arith, c.len.ensures.len, c.if-index-len.true)) at)

pub overflow_add-self : goal.overflow_add-self
overflow_add-self g c =
    let it = c.args.self.now in
    omega (arith, it.tallied, c.from.ensures, used_within (entries_of it) c.args.place _ _ c.pair_mut-uses.ensures.value, c.len.ensures.len, c.len.type_inv)

pub overflow_add-uses : goal.overflow_add-uses
overflow_add-uses g c =
    let it = c.args.self.now in
    omega (arith, c.requires.room c.pair_mut-uses.result.0.now, number_there (entries_of it) c.args.place _ _ c.pair_mut-uses.ensures.value g.T.PartialEq.eq g.met.T.Eq.laws it.distinct)

pub invariant_of-self : goal.invariant_of-self
invariant_of-self g c =
    let it = c.args.self.now in
    record {
      distinct = subst (IsDistinct g.T.PartialEq.eq) (sym (keys_kept (entries_of it) c.args.place _)) it.distinct;
      tallied = omega (arith, it.tallied, c.from.ensures, used_more (entries_of it) c.args.place _ _ c.pair_mut-uses.ensures.value);
    }

pub returns-clause-more : goal.returns-clause-more
returns-clause-more g c =
    let it = c.args.self.now in
    one_more (entries_of it) c.args.place _ _ c.pair_mut-uses.ensures.value g.T.PartialEq.eq g.met.T.Eq.laws it.distinct c.requires.same

pub returns-clause-values : goal.returns-clause-values
returns-clause-values g c = keys_kept (entries_of c.args.self.now) c.args.place _

pub returns-clause-none : goal.returns-clause-none
returns-clause-none g c = λ none.
    let both : None ≡ Some c.pair_mut-uses.result.0.now = sym none ∙ stands_at (entries_of c.args.self.now) c.args.place _ _ c.pair_mut-uses.ensures.value in
    absurd (cc both)
