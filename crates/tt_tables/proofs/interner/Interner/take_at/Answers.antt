use Rattle.std.proofs.Common.{◌≡◌, ◌∙◌, Some, None, sym, subst, arith}
use Rattle.std.specs.List.{IsDistinct}
use Rattle.tt_tables.specs.Interner.{entries_of}
use Rattle.tt_tables.proofs.Places.{used_less, stands_at, number_there, one_less, keys_kept, no_value_behind}
use Rattle.tt_tables.proofs.interner.Interner.take_at.Goals as goal

pub returns-then-index-len-clause-less : goal.returns-then-index-len-clause-less
returns-then-index-len-clause-less g c = λ x at. absurd (no_value_behind (entries_of c.args.self.now) c.args.place x (omega (arith, c.len.ensures.len, c.if-index-len.true)) at)

pub overflow_sub-uses : goal.overflow_sub-uses
overflow_sub-uses g c =
    let it = c.args.self.now in
    let value = c.pair_mut-uses.ensures.value in
    let number = number_there (entries_of it) c.args.place _ _ value g.T.PartialEq.eq g.met.T.Eq.laws it.distinct in
    omega (arith, c.requires.some c.pair_mut-uses.result.0.now (stands_at (entries_of it) c.args.place _ _ value), number)

pub overflow_sub-self : goal.overflow_sub-self
overflow_sub-self g c =
    let it = c.args.self.now in
    let value = c.pair_mut-uses.ensures.value in
    let number = number_there (entries_of it) c.args.place _ _ value g.T.PartialEq.eq g.met.T.Eq.laws it.distinct in
    let some = c.requires.some c.pair_mut-uses.result.0.now (stands_at (entries_of it) c.args.place _ _ value) in
    omega (arith, it.tallied, c.from.ensures, used_less (entries_of it) c.args.place _ _ value (omega (arith, some, number)))

pub invariant_of-self : goal.invariant_of-self
invariant_of-self g c =
    let it = c.args.self.now in
    let value = c.pair_mut-uses.ensures.value in
    let number = number_there (entries_of it) c.args.place _ _ value g.T.PartialEq.eq g.met.T.Eq.laws it.distinct in
    let some = c.requires.some c.pair_mut-uses.result.0.now (stands_at (entries_of it) c.args.place _ _ value) in
    record {
      distinct = subst (IsDistinct g.T.PartialEq.eq) (sym (keys_kept (entries_of it) c.args.place _)) it.distinct;
      tallied = omega (arith, it.tallied, c.from.ensures, used_less (entries_of it) c.args.place _ _ value (omega (arith, some, number)));
    }

pub returns-clause-less : goal.returns-clause-less
returns-clause-less g c =
    let it = c.args.self.now in
    let value = c.pair_mut-uses.ensures.value in
    let number = number_there (entries_of it) c.args.place _ _ value g.T.PartialEq.eq g.met.T.Eq.laws it.distinct in
    let some = c.requires.some c.pair_mut-uses.result.0.now (stands_at (entries_of it) c.args.place _ _ value) in
    one_less (entries_of it) c.args.place _ _ value g.T.PartialEq.eq g.met.T.Eq.laws it.distinct c.requires.same (omega (arith, some, number))

pub returns-clause-values : goal.returns-clause-values
returns-clause-values g c = keys_kept (entries_of c.args.self.now) c.args.place _

pub returns-clause-none : goal.returns-clause-none
returns-clause-none g c = λ none.
    let both : None ≡ Some c.pair_mut-uses.result.0.now = sym none ∙ stands_at (entries_of c.args.self.now) c.args.place _ _ c.pair_mut-uses.ensures.value in
    absurd (cc both)
