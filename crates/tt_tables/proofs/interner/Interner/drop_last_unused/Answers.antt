use Rattle.std.proofs.Common.{◌≡◌, ℕ, suc, ◌<◌, Some, slice_get, drop, ap, sym, subst, ◌∙◌}
use Rattle.std.specs.List.{AllByRecursion}
use Rattle.tt_tables.specs.Counts.{number_in, used_count}
use Rattle.tt_tables.specs.Interner.{entries_of}
use Rattle.tt_tables.proofs.UseCounts.{number_front, used_front}
use Rattle.tt_tables.proofs.interner.Interner.drop_last_unused.Goals as goal

pub invariant_of-self : goal.invariant_of-self
invariant_of-self g c =
    let counts = entries_of c.args.self.now in
    let len = c.len_to_last_used-len.result in
    let unused = subst (λ ns. AllByRecursion (λ number. number ≡ 0) (drop len ns)) c.numbers.ensures c.len_to_last_used-len.ensures.unused in
    record {
      distinct = c.truncate.ensures.unique;
      tallied = c.args.self.now.tallied ∙ sym (ap used_count c.truncate.ensures.entries ∙ used_front counts len unused);
    }

pub returns-clause-cut : goal.returns-clause-cut
returns-clause-cut g c =
    let len = c.len_to_last_used-len.result in
    record {
      len = len;
      front = c.truncate.ensures.entries;
      unused = subst (λ ns. AllByRecursion (λ number. number ≡ 0) (drop len ns)) c.numbers.ensures c.len_to_last_used-len.ensures.unused;
      ends_used = subst (λ ns. (k : ℕ) → len ≡ suc k → (number : ℕ) × (slice_get ns k ≡ Some number) × (0 < number)) c.numbers.ensures c.len_to_last_used-len.ensures.ends_used;
    }

pub returns-clause-numbers : goal.returns-clause-numbers
returns-clause-numbers g c = λ x.
    let counts = entries_of c.args.self.now in
    let len = c.len_to_last_used-len.result in
    let unused = subst (λ ns. AllByRecursion (λ number. number ≡ 0) (drop len ns)) c.numbers.ensures c.len_to_last_used-len.ensures.unused in
    ap (λ entries. number_in g.T.PartialEq.eq entries x) c.truncate.ensures.entries ∙ number_front g.T.PartialEq.eq counts len x unused
