use Rattle.std.proofs.Common.{subst, rules}
use Rattle.tt_tables.specs.Meaning.{IsStored}
use Rattle.tt_tables.proofs.StoredAlike.{meaning_is}
use Rattle.tt_pack.specs.Packed.{stored_of}
use Rattle.tt_pack.proofs.Copies.{stored_again}
use Rattle.tt_pack.proofs.packed.Packed.clone.Goals as goal

pub invariant_of-result : goal.invariant_of-result
invariant_of-result c =
    let meaning = c.self.inside.meaning in
    ((meaning.0, stored_again meaning.0 _ _ _ _ _ _ _ meaning.1 (search rules) (search rules) (search rules)), tt)

pub returns-clause-ok : goal.returns-clause-ok
returns-clause-ok c =
    let meaning = c.self.inside.meaning in
    let is : IsStored (stored_of c.extend_from_slice.new.self.items c.extend_from_slice-2.new.self.items c.in_ok-symbols.symbols.items c.self.inside.len) c.args.self.now =
    subst (IsStored _) c.self.view_is (stored_again meaning.0 _ _ _ _ _ _ _ meaning.1 (search rules) (search rules) (search rules)) in
    search (rules, meaning_is, is)
