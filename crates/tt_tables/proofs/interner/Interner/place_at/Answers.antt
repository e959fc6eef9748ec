use Rattle.std.proofs.Common.{ap, sym, ◌∙◌, slice_get}
use Rattle.std.proofs.lemmas.Map.Keys.{any_passes_from_place}
use Rattle.std.specs.Map.{keys_of}
use Rattle.tt_tables.specs.Interner.{entries_of}
use Rattle.tt_tables.proofs.Places.{entry_there}
use Rattle.tt_tables.proofs.interner.Interner.place_at.Goals as goal

pub returns-then-is_at-clause-ok : goal.returns-then-is_at-clause-ok
returns-then-is_at-clause-ok g c =
    let counts = entries_of c.args.self.now in
    let stands = ap (λ xs. slice_get xs c.args.place) (sym c.values.ensures) ∙ c.if-is_at.ensures in
    sym (entry_there g.T.PartialEq.eq counts c.args.value.now (any_passes_from_place _ (keys_of counts) c.args.place c.args.value.now stands (g.met.T.Eq.laws.refl c.args.value.now)))

pub returns-then-is_at-clause-place : goal.returns-then-is_at-clause-place
returns-then-is_at-clause-place g c = ap (λ xs. slice_get xs c.args.place) (sym c.values.ensures) ∙ c.if-is_at.ensures
