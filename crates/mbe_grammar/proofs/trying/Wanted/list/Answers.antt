-- The list is in order, and the unit is in it or behind it.
use Rattle.std.proofs.Common.{rules, ◌≡◌, false, true, take, insert, Some, subst, refl}
use Rattle.std.specs.Prelude.{slice_get}
use Rattle.mbe_grammar.specs.Tried.{rank_among, is_at}
use Rattle.mbe_grammar.proofs.Noting.{noted_before, noted_now, at_yes, at_no}
use Rattle.mbe_grammar.proofs.trying.Wanted.list.Goals as goal

pub returns-in_ok-insert-clause-noted : goal.returns-in_ok-insert-clause-noted
returns-in_ok-insert-clause-noted c =
    let old = c.args.self.now in
    let is : c.rank_among-rank.result ≡ rank_among c.args.unit old.units.items = search rules in
    let items : c.truncate.new.self.items ≡ take 8 (insert old.units.items c.rank_among-rank.result c.args.unit) = search rules in
    let no : is_at (slice_get old.units.items c.rank_among-rank.result) c.args.unit ≡ false = search rules in
    noted_now c.args.unit old (record { passed = old.passed; units = c.truncate.new.self }) refl
    (subst (λ k. c.truncate.new.self.items ≡ take 8 (insert old.units.items k c.args.unit)) is items)
    (subst (λ k. slice_get old.units.items k ≡ Some c.args.unit → ⊥) is (at_no (slice_get old.units.items c.rank_among-rank.result) c.args.unit no)) c.requires.short

pub returns-else-not-is_at-clause-noted : goal.returns-else-not-is_at-clause-noted
returns-else-not-is_at-clause-noted c =
    let old = c.args.self.now in
    let yes : is_at (slice_get old.units.items c.rank_among-rank.result) c.args.unit ≡ true = search rules in
    noted_before c.args.unit old c.rank_among-rank.result (at_yes (slice_get old.units.items c.rank_among-rank.result) c.args.unit yes) c.requires.short
