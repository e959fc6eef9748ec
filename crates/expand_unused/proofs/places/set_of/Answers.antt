use Rattle.std.proofs.Common.{rules, ◌<◌, length, slice_index_or, subst, sym, take}
use Rattle.std.proofs.lemmas.List.{take_all, take_more}
use Rattle.expand_unused.specs.Places.{defined_in, HasPlaces}
use Rattle.expand_unused.proofs.Adding.{one_more}
use Rattle.expand_unused.proofs.places.set_of.Goals as goal

pub loop-place-preserved : goal.loop-place-preserved
loop-place-preserved c =
    let places = c.args.places.now in
    let at = c.loop-place.place-index in
    let place = slice_index_or places at 0 in
    let within : at < length places = search rules in
    subst (λ these. HasPlaces these (defined_in c.insert.new.self)) (sym (take_more places at 0 within))
    (one_more (take at places) place (defined_in c.loop-place.set) (defined_in c.insert.new.self) c.loop-place.invariant c.in_ok-insert.ensures.updates.0)

pub returns : goal.returns
returns c =
    let places = c.args.places.now in
    let at = c.loop-place.place-index in
    subst (λ these. HasPlaces these (defined_in c.loop-place.set)) (take_all at places c.loop-place-test.false) c.loop-place.invariant
