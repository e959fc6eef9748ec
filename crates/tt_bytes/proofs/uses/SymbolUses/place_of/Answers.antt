use Rattle.std.proofs.Common.{rules, ◌≡◌, ◌<◌, Some, get_or, length, slice_get, refl, arith}
use Rattle.std.proofs.lemmas.Option.{slice_get_read}
use Rattle.tt_bytes.proofs.SymbolsUsed.{used_again}
use Rattle.tt_bytes.proofs.uses.SymbolUses.place_of.Goals as goal

pub returns : goal.returns
returns c before are =
    let read : c.index-place.result.now ≡ get_or c.args.self.now.places.items c.args.symbol c.index-place.result.now = search rules in
    let within : c.args.symbol < length c.args.self.now.places.items = search (rules, arith) in
    let noted : slice_get c.args.self.now.places.items c.args.symbol ≡ Some c.index-place.result.now =
    slice_get_read c.args.self.now.places.items _ c.args.symbol c.index-place.result.now refl within read in
    used_again _ _ _ _ _ before are noted (search (rules, arith)) (search (rules, c.add_use.ensures)) refl refl
