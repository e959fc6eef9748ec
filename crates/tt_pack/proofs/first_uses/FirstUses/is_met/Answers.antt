use Rattle.std.proofs.Common.{◌≡◌, Some, slice_get, refl, arith}
use Rattle.std.proofs.lemmas.Option.{slice_get_read}
use Rattle.tt_pack.proofs.Ranks.{met_there, met_past}
use Rattle.tt_pack.proofs.first_uses.FirstUses.is_met.Goals as goal

pub returns-then-rank-len : goal.returns-then-rank-len
returns-then-rank-len c =
    let ranks = c.args.self.now.ranks.items in
    let noted : slice_get ranks c.args.place ≡ Some c.index.result.now = slice_get_read ranks _ c.args.place _ refl c.requires.within c.index.ensures in
    met_past _ ranks c.args.place c.index.result.now c.requires.ranked noted (omega (arith, c.if-rank-len.true, c.len.ensures))

pub returns : goal.returns
returns c =
    let ranks = c.args.self.now.ranks.items in
    let order = c.args.self.now.order.items in
    let noted : slice_get ranks c.args.place ≡ Some c.index.result.now = slice_get_read ranks _ c.args.place _ refl c.requires.within c.index.ensures in
    let here : slice_get order c.index.result.now ≡ Some c.index-2.result.now = slice_get_read order _ c.index.result.now _ refl (omega (arith, c.if-rank-len.false, c.len.ensures)) c.index-2.ensures in
    met_there order ranks c.args.place c.index.result.now c.index-2.result.now c.requires.ranked noted here
