use Rattle.std.proofs.Common.{◌≡◌, ◌-◌, ◌<◌, length, refl, arith, Some}
use Rattle.std.proofs.lemmas.Option.{slice_get_read}
use Rattle.std.specs.Prelude.{slice_get}
use Rattle.mbe_program.specs.Positions.{table_of}
use Rattle.mbe_program.proofs.Picking.{picked, picked_none}
use Rattle.mbe_program.proofs.Results.{if_ok}
use Rattle.mbe_program.proofs.moves.moves_from.Goals as goal

pub returns-then-cell-eq0 : goal.returns-then-cell-eq0
returns-then-cell-eq0 c =
    let none : c.args.cell.left ≡ 0 = omega arith in
    picked_none c.args.program.now (table_of c.args.positions.now) c.args.cell.left c.args.cell.position c.requires none

pub returns : goal.returns
returns c =
    let program = c.args.program.now in
    let left = c.args.cell.left in
    let some : 0 < left = omega arith in
    let less : length program - left < length program = omega (arith, some, c.requires) in
    let there : slice_get program (length program - left) ≡ Some c.index-program-all.result =
    slice_get_read program (length program) (length program - left) c.index-program-all.result refl less c.index-program-all.is in
    if_ok c.moves_of.result
    (λ moves h. picked program (table_of c.args.positions.now) left c.args.cell.position c.requires c.index-program-all.result moves some there h)
    c.moves_of.ensures
