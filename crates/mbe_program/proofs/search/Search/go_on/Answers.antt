use Rattle.std.proofs.Common.{subst, arith}
use Rattle.std.proofs.lemmas.Result.{err_from_is_err_and}
use Rattle.mbe_program.specs.Moving.{AreMoves, instructions_of}
use Rattle.mbe_program.specs.Positions.{table_of}
use Rattle.mbe_program.specs.declared.moves.Moves.TheVariants as moves
use Rattle.mbe_program.proofs.GoingOn.{from_within, next_within, on_nowhere, on_one, on_two}
use Rattle.mbe_program.proofs.Indices.{has_cell_too}
use Rattle.mbe_program.proofs.Results.{on_err, on_three}
use Rattle.mbe_program.proofs.search.Search.go_on.Goals as goal

pub index-from-requires : goal.index-from-requires
index-from-requires c = omega (arith, c.requires.number, c.args.self.now.log.ok.0)

pub moves_from-requires : goal.moves_from-requires
moves_from-requires c =
    from_within c.args.program.now (table_of c.args.positions.now) c.args.number c.args.self.now c.index-from.result.now c.requires.table c.requires.gone_on c.requires.number c.index-from.ensures

pub returns-in_err-moves_from : goal.returns-in_err-moves_from
returns-in_err-moves_from c = let fault = err_from_is_err_and c.from_residual.result c.from_residual.ensures.1 in on_err _ c.from_residual.result fault.0 fault.1

pub arrival_by-requires : goal.arrival_by-requires
arrival_by-requires c = omega (arith, c.requires.number, c.args.self.now.log.ok.0, c.args.self.now.log.small)

pub add-requires-clause-cell : goal.add-requires-clause-cell
add-requires-clause-cell c =
    let are : AreMoves (instructions_of c.args.program.now) (table_of c.args.positions.now) c.index-from.result.now.cell (moves.One c.in-One.step) =
    subst (AreMoves (instructions_of c.args.program.now) (table_of c.args.positions.now) c.index-from.result.now.cell) c.in-One.is c.in_ok-moves_from.ensures in
    next_within c.args.program.now (table_of c.args.positions.now) c.args.number c.args.self.now c.index-from.result.now c.requires.table c.requires.gone_on c.requires.number c.index-from.ensures
    c.in-One.step c.arrival_by.result c.arrival_by.ensures are.0

pub add-requires-clause-roomy : goal.add-requires-clause-roomy
add-requires-clause-roomy c = c.requires.gone_on.roomy

pub arrival_by-requires-in-Two : goal.arrival_by-requires-in-Two
arrival_by-requires-in-Two c = omega (arith, c.requires.number, c.args.self.now.log.ok.0, c.args.self.now.log.small)

pub add-requires-in-Two-clause-cell : goal.add-requires-in-Two-clause-cell
add-requires-in-Two-clause-cell c =
    let are : AreMoves (instructions_of c.args.program.now) (table_of c.args.positions.now) c.index-from.result.now.cell (moves.Two c.in-Two.one c.in-Two.other) =
    subst (AreMoves (instructions_of c.args.program.now) (table_of c.args.positions.now) c.index-from.result.now.cell) c.in-Two.is c.in_ok-moves_from.ensures in
    next_within c.args.program.now (table_of c.args.positions.now) c.args.number c.args.self.now c.index-from.result.now c.requires.table c.requires.gone_on c.requires.number c.index-from.ensures
    c.in-Two.one c.arrival_by-in-Two.result c.arrival_by-in-Two.ensures are.0

pub add-requires-in-Two-clause-roomy : goal.add-requires-in-Two-clause-roomy
add-requires-in-Two-clause-roomy c = c.requires.gone_on.roomy

pub returns-in_err-add-in-Two : goal.returns-in_err-add-in-Two
returns-in_err-add-in-Two c =
    let fault = err_from_is_err_and c.from_residual-in_err-add-in-Two.result c.from_residual-in_err-add-in-Two.ensures.1 in on_err _ c.from_residual-in_err-add-in-Two.result fault.0 fault.1

pub arrival_by-requires-in-Two-2 : goal.arrival_by-requires-in-Two-2
arrival_by-requires-in-Two-2 c = omega (arith, c.requires.number, c.args.self.now.log.ok.0, c.args.self.now.log.small)

pub add-requires-in-Two-2-clause-cell : goal.add-requires-in-Two-2-clause-cell
add-requires-in-Two-2-clause-cell c =
    let are : AreMoves (instructions_of c.args.program.now) (table_of c.args.positions.now) c.index-from.result.now.cell (moves.Two c.in-Two.one c.in-Two.other) =
    subst (AreMoves (instructions_of c.args.program.now) (table_of c.args.positions.now) c.index-from.result.now.cell) c.in-Two.is c.in_ok-moves_from.ensures in
    let within =
    next_within c.args.program.now (table_of c.args.positions.now) c.args.number c.args.self.now c.index-from.result.now c.requires.table c.requires.gone_on c.requires.number c.index-from.ensures
    c.in-Two.other c.arrival_by-in-Two-2.result c.arrival_by-in-Two-2.ensures are.1 in
    has_cell_too c.add-in-Two.new.self c.args.self.now c.arrival_by-in-Two-2.result.cell c.in_ok-add-in-Two.ensures.alike within

pub add-requires-in-Two-2-clause-roomy : goal.add-requires-in-Two-2-clause-roomy
add-requires-in-Two-2-clause-roomy c = c.in_ok-add-in-Two.ensures.now_roomy

pub returns-in-Nowhere : goal.returns-in-Nowhere
returns-in-Nowhere c =
    let are : AreMoves (instructions_of c.args.program.now) (table_of c.args.positions.now) c.index-from.result.now.cell moves.Nowhere =
    subst (AreMoves (instructions_of c.args.program.now) (table_of c.args.positions.now) c.index-from.result.now.cell) c.in-Nowhere.is c.in_ok-moves_from.ensures in
    on_nowhere c.args.program.now (table_of c.args.positions.now) c.args.number c.args.self.now c.index-from.result.now c.requires.table c.requires.gone_on c.requires.number c.index-from.ensures are

pub returns-in-One : goal.returns-in-One
returns-in-One c =
    let are : AreMoves (instructions_of c.args.program.now) (table_of c.args.positions.now) c.index-from.result.now.cell (moves.One c.in-One.step) =
    subst (AreMoves (instructions_of c.args.program.now) (table_of c.args.positions.now) c.index-from.result.now.cell) c.in-One.is c.in_ok-moves_from.ensures in
    on_three c.add.result
    (λ added roomy alike.
    on_one c.args.program.now (table_of c.args.positions.now) c.args.number c.args.self.now c.index-from.result.now c.requires.table c.requires.gone_on c.requires.number c.index-from.ensures
    c.add.new.self c.in-One.step c.arrival_by.result are c.arrival_by.ensures (added, roomy, alike))
    c.add.ensures.added c.add.ensures.now_roomy c.add.ensures.alike

pub returns-in_ok-add-in-Two : goal.returns-in_ok-add-in-Two
returns-in_ok-add-in-Two c =
    let are : AreMoves (instructions_of c.args.program.now) (table_of c.args.positions.now) c.index-from.result.now.cell (moves.Two c.in-Two.one c.in-Two.other) =
    subst (AreMoves (instructions_of c.args.program.now) (table_of c.args.positions.now) c.index-from.result.now.cell) c.in-Two.is c.in_ok-moves_from.ensures in
    let first = c.in_ok-add-in-Two.ensures in
    on_three c.add-in-Two-2.result
    (λ added roomy alike.
    on_two c.args.program.now (table_of c.args.positions.now) c.args.number c.args.self.now c.index-from.result.now c.requires.table c.requires.gone_on c.requires.number c.index-from.ensures
    c.add-in-Two.new.self c.add-in-Two-2.new.self c.in-Two.one c.in-Two.other c.arrival_by-in-Two.result c.arrival_by-in-Two-2.result are c.arrival_by-in-Two.ensures c.arrival_by-in-Two-2.ensures
    (first.added, first.now_roomy, first.alike) (added, roomy, alike))
    c.add-in-Two-2.ensures.added c.add-in-Two-2.ensures.now_roomy c.add-in-Two-2.ensures.alike
