use Rattle.std.proofs.Common.{◌≡◌, ◌+◌, ℕ, suc, [], false, map, length, ap, sym, subst, arith}
use Rattle.std.proofs.lemmas.List.{length-map}
use Rattle.std.proofs.lemmas.Result.{err_from_is_err_and}
use Rattle.mbe_matcher.specs.Marks.{Note}
use Rattle.mbe_program.specs.Moving.{instruction_of, instructions_of}
use Rattle.mbe_program.specs.Positions.{table_of}
use Rattle.mbe_program.specs.Searching.{coming_of, log_of, HasRows}
use Rattle.mbe_program.specs.Ways.{Coming}
use Rattle.mbe_program.specs.declared.cell.Cell.{Cell}
use Rattle.mbe_program.proofs.Beginning.{begun}
use Rattle.mbe_program.proofs.Indices.{has_cell}
use Rattle.mbe_program.proofs.Results.{if_err}
use Rattle.mbe_program.proofs.search.begin.Goals as goal

pub returns-in_err-search : goal.returns-in_err-search
returns-in_err-search c = let fault = err_from_is_err_and c.from_residual.result c.from_residual.ensures.1 in if_err _ c.from_residual.result fault.0 fault.1

pub add-requires-clause-cell : goal.add-requires-clause-cell
add-requires-clause-cell c =
    let some = c.requires.1.some in
    has_cell c.in_ok-search.search c.len.result (length c.args.program.now + 1) c.in_ok-search.ensures.rows (record { position = 1; left = length c.args.program.now })
    (omega (arith, some, c.len.ensures, c.args.positions.now.all.ok.0)) (omega arith)

pub add-requires-clause-roomy : goal.add-requires-clause-roomy
add-requires-clause-roomy c =
    let none : length (log_of c.in_ok-search.search) ≡ 0 = ap (λ l. length (map coming_of l)) c.in_ok-search.ensures.log in
    omega (arith, none)

pub returns-in_err-add : goal.returns-in_err-add
returns-in_err-add c = let fault = err_from_is_err_and c.from_residual-in_err-add.result c.from_residual-in_err-add.ensures.1 in if_err _ c.from_residual-in_err-add.result fault.0 fault.1

pub returns : goal.returns
returns c =
    let program = instructions_of c.args.program.now in
    let table = table_of c.args.positions.now in
    let old = c.in_ok-search.search in
    let first = λ (left : ℕ). let it : Coming Cell Note = record { cell = record { position = 1; left = left }; before = 0; notes = []; is_many = false } in it in
    let first_is : first (length c.args.program.now) ≡ first (length program) = ap first (sym (length-map c.args.program.now instruction_of)) in
    let nothing : log_of old ≡ [] = ap (map coming_of) c.in_ok-search.ensures.log in
    let rows = c.in_ok-search.ensures.rows in
    let count = length-map c.args.program.now instruction_of in
    let width : length c.args.program.now + 1 ≡ suc (length program) = omega (arith, count) in
    let positions : c.len.result ≡ table.count = omega (arith, c.len.ensures, c.args.positions.now.all.ok.0) in
    let sized : HasRows table.count (suc (length program)) old = subst (λ n. HasRows n (suc (length program)) old) positions (subst (λ n. HasRows c.len.result n old) width rows) in
    begun program table c.requires.0 c.requires.1 old c.add.new.self (first (length c.args.program.now)) c.in_ok-search.ensures.none nothing sized first_is
    c.in_ok-add.ensures.added c.in_ok-add.ensures.now_roomy c.in_ok-add.ensures.alike
