use Rattle.std.proofs.Common.{◌≡◌, ◌+◌, ◌≤◌, ◌∷◌, ◌++◌, [], suc, map, length, drop, ap, sym, subst, ◌∙◌, arith}
use Rattle.std.proofs.lemmas.List.{drop_all}
use Rattle.std.proofs.lemmas.Result.{err_from_is_err_and}
use Rattle.tt.specs.Forest.{end}
use Rattle.tt.specs.Iters.{rest_of}
use Rattle.tt.specs.Views.{trees_of}
use Rattle.mbe_program.specs.Moving.{instructions_of}
use Rattle.mbe_program.specs.Laying.{AreLaid, level_spots, pending, spot, spot_of, spots_of}
use Rattle.mbe_program.proofs.Laid.{laid_first}
use Rattle.mbe_program.proofs.LaidTable.{laid_table, spots_count}
use Rattle.mbe_program.proofs.Looking.{first_count}
use Rattle.mbe_program.proofs.Results.{if_err}
use Rattle.mbe_program.proofs.positions.lay_out.Goals as goal

pub returns-in_err-add-clause-table : goal.returns-in_err-add-clause-table
returns-in_err-add-clause-table c = let fault = err_from_is_err_and c.from_residual.result c.from_residual.ensures.1 in if_err _ c.from_residual.result fault.0 fault.1

pub returns-in_err-add-clause-count : goal.returns-in_err-add-clause-count
returns-in_err-add-clause-count c = let fault = err_from_is_err_and c.from_residual.result c.from_residual.ensures.1 in if_err _ c.from_residual.result fault.0 fault.1

pub returns-in_err-push-clause-table : goal.returns-in_err-push-clause-table
returns-in_err-push-clause-table c =
    let fault = err_from_is_err_and c.from_residual-in_err-push.result c.from_residual-in_err-push.ensures.1 in if_err _ c.from_residual-in_err-push.result fault.0 fault.1

pub returns-in_err-push-clause-count : goal.returns-in_err-push-clause-count
returns-in_err-push-clause-count c =
    let fault = err_from_is_err_and c.from_residual-in_err-push.result c.from_residual-in_err-push.ensures.1 in if_err _ c.from_residual-in_err-push.result fault.0 fault.1

pub returns-in_err-add_level-clause-table : goal.returns-in_err-add_level-clause-table
returns-in_err-add_level-clause-table c =
    let fault = err_from_is_err_and c.from_residual-in_err-add_level.result c.from_residual-in_err-add_level.ensures.1 in if_err _ c.from_residual-in_err-add_level.result fault.0 fault.1

pub returns-in_err-add_level-clause-count : goal.returns-in_err-add_level-clause-count
returns-in_err-add_level-clause-count c =
    let fault = err_from_is_err_and c.from_residual-in_err-add_level.result c.from_residual-in_err-add_level.ensures.1 in if_err _ c.from_residual-in_err-add_level.result fault.0 fault.1

pub returns-in_err-look_into-clause-table : goal.returns-in_err-look_into-clause-table
returns-in_err-look_into-clause-table c =
    let fault = err_from_is_err_and c.from_residual-in_err-look_into.result c.from_residual-in_err-look_into.ensures.1 in if_err _ c.from_residual-in_err-look_into.result fault.0 fault.1

pub returns-in_err-look_into-clause-count : goal.returns-in_err-look_into-clause-count
returns-in_err-look_into-clause-count c =
    let fault = err_from_is_err_and c.from_residual-in_err-look_into.result c.from_residual-in_err-look_into.ensures.1 in if_err _ c.from_residual-in_err-look_into.result fault.0 fault.1

pub loop-number-init : goal.loop-number-init
loop-number-init c =
    let input = rest_of c.args.input in
    let program = instructions_of c.args.program.now in
    let new = c.add_level.new.self in
    let outer : spots_of c.add.new.self ≡ spot 0 0 end ∷ [] =
    c.in_ok-add.ensures.spots ∙ ap (λ l. map spot_of l ++ spot 0 0 (trees_of c.empty.result) ∷ []) c.new.ensures.items ∙ ap (λ trees. spot 0 0 trees ∷ []) c.empty.ensures in
    let spots : spots_of new ≡ spot 0 0 end ∷ level_spots 0 0 input = c.in_ok-add_level.ensures.spots ∙ ap (λ l. l ++ level_spots 0 0 input) outer in
    let kept : new.insides ≡ c.push.new.self = c.add_level.ensures.insides in
    let was : c.add.new.self.insides ≡ c.new-2.result = c.add.ensures.insides in
    let insides : new.insides.items ≡ 0 ∷ [] =
    ap (λ v. v.items) kept ∙ c.in_ok-push.ensures.items ∙ ap (λ v. v.items ++ 0 ∷ []) was ∙ ap (λ l. l ++ 0 ∷ []) c.new-2.ensures.items in
    let count : length new.insides.items ≡ 1 = ap length insides in
    let many = ap length spots in
    record {
      laid = subst (λ l. AreLaid program input l new.insides.items) (sym spots) (subst (AreLaid program input (spot 0 0 end ∷ level_spots 0 0 input)) (sym insides) (laid_first program input));
      count = count;
      some = omega arith;
      upto = omega (arith, many);
      pending = omega (arith, ap (λ l. length l + pending (drop 1 l)) spots, first_count input);
    }

pub look_into-requires-clause-number : goal.look_into-requires-clause-number
look_into-requires-clause-number c = omega (arith, c.loop-number-test.true, c.len.ensures, c.loop-number.positions.all.ok.0)

pub look_into-requires-clause-some : goal.look_into-requires-clause-some
look_into-requires-clause-some c = c.loop-number.invariant.some

pub look_into-requires-clause-count : goal.look_into-requires-clause-count
look_into-requires-clause-count c = c.loop-number.invariant.count

pub look_into-requires-clause-laid : goal.look_into-requires-clause-laid
look_into-requires-clause-laid c = (rest_of c.args.input, c.loop-number.invariant.laid)

pub overflow_add-number : goal.overflow_add-number
overflow_add-number c = omega (arith, c.loop-number-test.true, c.len.type_inv)

pub loop-number-smaller : goal.loop-number-smaller
loop-number-smaller c =
    let all = c.loop-number.invariant.pending in
    let count = spots_count c.loop-number.positions in
    omega (arith, all, count, c.loop-number-test.true, c.len.ensures, c.loop-number.positions.all.ok.0)

pub loop-number-preserved : goal.loop-number-preserved
loop-number-preserved c =
    let next : c.loop-number.number + 1 ≡ suc c.loop-number.number = omega arith in
    let new = c.look_into.new.self in
    let grown = c.in_ok-look_into.ensures.grown in
    let now_count = c.in_ok-look_into.ensures.now_count in
    let count = spots_count c.loop-number.positions in
    record {
      laid = c.in_ok-look_into.ensures.laid (rest_of c.args.input) c.loop-number.invariant.laid;
      count = omega (arith, now_count);
      some = omega arith;
      upto = omega (arith, grown, count, c.loop-number-test.true, c.len.ensures, c.loop-number.positions.all.ok.0);
      pending = omega (arith, ap (λ n. length (spots_of new) + pending (drop n (spots_of new))) next, c.in_ok-look_into.ensures.pending, c.loop-number.invariant.pending);
    }

pub returns-clause-table : goal.returns-clause-table
returns-clause-table c =
    let its = c.loop-number.positions in
    let count = spots_count its in
    let own = c.loop-number.invariant.count in
    let upto = c.loop-number.invariant.upto in
    let all : length its.insides.items ≡ length its.all.items = omega (arith, count, own, upto, c.loop-number-test.false, c.len.ensures, its.all.ok.0) in
    laid_table (instructions_of c.args.program.now) (rest_of c.args.input) its c.loop-number.invariant.laid all

pub returns-clause-count : goal.returns-clause-count
returns-clause-count c =
    let its = c.loop-number.positions in
    let count = spots_count its in
    let all = c.loop-number.invariant.pending in
    let over : length (spots_of its) ≤ c.loop-number.number = omega (arith, count, c.loop-number-test.false, c.len.ensures, its.all.ok.0) in
    let none = ap pending (drop_all c.loop-number.number (spots_of its) over) in
    omega (arith, count, all, none)
